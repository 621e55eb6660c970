-- `do_wrong`: the words of the fault.
use Rattle.std.proofs.Common.{arith}
use Rattle.objecting.specs.Faults.{fault}
use Rattle.acting.specs.Laws.Says.{said-says, text-short}
use Rattle.acting.proofs.act.do_wrong.Goals as goal

pub returns : goal.returns
returns g c =
    let p = c.put_fault.ensures in
    said-says _ _ _ _ p.put (omega (arith, text-short c.args.out.now.items (fault c.args.wrong) 64 p.put p.upper_bound))
