-- `do_stone`: the number that the call answered.
use Rattle.std.proofs.Common.{refl}
use Rattle.telling.specs.Laws.Told.{told-lays}
use Rattle.acting.proofs.act.do_stone.Goals as goal

pub returns : goal.returns
returns g c = told-lays c.tell.ensures c.stone.ensures refl
