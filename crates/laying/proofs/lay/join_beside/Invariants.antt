-- `laying::lay::join_beside`: the points that are left lead to where all of them lead from the start.
use Rattle.std.proofs.Common.{drop}
use Rattle.rules.specs.Lists.{present}
use Rattle.laying.proofs.Beside.{Gathering}
use Rattle.laying.proofs.lay.join_beside.Given as goal

abbrev pub invariant-loop-side : goal.invariant-loop-side
invariant-loop-side l = Gathering l.initial.board l.point l.colour l.slot (present (drop l.side-index l.side-items)) l.board l.mine
