-- `laying::lay::take_beside`: the points that are left lead to where all of them lead from the start.
use Rattle.std.proofs.Common.{drop}
use Rattle.rules.specs.Lists.{present}
use Rattle.laying.proofs.Beside.{Taking}
use Rattle.laying.proofs.lay.take_beside.Given as goal

abbrev pub invariant-loop-side : goal.invariant-loop-side
invariant-loop-side l = Taking l.initial.board l.enemy (present l.side-items) (present (drop l.side-index l.side-items)) l.side-index l.board l.taken l.prisoner
