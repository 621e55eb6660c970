-- `laying::lay::put`: what the sides that are left take and add is what all of them took and added at first.
use Rattle.std.proofs.Common.{drop}
use Rattle.rules.specs.Lists.{present}
use Rattle.laying.proofs.Alone.{Passing}
use Rattle.laying.proofs.lay.put.Given as goal

abbrev pub invariant-loop-side : goal.invariant-loop-side
invariant-loop-side l = Passing l.initial.board l.point l.colour (present l.side-items) (present (drop l.side-index l.side-items)) l.board l.stone
