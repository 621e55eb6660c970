-- `all_placed` meets its contract: what is good so far is what all points passed say, first on the board and then beyond it.
use mathlib.Core.Path.{◌≡◌}
use Rattle.rules.specs.Lists.{all, below}
use Rattle.owning.specs.Owners.{owner_in, placed}
use Rattle.owning.proofs.owners.all_placed.Given as goal

abbrev pub invariant-loop-point : goal.invariant-loop-point
invariant-loop-point l = l.good ≡ all (placed l.height l.width (owner_in l.owners)) (below l.point)

abbrev pub invariant-loop-point-2 : goal.invariant-loop-point-2
invariant-loop-point-2 l = l.good ≡ all (placed l.height l.width (owner_in l.owners)) (below l.point)
