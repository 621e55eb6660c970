-- `all_found` meets its contract: what is good so far is what all points passed say.
use mathlib.Core.Path.{◌≡◌}
use lib.Dec.{leb}
use Rattle.rules.specs.Sizes.{slots}
use Rattle.rules.specs.Lists.{all, below}
use Rattle.owning.specs.Owners.{owner_in}
use Rattle.owning.proofs.owners.all_found.Given as goal

abbrev pub invariant-loop-point : goal.invariant-loop-point
invariant-loop-point l = l.good ≡ all (λ p. leb slots (owner_in l.notes p)) (below l.point)
