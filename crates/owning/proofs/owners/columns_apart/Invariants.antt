-- `columns_apart` meets its contract: what is good so far is what all points passed say; above the first row nothing lies.
use mathlib.Core.Path.{◌≡◌}
use Rattle.rules.specs.Lists.{all, below}
use Rattle.owning.specs.Owners.{owner_in, column_apart}
use Rattle.owning.proofs.owners.columns_apart.Given as goal

abbrev pub invariant-loop-point : goal.invariant-loop-point
invariant-loop-point l = l.good ≡ all (column_apart (owner_in l.owners) (owner_in l.notes) l.width) (below l.point)
