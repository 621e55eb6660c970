-- `rows_apart` meets its contract: what is good so far is what all points passed say; the first begins a row.
use mathlib.Core.Path.{◌≡◌}
use Rattle.rules.specs.Lists.{all, below}
use Rattle.owning.specs.Owners.{owner_in, row_apart}
use Rattle.owning.proofs.owners.rows_apart.Given as goal

abbrev pub invariant-loop-point : goal.invariant-loop-point
invariant-loop-point l = l.good ≡ all (row_apart (owner_in l.owners) (owner_in l.notes) l.width) (below l.point)
