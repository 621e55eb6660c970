-- `table` meets its contract: the table's rule, computed once over all of its entries. Assumes nothing.
use mathlib.Core.Path.{refl}
use Rattle.rules.specs.Hash.{next_entry, entry}
use Rattle.hashing.proofs.Table.{follows-tabulate}
use Rattle.hashing.proofs.zobrist.table.Goals as goal

pub returns : goal.returns
unfolding next_entry
returns c = follows-tabulate next_entry entry (λ k. refl) _ 0 tt
