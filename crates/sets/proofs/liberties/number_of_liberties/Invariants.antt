-- `sets::liberties::number_of_liberties`: after some bytes the sum is the number of their points.
use Rattle.std.proofs.Common.{◌≡◌, ◌*◌}
use Rattle.rules.specs.Lists.{count, below}
use Rattle.sets.specs.Liberties.{has}
use Rattle.sets.proofs.liberties.number_of_liberties.Given as goal

abbrev pub invariant-loop-byte : goal.invariant-loop-byte
invariant-loop-byte l = l.sum ≡ count (has l.byte-items) (below (8 * l.byte-index))
