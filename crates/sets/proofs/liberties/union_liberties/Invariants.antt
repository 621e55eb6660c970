-- `sets::liberties::union_liberties`: after i turns the first i bytes are joined, and the others are a's.
use Rattle.std.proofs.Common.{◌≡◌}
use Rattle.sets.proofs.Merge.{merged}
use Rattle.sets.proofs.liberties.union_liberties.Given as goal

abbrev pub invariant-loop-i : goal.invariant-loop-i
invariant-loop-i l = l.a ≡ merged l.i l.initial.a l.b
