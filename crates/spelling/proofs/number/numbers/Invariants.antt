-- `numbers`: so many numbers of the text are found, and the others stand in the rest.
use Rattle.std.proofs.Common.{◌≡◌, length}
use Rattle.spelling.specs.Laws.Steps.{Upto}
use Rattle.spelling.proofs.number.numbers.Given as goal

abbrev pub invariant-loop-i : goal.invariant-loop-i
invariant-loop-i g l = Upto l.text l.rest l.found l.i × (length l.found ≡ g.row.N)
