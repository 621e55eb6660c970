-- `number_of`: all before the place are digits, and the number is theirs.
use Rattle.spelling.specs.Laws.Number.{Growing}
use Rattle.spelling.proofs.number.number_of.Given as goal

abbrev pub invariant-loop-digit : goal.invariant-loop-digit
invariant-loop-digit l = Growing l.word l.number l.digit-index
