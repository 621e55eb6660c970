use Rattle.std.proofs.Common.{arith}
use Rattle.spelling.specs.Laws.Number.{digit-is, growing-more, growing-not, growing-whole}
use Rattle.spelling.proofs.number.number_of.Goals as goal

pub returns-then-not-is_ascii_digit : goal.returns-then-not-is_ascii_digit
returns-then-not-is_ascii_digit c =
    growing-not _ c.loop-digit.invariant (omega arith) (digit-is _ c.if-not-is_ascii_digit.ensures.value)

pub loop-digit-preserved : goal.loop-digit-preserved
loop-digit-preserved c =
    growing-more _ _ c.loop-digit.invariant (omega arith) (digit-is _ c.if-not-is_ascii_digit.ensures.value) c.grow-number.ensures

pub returns : goal.returns
returns c = growing-whole _ c.loop-digit.invariant (omega arith)
