use Rattle.std.proofs.Common.{◌∙◌, sym, arith}
use Rattle.spelling.specs.Laws.Steps.{count_none, count-bad, count-good, count-last}
use Rattle.spelling.proofs.number.count_numbers.Goals as goal

pub loop-word-init : goal.loop-word-init
loop-word-init c = (omega arith, count_none _)

pub returns-in_err-number_of : goal.returns-in_err-number_of
returns-in_err-number_of c =
    c.from_residual.ensures ∙ sym (c.loop-word.invariant.1 ∙ count-bad _ c.in-Some.ensures.parted c.in_err-number_of.ensures)

pub loop-word-preserved : goal.loop-word-preserved
loop-word-preserved c =
    (omega (arith, c.in-Some.ensures.shorter), c.loop-word.invariant.1 ∙ count-good _ c.in-Some.ensures.parted _ c.in_ok-number_of.ensures)

pub returns : goal.returns
returns c = count-last _ c.in_default.ensures.parted ∙ sym c.loop-word.invariant.1
