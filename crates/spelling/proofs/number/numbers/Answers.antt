use Rattle.std.proofs.Common.{◌∙◌, sym, arith, length-set}
use Rattle.std.proofs.lemmas.List.{length-replicate}
use Rattle.spelling.specs.Laws.Steps.{upto-none, upto-more, upto-bad, upto-few, upto-whole, upto-many}
use Rattle.spelling.proofs.number.numbers.Goals as goal

pub loop-i-init : goal.loop-i-init
loop-i-init g c = (upto-none _ _, length-replicate g.row.N 0)

pub returns-in_err-word : goal.returns-in_err-word
returns-in_err-word g c = c.from_residual.ensures ∙ upto-few c.loop-i.invariant.0 _ c.in_err-word.ensures.parted c.loop-i-test.true

pub returns-in_err-found : goal.returns-in_err-found
returns-in_err-found g c =
    c.from_residual-in_err-found.ensures ∙ upto-bad c.loop-i.invariant.0 _ c.in_ok-word.ensures.parted _ c.in_err-found.ensures

pub loop-i-preserved : goal.loop-i-preserved
loop-i-preserved g c =
    let u = c.loop-i.invariant in
    (upto-more u.0 _ c.in_ok-word.ensures.parted _ c.in_ok-found.ensures (omega arith), omega (arith, length-set c.loop-i.found c.loop-i.i c.in_ok-found.field-0))

pub returns-then-at_end : goal.returns-then-at_end
returns-then-at_end g c = upto-whole c.loop-i.invariant.0 _ (sym c.if-at_end.ensures) c.loop-i.invariant.1 c.loop-i-test.false

pub returns-else-at_end : goal.returns-else-at_end
returns-else-at_end g c = upto-many c.loop-i.invariant.0 _ (sym c.if-at_end.ensures) c.loop-i-test.false
