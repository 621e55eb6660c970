-- `to_vec`: the judge says which of the two it is.
use Rattle.rules.proofs.Laws.Lists.{not-both}
use Rattle.listing.specs.Laws.Answers.{answered-damaged, answered-true}
use Rattle.drawing.proofs.draw.to_vec.Goals as goal

pub colours_true-requires : goal.colours_true-requires
colours_true-requires c = c.judge.ensures.sound c.if-judge.true

pub returns-then-judge : goal.returns-then-judge
returns-then-judge c =
    answered-true _ _ _ _ (c.judge.ensures.sound c.if-judge.true)
    c.colours_true.ensures

pub returns : goal.returns
returns c = answered-damaged _ _ _ _ (λ is. not-both (c.judge.ensures.complete is) c.if-judge.false)
