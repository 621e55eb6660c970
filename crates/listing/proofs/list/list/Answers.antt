-- `list`: the judge says which of the two it is.
use Rattle.rules.proofs.Laws.Lists.{not-both}
use Rattle.listing.specs.Lists.{Lists}
use Rattle.listing.specs.Laws.Answers.{answered-damaged, answered-true}
use Rattle.listing.proofs.list.list.Goals as goal

pub list_true-requires : goal.list_true-requires
list_true-requires c = c.judge.ensures.sound c.if-judge.true

pub returns-then-judge : goal.returns-then-judge
unfolding Lists
returns-then-judge c =
    answered-true _ _ _ _ (c.judge.ensures.sound c.if-judge.true)
    c.list_true.ensures

pub returns : goal.returns
unfolding Lists
returns c = answered-damaged _ _ _ _ (λ is. not-both (c.judge.ensures.complete is) c.if-judge.false)
