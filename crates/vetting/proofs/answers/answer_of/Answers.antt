-- `vetting::answers::answer_of`: the judge decides.
use Rattle.std.proofs.Common.{refl}
use Rattle.rules.proofs.Laws.Lists.{not-both}
use Rattle.vetting.specs.Laws.Answered.{judged-damaged, judged-accepted}
use Rattle.vetting.proofs.answers.answer_of.Goals as goal

pub returns-then-not-judge : goal.returns-then-not-judge
returns-then-not-judge c = judged-damaged (λ t. not-both (c.judge.ensures.complete t) (c.if-not-judge.true))

pub returns : goal.returns
returns c = judged-accepted (c.judge.ensures.sound (c.if-not-judge.false)) refl
