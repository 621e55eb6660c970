-- No reason for a refusal accepts, so its number is not 0; and what an answer of the code says of the answer of the rules.
use Rattle.std.specs.Prelude.{◌≡◌, ◌≢◌, true, false, Result, Ok, Err}
use Rattle.std.proofs.Common.{refl, sym, ap, ◌∙◌}
use Rattle.rules.specs.Answers.{Answer, accepts, number}
use Rattle.rules.proofs.Laws.Lists.{not-both}
use Rattle.rules.proofs.Laws.Answers.{accepts-zero}
use Rattle.points.specs.declared.answers.Refusal.{Refusal}
use Rattle.points.specs.declared.answers.Refusal.TheVariants.{BadSize, BadFlags, Damaged, GamePaused, OffBoard, PointNotEmpty, Suicide, Ko, SuperKo, FillEye, MoveLimit, HistoryFull, NotAtStart, NoLiberty, BadLength, BadColour, BadKind}
use Rattle.points.specs.Reason.{reason, answer_of}

pub refuses : (r : Refusal) → accepts (reason r) ≡ false
unfolding accepts number
refuses BadSize = refl
refuses BadFlags = refl
refuses Damaged = refl
refuses GamePaused = refl
refuses OffBoard = refl
refuses PointNotEmpty = refl
refuses Suicide = refl
refuses Ko = refl
refuses SuperKo = refl
refuses FillEye = refl
refuses MoveLimit = refl
refuses HistoryFull = refl
refuses NotAtStart = refl
refuses NoLiberty = refl
refuses BadLength = refl
refuses BadColour = refl
refuses BadKind = refl

pub nonzero : (r : Refusal) → number (reason r) ≢ 0
nonzero r z = not-both (accepts-zero (reason r) z) (refuses r)

module _ {a : Answer} {o : Result Unit Refusal} (said : answer_of o ≡ a) where
  -- refused for a reason, which is the answer
  module _ {r : Refusal} (e : o ≡ Err r) where
    pub refused-so : a ≡ reason r
    refused-so = sym said ∙ ap answer_of e

    pub refused-not : accepts a ≡ false
    refused-not = ap accepts refused-so ∙ refuses r

  pub accepted-so : {t : Unit} → o ≡ Ok t → accepts a ≡ true
  unfolding accepts number
  accepted-so e = ap accepts (sym said ∙ ap answer_of e)

  pub accepted-zero : {t : Unit} → o ≡ Ok t → number a ≡ 0
  unfolding number
  accepted-zero e = ap number (sym said ∙ ap answer_of e)
