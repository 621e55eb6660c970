-- `told`: refused by one of the three tests, or left to the fourth.
use mathlib.Core.Bool.{not, ◌&&◌}
use borrow.Author.Rules.{rules}
use Rattle.std.specs.Prelude.{Err}
use mathlib.Core.Path.{◌≡◌, refl, sym, ap, ◌∙◌}
use Rattle.rules.specs.Lists.{any}
use Rattle.rules.specs.Flags.{KO, SUICIDE, FILLEYE, forbids}
use Rattle.rules.specs.Tests.{eye}
use Rattle.rules.specs.Answers.{Accepted, number, accepts}
use Rattle.points.specs.Reason.{reason, answer_of}
use Rattle.legality.specs.Near.{besides, saves, catches_more}
use Rattle.points.proofs.Reasons.{refuses}
use Rattle.checking.specs.Told.{first_refusal, told_as}
use Rattle.checking.specs.Laws.Told.{told-refused, told_free, told-superko}
use Rattle.checking.proofs.refusal.told.Goals.{After-first_refusal}
use Rattle.checking.proofs.refusal.told.Goals as goal

-- the three tests, by what stands near
first : (c : After-first_refusal)
    → let a = c.args in
    answer_of c.first_refusal.result
    ≡ first_refusal (forbids a.flags SUICIDE && not (any (saves a.colour) (besides a.near)))
    (forbids a.flags KO && (a.at_ko_point && not (any catches_more (besides a.near))))
    (forbids a.flags FILLEYE && eye a.height a.width a.colours.now a.colour a.point)
first c =
    c.first_refusal.ensures
    ∙ (λ i. first_refusal (c.refuses_suicide.ensures i) (c.refuses_ko.ensures i) (c.refuses_eye.ensures i))

pub returns-in_err-first_refusal : goal.returns-in_err-first_refusal
returns-in_err-first_refusal c =
    let r = c.in_err-first_refusal.field-0.0 in
    let given : c.from_residual.result ≡ Err r = search rules in
    ap told_as given
    ∙ told-refused _ _ _ _ _ _ (reason r) (sym (ap answer_of c.in_err-first_refusal.was) ∙ first (goal.at.returns-in_err-first_refusal c).After-first_refusal) (refuses r)

pub returns-then-not-forbids : goal.returns-then-not-forbids
unfolding accepts number
returns-then-not-forbids c =
    told_free _ _ _ _ _ _ Accepted (sym (ap answer_of c.in_ok-first_refusal.was) ∙ first (goal.at.returns-then-not-forbids c).After-first_refusal) refl
    (sym c.forbids.ensures ∙ c.if-not-forbids.true)

pub returns : goal.returns
unfolding accepts number
returns c =
    c.superko_told.ensures
    ∙ told-superko _ _ _ _ _ _ Accepted (sym (ap answer_of c.in_ok-first_refusal.was) ∙ first (goal.at.returns c).After-first_refusal) refl
    (sym c.forbids.ensures ∙ c.if-not-forbids.false)
