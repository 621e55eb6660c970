-- `refusal`: the code and the definition make the same tests, in the same order.
use Rattle.std.proofs.Common.{rules, Err, ◌≡◌, ap, sym, ◌∙◌, not, lt-ltb, le-ltb}
use Rattle.rules.specs.Answers.{OffBoard, BadColour}
use Rattle.points.specs.Reason.{answer_of}
use Rattle.points.specs.declared.answers.Refusal.TheVariants as Refusals
use Rattle.rules.proofs.Laws.Answers.{then-refused, then-accepted, refuses, passes, test-refuses, test-passes}
use Rattle.rules.proofs.Laws.Calls.{off-not-on}
use Rattle.points.proofs.Reasons.{refuses as reason-refuses, refused-so, refused-not, accepted-so}
use Rattle.listing.proofs.list.refusal.Goals as goal

pub returns-in_err-length_refusal-in-Coloured : goal.returns-in_err-length_refusal-in-Coloured
returns-in_err-length_refusal-in-Coloured c =
    let short = c.length_refusal-in-Coloured.ensures in
    let passed : c.from_residual.result ≡ Err c.in_err-length_refusal-in-Coloured.field-0.0 = search rules in
    rw c.in-Coloured.is
    (ap answer_of passed
    ∙ sym (then-refused _ _ (refused-not short c.in_err-length_refusal-in-Coloured.was) ∙ refused-so short c.in_err-length_refusal-in-Coloured.was))

pub returns-then-colour-gt-WHITE : goal.returns-then-colour-gt-WHITE
returns-then-colour-gt-WHITE c =
    rw c.in-Coloured.is
    (sym
    (then-accepted _ _ (accepted-so c.length_refusal-in-Coloured.ensures c.in_ok-length_refusal-in-Coloured.was)
    ∙ refuses BadColour (lt-ltb _ _ c.if-colour-gt-WHITE.true)))

pub returns-else-colour-gt-WHITE : goal.returns-else-colour-gt-WHITE
returns-else-colour-gt-WHITE c =
    rw c.in-Coloured.is
    (sym
    (then-accepted _ _ (accepted-so c.length_refusal-in-Coloured.ensures c.in_ok-length_refusal-in-Coloured.was)
    ∙ passes BadColour (le-ltb _ _ c.if-colour-gt-WHITE.false)))

pub returns-then-not-is_coord_valid : goal.returns-then-not-is_coord_valid
returns-then-not-is_coord_valid c =
    let a = c.args in
    rw c.in-At.is
    (sym
    (test-refuses OffBoard _ (reason-refuses Refusals.OffBoard)
    (off-not-on a.height a.width c.in-At.row c.in-At.column ∙ ap not (sym c.is_coord_valid.ensures ∙ c.if-not-is_coord_valid.true))))

pub returns-else-not-is_coord_valid : goal.returns-else-not-is_coord_valid
returns-else-not-is_coord_valid c =
    let a = c.args in
    rw c.in-At.is
    (c.length_refusal-in-At.ensures
    ∙ sym
    (test-passes OffBoard _
    (off-not-on a.height a.width c.in-At.row c.in-At.column ∙ ap not (sym c.is_coord_valid.ensures ∙ c.if-not-is_coord_valid.false))))
