-- `legals_by`: the judge, then the refusals, then the list.
use mathlib.Core.Path.{◌≡◌, sym, ap, ◌∙◌}
use Rattle.rules.specs.Answers.{number}
use Rattle.rules.specs.Calls.{list_answer}
use Rattle.rules.proofs.Laws.Lists.{not-both}
use Rattle.listing.specs.Laws.Answers.{left-refused, left-filled}
use Rattle.points.specs.Reason.{answer_of}
use Rattle.points.proofs.Reasons.{nonzero, accepted-zero}
use Rattle.game.specs.View.{view_of}
use Rattle.checking.specs.Laws.Promise.{filled-damaged, filled-told}
use Rattle.legals.specs.Laws.Legals.{list-refused, refused-enough}
use Rattle.legals.proofs.list.legals_by.Goals.{After-refusal}
use Rattle.legals.proofs.list.legals_by.Goals as goal

-- the code's refusal is the rules'
answer : (c : After-refusal) → let a = c.args in answer_of c.refusal.result ≡ list_answer (view_of a.game) a.flags a.buffer.now
answer c = let a = c.args in c.refusal.ensures ∙ list-refused a.game a.flags a.buffer.now

pub returns-then-not-judge_with : goal.returns-then-not-judge_with
returns-then-not-judge_with c = filled-damaged (λ is. not-both (c.judge_with.ensures.complete is) c.if-not-judge_with.true)

pub returns-in-Err : goal.returns-in-Err
returns-in-Err c =
    filled-told (c.judge_with.ensures.sound c.if-not-judge_with.false)
    (left-refused _ _ _ _ (c.number.ensures ∙ ap number (sym (ap answer_of c.in-Err.is) ∙ answer (goal.at.returns-in-Err c).After-refusal))
    (λ z. nonzero c.in-Err.reason (sym c.number.ensures ∙ z)))

pub fill-requires : goal.fill-requires
fill-requires c =
    let is = c.judge_with.ensures.sound c.if-not-judge_with.false in
    record { state = is.0; room = is.1; enough = refused-enough _ _ _ _ (accepted-zero c.refusal.ensures c.in-Ok.is) }

pub returns-in-Ok : goal.returns-in-Ok
returns-in-Ok c =
    filled-told (c.judge_with.ensures.sound c.if-not-judge_with.false)
    (left-filled _ _ _ (accepted-zero (answer (goal.at.returns-in-Ok c).After-refusal) c.in-Ok.is) c.fill.ensures)
