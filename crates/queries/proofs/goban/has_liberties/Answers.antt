-- `queries::goban::has_liberties`: a point beside that no chain owns is an empty neighbour, on a true board.
use Rattle.std.proofs.Common.{Bool, false, ap₂, ◌∙◌, ℕ}
use Rattle.rules.specs.Lists.{any}
use Rattle.rules.specs.Points.{neighbours}
use Rattle.rules.specs.Flood.{touches}
use Rattle.rules.specs.Answers.{number}
use Rattle.queries.specs.Goban.{no_test, breathes}
use Rattle.vetting.specs.Laws.Answered.{answered-refused, answered-told}
use Rattle.queries.specs.Laws.Owner.{unowned-empty}
use Rattle.queries.proofs.goban.has_liberties.Goals as goal

pub returns-in-Err : goal.returns-in-Err
unfolding no_test
returns-in-Err c = answered-refused no_test _ c.in-Err.ensures (λ i. record { answer = c.number.ensures i; holds = false })

pub returns : goal.returns
unfolding number breathes touches
returns c =
    let b = c.args.board in
    let (t, on) = c.answer_at.ensures.sound c.in_default.is in
    let test =
    c.beside_empty.ensures
    ∙ ap₂ (λ (f : ℕ → Bool) (p : ℕ). any f (neighbours b.height b.width p)) (unowned-empty b t) c.two_to_1dim-point.ensures in
    answered-told no_test _ (t, on) (λ i. record { answer = 0; holds = test i })
