-- What can begin is the fresh game, and what is refused the one of one point.
use Rattle.std.specs.Prelude.{ℕ}
use mathlib.Core.Path.{sym, ap, ◌∙◌}
use Rattle.rules.specs.Answers.{number}
use Rattle.points.specs.Reason.{answer_of}
use Rattle.game.specs.View.{fresh_state}
use Rattle.game.specs.Laws.Promise.{made-fresh, made-refused}
use Rattle.points.proofs.Reasons.{refuses}
use Rattle.game.proofs.calls.new_game.Goals.{in-Ok, in-Err}
use Rattle.game.proofs.calls.new_game.Goals as goal

pub returns : goal.returns
returns c =
    let told = sym c.can_begin-asked.ensures in
    elim c.match-asked.branch [
      | in-Ok w ↦
          let ok = ap answer_of w.in-Ok.is in
          made-fresh _ _ _ (told ∙ ok) (c.number.ensures ∙ ap number ok) (c.fresh.ensures ∙ ap (λ (s : ℕ × ℕ × ℕ). fresh_state s.0 s.1 s.2) w.height-is)
      | in-Err w ↦
          let bad = ap answer_of w.in-Err.is in
          made-refused _ _ _ _ (refuses _) (told ∙ bad) (c.number.ensures ∙ ap number bad) (c.fresh.ensures ∙ ap (λ (s : ℕ × ℕ × ℕ). fresh_state s.0 s.1 s.2) w.height-is)
    ]
