-- Laws of Promise: the board that is shown, and that the promise leaves nothing free: two results that meet it are equal.
use Rattle.std.proofs.Common.{⊎_elim, sym, ◌∙◌}
use Rattle.std.specs.Prelude.{◌≡◌}
use Rattle.std.proofs.Math.Path.{refl}
use Rattle.rules.specs.Answers.{number}
use Rattle.board.specs.declared.goban.Board.{Board}
use Rattle.board.specs.Board.{new_board}
use Rattle.game.specs.declared.state.Game.{Game}
use Rattle.game.specs.View.{TrueState}
use Rattle.checking.specs.Laws.State.{state-or-not}
use Rattle.showing.specs.declared.shown.BoardAnswer.{BoardAnswer}
use Rattle.showing.specs.Promise.{Shown}

module _ (g : Game) where
  pub shown-damaged : ¬ TrueState g → (b : Board) → b ≡ new_board 1 1 → Shown g (record { answer = 3; board = b })
  unfolding number
  shown-damaged n b e = record { damaged = λ _. λ i. record { answer = 3; board = e i }; told = λ t. absurd (n t) }

  pub shown-told : TrueState g → Shown g (record { answer = 0; board = g.board })
  unfolding number
  shown-told t = record { damaged = λ n. absurd (n t); told = λ _. refl }

pub shown-unique : (g : Game) {r r' : BoardAnswer} → Shown g r → Shown g r' → r ≡ r'
shown-unique g p q = ⊎_elim (λ t. p.told t ∙ sym (q.told t)) (λ n. p.damaged n ∙ sym (q.damaged n)) (state-or-not g)
