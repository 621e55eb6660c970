-- What is promised of the board that is shown, of any state.
use Rattle.std.specs.Prelude.{◌≡◌}
use Rattle.rules.specs.Answers.{Accepted, Damaged, number}
use Rattle.board.specs.Board.{new_board}
use Rattle.game.specs.declared.state.Game.{Game}
use Rattle.game.specs.View.{TrueState}
use Rattle.showing.specs.declared.shown.BoardAnswer.{BoardAnswer}

-- the board, or an empty one of one point
pub record Shown (g : Game) (r : BoardAnswer) : Type 0 where
  pub damaged : ¬ TrueState g → r ≡ record { answer = number Damaged; board = new_board 1 1 }
  pub told : TrueState g → r ≡ record { answer = number Accepted; board = g.board }
