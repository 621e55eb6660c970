-- What the calls that make a board promise: a board that stands as given, by 01's answers.
use Rattle.std.specs.Prelude.{◌≡◌, true, List, ℕ}
use Rattle.rules.specs.Answers.{accepts}
use Rattle.rules.specs.Game.{empty_board}
use Rattle.rules.specs.Calls.{size_answer, board_answer}
use Rattle.board.specs.Board.{new_board}
use Rattle.placing.specs.declared.place.Placed.{Placed}
use Rattle.placing.specs.Placing.{Outcome}

-- ---- New board: 1. A refused one is an empty 1 × 1 board

pub record NewBoard (h w : ℕ) (r : Placed) : Type 0 where
  pub outcome : Outcome (size_answer h w) h w (empty_board h w) (new_board 1 1) r
  pub made : accepts (size_answer h w) ≡ true → r.board ≡ new_board h w

-- ---- Board from colours: 1, 14, 15, 13. A refused one is an empty 1 × 1 board

abbrev pub FromColours : ℕ → ℕ → List ℕ → Placed → Type 0
FromColours h w cols r = Outcome (board_answer h w cols) h w cols (new_board 1 1) r
