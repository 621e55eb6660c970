-- How a query on a board answers: Damaged where the board is not a true one, OffBoard where a point is asked for that is off the board,
-- else it is accepted. The numbers of these are 3, 5 and 0.
use Rattle.std.specs.Prelude.{◌≡◌, Bool, true, false, ◌||◌, ℕ, leb, Result, Ok, Err}
use Rattle.rules.specs.Answers as rules
use Rattle.rules.specs.Answers.{number}
use Rattle.points.specs.declared.answers.Refusal.{Refusal}
use Rattle.points.specs.declared.answers.Refusal.TheVariants.{Damaged, OffBoard}
use Rattle.board.specs.declared.goban.Board.{Board}
use Rattle.board.specs.True.{TrueBoard}

unfoldable pub off_board : Board → ℕ → ℕ → Bool
off_board b r c = leb b.height r || leb b.width c

-- the answer alone
pub record Judged (b : Board) (off : Bool) (answer : Result Unit Refusal) : Type 0 where
  pub damaged : ¬ TrueBoard b → answer ≡ Err Damaged
  pub beyond : TrueBoard b → off ≡ true → answer ≡ Err OffBoard
  pub accepted : TrueBoard b → off ≡ false → answer ≡ Ok tt
  -- nothing else is accepted
  pub sound : answer ≡ Ok tt → TrueBoard b × (off ≡ false)

-- the whole result, whatever comes in: `refused` is the result that refuses by a number, `said` what the rules say
pub record Answered {R : Type 0} (b : Board) (off : Bool) (refused : ℕ → R) (said r : R) : Type 0 where
  pub damaged : ¬ TrueBoard b → r ≡ refused (number rules.Damaged)
  pub beyond : TrueBoard b → off ≡ true → r ≡ refused (number rules.OffBoard)
  pub accepted : TrueBoard b → off ≡ false → r ≡ said
