-- What every call on a game promises, given what the rules' call of the same name does to the view: the answer's number, the whole
-- state and the whole of the lent history, for every state and all bytes.
use Rattle.std.specs.Prelude.{◌≡◌, List, ◌≢◌, ℕ}
use Rattle.rules.specs.Answers.{Damaged, number}
use Rattle.rules.specs.Calls.{Result, new_answer, new_game}
use Rattle.board.specs.declared.goban.Board.{Board}
use Rattle.game.specs.declared.state.Game.{Game}
use Rattle.game.specs.declared.clock.Clock.{Clock}
use Rattle.game.specs.Clock.{game_of}
use Rattle.game.specs.View.{view_of, TrueState}

-- a call that was lent history: `is` is what makes the state and the history true
pub record Called (is : Type 0) (call : Result) (g : Game) (bytes : List ℕ) (answer : ℕ) (g' : Game) (bytes' : List ℕ) : Type 0 where
  -- not true: 3, and everything as it was
  pub damaged : ¬ is → (answer ≡ number Damaged) × (g' ≡ g) × (bytes' ≡ bytes)
  -- true: what the rules say, and true again
  pub answered : is → answer ≡ number call.answer
  pub shown : is → view_of g' ≡ call.game
  pub lent : is → bytes' ≡ call.bytes
  pub kept : is → TrueState g'
  -- refused: the very same state and bytes
  pub refused : answer ≢ 0 → (g' ≡ g) × (bytes' ≡ bytes)

-- a new game: true in every case
pub record Made (h w flags answer : ℕ) (g' : Game) : Type 0 where
  pub answered : answer ≡ number (new_answer h w flags)
  pub shown : view_of g' ≡ new_game h w flags
  pub kept : TrueState g'

-- a call with no history: the rules' call gets no bytes
pub record CalledAlone (call : Result) (g : Game) (answer : ℕ) (g' : Game) : Type 0 where
  pub damaged : ¬ TrueState g → (answer ≡ number Damaged) × (g' ≡ g)
  pub answered : TrueState g → answer ≡ number call.answer
  pub shown : TrueState g → view_of g' ≡ call.game
  pub kept : TrueState g → TrueState g'
  pub refused : answer ≢ 0 → g' ≡ g

-- such a call on the numbers alone, whatever board they make a true state with
pub record Ticks (call : Game → Result) (c : Clock) (answer : ℕ) (c' : Clock) : Type 0 where
  pub ticked : (b : Board) → TrueState (game_of b c) → CalledAlone (call (game_of b c)) (game_of b c) answer (game_of b c')
