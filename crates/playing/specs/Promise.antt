-- What a call promises of a state that is true, with a history that has room: what the rules say, and the same of the state again. The
-- state is not judged, so that a call for each of many entries judges once.
use Rattle.std.specs.Prelude.{◌≡◌, List, ◌≢◌, ℕ, length}
use Rattle.rules.specs.Answers.{number}
use Rattle.rules.specs.Calls.{Result}
use Rattle.game.specs.declared.state.Game.{Game}
use Rattle.game.specs.View.{view_of, TrueState, RoomIn}

pub record CalledTrue (call : Result) (g : Game) (bytes : List ℕ) (answer : ℕ) (g' : Game) (bytes' : List ℕ) : Type 0 where
  pub answered : answer ≡ number call.answer
  pub shown : view_of g' ≡ call.game
  pub lent : bytes' ≡ call.bytes
  -- true again, and the history has its length and room again
  pub kept : TrueState g'
  pub long : length bytes' ≡ length bytes
  pub room : RoomIn g' (length bytes)
  -- refused: the very same state and bytes
  pub refused : answer ≢ 0 → (g' ≡ g) × (bytes' ≡ bytes)
