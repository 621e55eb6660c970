-- What a call leaves at the desk: the text of the reply, the game, how many bytes of history it is lent from now on, and the lent bytes.
use Rattle.std.specs.Prelude.{◌≡◌, List, ℕ, length}
use Rattle.rules.specs.Answers.{Answer}
use Rattle.rules.specs.Calls as rules
use Rattle.game.specs.declared.state.Game.{Game}
use Rattle.game.specs.View.{TrueState, RoomIn}
use Rattle.game.specs.Promise.{Made, CalledAlone, Called}
use Rattle.checking.specs.Promise.{Checked}
use Rattle.writing.specs.Figures.{decimal}

pub record Reply : Type 0 where
  pub text : List ℕ
  pub game : Game
  pub lent : ℕ
  pub bytes : List ℕ

-- a true state, and a history that has room for its records
unfoldable pub TrueDesk : Game → List ℕ → Type 0
TrueDesk g bytes = TrueState g × RoomIn g (length bytes)

-- nothing but the text
pub record Stays (g : Game) (bytes : List ℕ) (a : Reply) : Type 0 where
  pub game : a.game ≡ g
  pub lent : a.lent ≡ length bytes
  pub kept : a.bytes ≡ bytes

-- a new game, and the history that it is lent
pub record Starts (h w flags lent : ℕ) (bytes : List ℕ) (a : Reply) : Type 0 where
  pub number : ℕ
  pub said : a.text ≡ decimal number
  pub made : Made h w flags number a.game
  pub lends : a.lent ≡ lent
  pub kept : a.bytes ≡ bytes

-- a call with no history
pub record Calls (call : rules.Result) (g : Game) (bytes : List ℕ) (a : Reply) : Type 0 where
  pub number : ℕ
  pub said : a.text ≡ decimal number
  pub called : CalledAlone call g number a.game
  pub lent : a.lent ≡ length bytes
  pub kept : a.bytes ≡ bytes

-- a call with history
pub record Lays (call : rules.Result) (g : Game) (bytes : List ℕ) (a : Reply) : Type 0 where
  pub number : ℕ
  pub said : a.text ≡ decimal number
  pub called : Called (TrueDesk g bytes) call g bytes number a.game a.bytes
  pub lent : a.lent ≡ length bytes

pub record Checks (answer : Answer) (g : Game) (bytes : List ℕ) (a : Reply) : Type 0 where
  pub number : ℕ
  pub said : a.text ≡ decimal number
  pub checked : Checked (TrueDesk g bytes) answer number
  pub stays : Stays g bytes a
