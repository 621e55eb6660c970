-- What a replay promises, given what the rules' replay does to the view: how many entries were accepted, the refusal's number, the whole
-- state and the whole of the lent history, for every state, all bytes and every row of moves.
use Rattle.std.specs.Prelude.{◌≡◌, List, map, ℕ, length}
use Rattle.rules.specs.Answers.{Damaged, number}
use Rattle.rules.specs.Calls as rules
use Rattle.rules.specs.Calls.{Entry}
use Rattle.board.specs.declared.goban.Board.{Board}
use Rattle.game.specs.declared.state.Game.{Game}
use Rattle.game.specs.declared.clock.Clock.{Clock}
use Rattle.game.specs.Clock.{game_of}
use Rattle.game.specs.View.{view_of, TrueState, RoomIn}
use Rattle.playing.specs.Promise.{CalledTrue}
use Rattle.replaying.specs.declared.replay.Move.{Move}
use Rattle.replaying.specs.declared.replay.Replayed.{Replayed}

-- the rules' entry of three numbers
abbrev pub entry : ℕ → ℕ → ℕ → Entry
entry kind row column = record { kind = kind; row = row; column = column }

abbrev pub entry_of : Move → Entry
entry_of m = entry m.kind m.row m.column

unfoldable pub entries_of : List Move → List Entry
entries_of moves = map entry_of moves

-- an entry on the numbers alone: with any board that these make a true state with, any history that has room, and at any row and column, what
-- the rules say of it, and board and bytes as they are
pub record EntersAlone (c : Clock) (kind answer : ℕ) (c' : Clock) : Type 0 where
  pub entered :
      (b : Board) (bytes : List ℕ) (row column : ℕ) → TrueState (game_of b c) → RoomIn (game_of b c) (length bytes)
      → CalledTrue (rules.entry_call (view_of (game_of b c)) bytes (entry kind row column)) (game_of b c) bytes answer (game_of b c') bytes

-- `is` is what makes the state and the history true; `said` what the rules' replay gives
pub record Replays (is : Type 0) (said : rules.Replayed) (g : Game) (bytes : List ℕ) (r : Replayed) (bytes' : List ℕ) : Type 0 where
  -- not true: 3 before any entry, and everything as it was
  pub damaged : ¬ is → (r.entries ≡ 0) × (r.answer ≡ number Damaged) × (r.game ≡ g) × (bytes' ≡ bytes)
  -- true: what the rules say, and true again
  pub counted : is → r.entries ≡ said.entries
  pub answered : is → r.answer ≡ number said.answer
  pub shown : is → view_of r.game ≡ said.game
  pub lent : is → bytes' ≡ said.bytes
  pub kept : is → TrueState r.game
  -- nothing accepted: the very same state and bytes
  pub same : r.entries ≡ 0 → (r.game ≡ g) × (bytes' ≡ bytes)
