-- What one entry of a replay comes to, over plain values: a stone that is laid or refused, and any other entry.
use Rattle.std.specs.Prelude.{◌≡◌, List, ℕ, length, Result}
use Rattle.std.proofs.Common.{subst}
use Rattle.points.specs.declared.answers.Refusal.{Refusal}
use Rattle.rules.specs.Calls.{entry_call, stone}
use Rattle.board.specs.declared.goban.Board.{Board}
use Rattle.laying.specs.declared.lay.Laid.{Laid}
use Rattle.laying.specs.Laying.{LaidOut}
use Rattle.game.specs.declared.state.Game.{Game}
use Rattle.game.specs.declared.clock.Clock.{Clock}
use Rattle.game.specs.Clock.{game_of}
use Rattle.game.specs.View.{view_of, TrueState, RoomIn}
use Rattle.playing.specs.declared.stone.Turn.{Turn}
use Rattle.playing.specs.Promise.{CalledTrue}
use Rattle.playing.specs.Turn.{Granted, Tested}
use Rattle.playing.specs.After.{Moved}
use Rattle.replaying.specs.declared.replay.Move.{Move}
use Rattle.replaying.specs.Replay.{entry_of, EntersAlone}
use Rattle.replaying.specs.Laws.Entry.{stone-refused, stone-entered}

-- what the tests promise, by what they answered
pub answered_as :
    (g : Game) (bytes : List ℕ) (row column : ℕ) (after : List ℕ) {got : Result Turn Refusal} (r : Result Turn Refusal)
    → got ≡ r → Tested g bytes row column got after → Tested g bytes row column r after
answered_as g bytes row column after r e = subst (λ (x : Result Turn Refusal). Tested g bytes row column x after) e

-- what the rules say of the entry e, asked at the state g and the bytes
abbrev pub Told : Game → List ℕ → Move → ℕ → Game → List ℕ → Type 0
Told g bytes e answer g' bytes' = CalledTrue (entry_call (view_of g) bytes (entry_of e)) g bytes answer g' bytes'

module _ (b : Board) (k : Clock) (bytes : List ℕ) (e : Move) where
  -- a stone is laid, and the numbers are changed
  pub stone-laid :
      e.kind ≡ 0 → (turn : Turn) {after : List ℕ} → Granted (game_of b k) bytes e.row e.column turn after → TrueState (game_of b k) → RoomIn (game_of b k) (length bytes)
      → (laid : Laid) → LaidOut b turn.point turn.mover k.flags laid → (now : Clock) → Moved k turn.records laid.taken laid.lost laid.ko now
      → Told (game_of b k) bytes e 0 (game_of laid.board now) after
  stone-laid its turn {after} granted is room laid out now moved = stone-entered b k e.kind its bytes e.row e.column after turn granted is laid out room now moved

  -- it is refused, and the state is as it was
  pub stone-not :
      e.kind ≡ 0 → {answer : ℕ} {after : List ℕ} → CalledTrue (stone (view_of (game_of b k)) bytes e.row e.column) (game_of b k) bytes answer (game_of b k) after
      → Told (game_of b k) bytes e answer (game_of b k) after
  stone-not its {answer} {after} refused = stone-refused b k e.kind its bytes e.row e.column after refused

  -- any other entry
  pub other-told : TrueState (game_of b k) → RoomIn (game_of b k) (length bytes) → {answer : ℕ} {now : Clock} → EntersAlone k e.kind answer now
      → Told (game_of b k) bytes e answer (game_of b now) bytes
  other-told is room told = told.entered b bytes e.row e.column is room
