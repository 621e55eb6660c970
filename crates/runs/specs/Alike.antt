-- What the promises leave free: two states are alike if they are equal, or both true with one view. Slot numbers, the order of links, what
-- unused slots hold and which byte says Black are free, and nothing else is.
use Rattle.std.specs.Prelude.{◌≡◌, Bool, true, false, List, [], ◌∷◌}
use Rattle.rules.specs.Calls.{Placement}
use Rattle.board.specs.declared.goban.Board.{Board}
use Rattle.board.specs.Board.{colours_of}
use Rattle.board.specs.True.{TrueBoard}
use Rattle.game.specs.declared.state.Game.{Game}
use Rattle.game.specs.View.{view_of, TrueState}
use Rattle.runs.specs.Runs as runs
use Rattle.runs.specs.Runs.{Call, Reply, Event, Desk}

pub data Alike (g h : Game) : Type 0 where
  equal : g ≡ h → Alike g h
  seen : TrueState g → TrueState h → view_of g ≡ view_of h → Alike g h

-- two desks: alike states, and the very same bytes
pub record AlikeDesks (d e : Desk) : Type 0 where
  pub games : Alike d.game e.game
  pub bytes : d.bytes ≡ e.bytes

abbrev pub is_replay : Call → Bool
is_replay (runs.new_game h w flags) = false
is_replay (runs.handicap spots) = false
is_replay (runs.stone r c) = false
is_replay runs.pass = false
is_replay (runs.resign player) = false
is_replay runs.resume = false
is_replay (runs.replay es) = true

-- two replies to one call: the number, and of a replay how many entries
pub record SameReply (call : Call) (reply reply' : Reply) : Type 0 where
  pub answer : reply.answer ≡ reply'.answer
  pub entries : is_replay call ≡ true → reply.entries ≡ reply'.entries

-- ---- Two runs

-- the same calls, whatever was replied
pub data SameCalls : List Event → List Event → Type 0 where
  begin : SameCalls [] []
  more : {e e' : Event} {events events' : List Event} → e.call ≡ e'.call → SameCalls events events' → SameCalls (e ∷ events) (e' ∷ events')

-- and the same replies to them
pub data SameReplies : List Event → List Event → Type 0 where
  begin : SameReplies [] []
  more :
      {e e' : Event} {events events' : List Event} → SameReply e.call e.reply e'.reply → SameReplies events events' →
      SameReplies (e ∷ events) (e' ∷ events')

-- ---- Boards

-- what the rules see of a board
unfoldable pub placement_of : Board → Placement
placement_of b = record { height = b.height; width = b.width; colours = colours_of b }

pub data AlikeBoards (b c : Board) : Type 0 where
  equal : b ≡ c → AlikeBoards b c
  seen : TrueBoard b → TrueBoard c → placement_of b ≡ placement_of c → AlikeBoards b c
