-- The words of the statements: what is told of a desk after a run, and of the history after a call.
use Rattle.std.specs.Prelude.{◌≡◌, Bool, true, false, cond, not, List, ◌≢◌, ◌↔◌, ℕ, ◌*◌, ◌≤◌, ◌<◌, eqb, length, drop}
use Rattle.rules.specs.Sizes.{max_chains, slots, record_bytes}
use Rattle.rules.specs.Lists.{count, below}
use Rattle.rules.specs.Colours.{empty}
use Rattle.rules.specs.Points.{neighbours}
use Rattle.rules.specs.Reach.{Walk}
use Rattle.rules.specs.Records.{capacity, bytes_after}
use Rattle.rules.specs.Calls as rules
use Rattle.chains.specs.Group.{used}
use Rattle.sets.specs.Liberties.{set_of, number}
use Rattle.board.specs.declared.goban.Board.{Board}
use Rattle.board.specs.Board.{owner, chain_in, colour_at, colours_of}
use Rattle.board.specs.True.{liberty_of}
use Rattle.game.specs.View.{view_of, TrueState, RoomIn}
use Rattle.runs.specs.Runs.{Call, Reply, Desk, accepted, new_game, handicap, stone, pass, resign, resume, replay}

-- the chain table, as a reader may ask of it
pub record ChainTable (b : Board) : Type 0 where
  -- two stones are of one chain exactly if a path of adjacent stones of their colour joins them: the sets are connected and the largest
  pub joined : (p q : ℕ) → colour_at b p ≢ empty → (owner b p ≡ owner b q) ↔ Walk (neighbours b.height b.width) (colour_at b) (colour_at b p) p q
  -- every stone is in a used slot, and every used slot has a stone
  pub owned : (p : ℕ) → colour_at b p ≢ empty → (owner b p < slots) × (used (chain_in b (owner b p)) ≡ true)
  pub peopled : (s : ℕ) → s < slots → used (chain_in b s) ≡ true → (p : ℕ) × (owner b p ≡ s)
  -- the liberties of a chain are exactly the empty points beside its stones, and there is at least one
  pub liberties : (s : ℕ) → s < slots → used (chain_in b s) ≡ true → (chain_in b s).liberties ≡ set_of (liberty_of b s)
  pub breathes : (s : ℕ) → s < slots → used (chain_in b s) ≡ true → 0 < number (chain_in b s).liberties
  -- at most 288 slots are used, so that a free one is there for the next stone
  pub few : count (λ s. used (chain_in b s)) (below slots) ≤ max_chains
  pub free : (s : ℕ) × (s < slots) × (used (chain_in b s) ≡ false)

-- what holds of the desk d after a run that began at the desk `first`
pub record Held (first d : Desk) : Type 0 where
  pub state : TrueState d.game
  pub room : RoomIn d.game (length d.bytes)
  pub table : ChainTable d.game.board
  -- the history keeps its length, and its bytes beyond the capacity
  pub long : length d.bytes ≡ length first.bytes
  pub beyond : drop (record_bytes * capacity first.bytes) d.bytes ≡ drop (record_bytes * capacity first.bytes) first.bytes

-- the history after a call: an accepted stone makes the board before it the next record, unless it is among the records; a replay does
-- so for each of its accepted stones
abbrev pub history_after : Call → Reply → Desk → List ℕ
history_after (new_game h w flags) reply d = d.bytes
history_after (handicap spots) reply d = d.bytes
history_after (stone r c) reply d = cond (accepted reply) (bytes_after d.bytes d.game.records (colours_of d.game.board)) d.bytes
history_after pass reply d = d.bytes
history_after (resign player) reply d = d.bytes
history_after resume reply d = d.bytes
history_after (replay es) reply d = (rules.replay (view_of d.game) d.bytes es).bytes

-- the call was refused and gives back what it got: a new game alone is made either way, and a replay keeps what its accepted entries did
abbrev pub turned_away : Call → Reply → Bool
turned_away (new_game h w flags) reply = false
turned_away (handicap spots) reply = not (accepted reply)
turned_away (stone r c) reply = not (accepted reply)
turned_away pass reply = not (accepted reply)
turned_away (resign player) reply = not (accepted reply)
turned_away resume reply = not (accepted reply)
turned_away (replay es) reply = eqb reply.entries 0
