-- Every run of calls. A step is any result at all that meets the promise of its call, so what is proved of runs holds of every program
-- that keeps the promises. Stones put down are counted off the list of calls and replies, never off the state's own sums.
use Rattle.std.specs.Prelude.{◌≡◌, Bool, cond, ◌||◌, List, [], ◌∷◌, ℕ, ◌+◌, eqb, length, take}
use Rattle.rules.specs.Colours.{black, white, other}
use Rattle.rules.specs.Calls as rules
use Rattle.rules.specs.Calls.{Spot, Entry, one_if}
use Rattle.game.specs.declared.state.Game.{Game}
use Rattle.game.specs.View.{turn_of, view_of, TrueState, RoomIn}
use Rattle.game.specs.Promise.{Made, Called, CalledAlone}
use Rattle.replaying.specs.Replay.{Replays}

-- ---- Calls and replies

pub data Call : Type 0 where
  -- height, width, flags
  new_game : ℕ → ℕ → ℕ → Call
  handicap : List Spot → Call
  -- row, column; by value or in place
  stone : ℕ → ℕ → Call
  pass : Call
  -- the byte that names a player
  resign : ℕ → Call
  resume : Call
  replay : List Entry → Call

-- the number answered; of a replay, how many entries were accepted too
pub record Reply : Type 0 where
  pub answer : ℕ
  pub entries : ℕ

pub record Event : Type 0 where
  pub call : Call
  pub reply : Reply

unfoldable pub accepted : Reply → Bool
accepted reply = eqb reply.answer 0

-- ---- What the calls work on

-- a game's state and the bytes lent as its history
pub record Desk : Type 0 where
  pub game : Game
  pub bytes : List ℕ

-- the state is true and the history has room for what it counts
unfoldable pub Sound : Desk → Type 0
Sound d = TrueState d.game × RoomIn d.game (length d.bytes)

-- a call that is lent no history leaves it as it is
unfoldable pub Alone : rules.Result → Desk → Reply → Desk → Type 0
Alone call d reply d' = CalledAlone call d.game reply.answer d'.game × (d'.bytes ≡ d.bytes)

abbrev pub Step : Call → Desk → Reply → Desk → Type 0
Step (new_game h w flags) d reply d' = Made h w flags reply.answer d'.game × (d'.bytes ≡ d.bytes)
Step (handicap spots) d reply d' = Alone (rules.handicapped (view_of d.game) [] spots) d reply d'
Step (stone r c) d reply d' =
    Called (Sound d) (rules.stone (view_of d.game) d.bytes r c) d.game d.bytes reply.answer d'.game d'.bytes
Step pass d reply d' = Alone (rules.pass (view_of d.game) []) d reply d'
Step (resign player) d reply d' = Alone (rules.resign (view_of d.game) [] (turn_of player)) d reply d'
Step resume d reply d' = Alone (rules.resume (view_of d.game) []) d reply d'
Step (replay es) d reply d' =
    Replays (Sound d) (rules.replay (view_of d.game) d.bytes es) d.game d.bytes
    (record { entries = reply.entries; answer = reply.answer; game = d'.game }) d'.bytes

-- a new game of any size and flags, refused or not, and any bytes
pub record Fresh (d : Desk) : Type 0 where
  pub height : ℕ
  pub width : ℕ
  pub flags : ℕ
  pub answer : ℕ
  pub made : Made height width flags answer d.game

-- the events of a run, the latest first
pub data Run (first : Desk) : List Event → Desk → Type 0 where
  start : Run first [] first
  after : {events : List Event} {d d' : Desk} (e : Event) → Run first events d → Step e.call d e.reply d' → Run first (e ∷ events) d'

-- ---- Counted off the list

-- whose turn it is after an accepted entry of a replay: a stone (kind 0) and a pass (1) change it
abbrev pub turn_by : Entry → ℕ → ℕ
turn_by e t = cond (eqb e.kind 0 || eqb e.kind 1) (other t) t

-- how many stones of a colour are put down after it
abbrev pub put_by : ℕ → Entry → ℕ → ℕ → ℕ
put_by colour e t n = cond (eqb e.kind 0) (n + one_if t colour) n

-- the same after a row of accepted entries
abbrev pub turn_over : List Entry → ℕ → ℕ
turn_over [] t = t
turn_over (e ∷ es) t = turn_over es (turn_by e t)

abbrev pub put_over : ℕ → List Entry → ℕ → ℕ → ℕ
put_over colour [] t n = n
put_over colour (e ∷ es) t n = put_over colour es (turn_by e t) (put_by colour e t n)

-- whose turn it is after a call, if it was t's before
abbrev pub turn_after : Call → Reply → ℕ → ℕ
turn_after (new_game h w flags) reply t = black
turn_after (handicap spots) reply t = cond (accepted reply) white t
turn_after (stone r c) reply t = cond (accepted reply) (other t) t
turn_after pass reply t = cond (accepted reply) (other t) t
turn_after (resign player) reply t = t
turn_after resume reply t = t
turn_after (replay es) reply t = turn_over (take reply.entries es) t

-- how many stones of a colour are put down after a call, if it was t's turn before and n were put down
abbrev pub put_after : ℕ → Call → Reply → ℕ → ℕ → ℕ
put_after colour (new_game h w flags) reply t n = 0
put_after colour (handicap spots) reply t n = cond (accepted reply) (n + cond (eqb colour black) (length spots) 0) n
put_after colour (stone r c) reply t n = cond (accepted reply) (n + one_if t colour) n
put_after colour pass reply t n = n
put_after colour (resign player) reply t n = n
put_after colour resume reply t n = n
put_after colour (replay es) reply t n = put_over colour (take reply.entries es) t n

-- Black begins
abbrev pub turn_in : List Event → ℕ
turn_in [] = black
turn_in (e ∷ events) = turn_after e.call e.reply (turn_in events)

abbrev pub put_in : ℕ → List Event → ℕ
put_in colour [] = 0
put_in colour (e ∷ events) = put_after colour e.call e.reply (turn_in events) (put_in colour events)
