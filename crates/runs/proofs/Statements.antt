-- What holds of every run of calls, refused ones among them, for every program that keeps the promises: the page to read first.
use Rattle.std.specs.Prelude.{◌≡◌, true, List, [], ◌∷◌, ◌++◌, ◌≢◌, ◌↔◌, ℕ, ◌+◌, ◌<◌, length, take}
use Rattle.rules.specs.Colours.{black, white, at}
use Rattle.rules.specs.Points.{index, neighbours}
use Rattle.rules.specs.Reach.{Move}
use Rattle.rules.specs.Move.{coloured}
use Rattle.rules.specs.Flags.{SUICIDE, forbids}
use Rattle.rules.specs.Answers.{Damaged, number}
use Rattle.rules.specs.Game as rules
use Rattle.rules.specs.Game.{fresh_game, stones}
use Rattle.rules.specs.Calls as calls
use Rattle.rules.specs.Calls.{Entry, check_answer, list_answer}
use Rattle.board.specs.Board.{colours_of}
use Rattle.game.specs.declared.state.Game.{Game}
use Rattle.game.specs.declared.asks.Facts.{Facts}
use Rattle.game.specs.View.{view_of}
use Rattle.game.specs.Asks.{Asked}
use Rattle.board.specs.declared.goban.Board.{Board}
use Rattle.board.specs.True.{TrueBoard}
use Rattle.listing.specs.declared.list.Listed.{Listed}
use Rattle.viewing.specs.declared.shows.Question.{Question}
use Rattle.listing.specs.Lists.{Lists}
use Rattle.placing.specs.declared.place.Placed.{Placed}
use Rattle.making.specs.Making.{FromColours}
use Rattle.checking.specs.Promise.{Checked, Filled}
use Rattle.runs.specs.Runs.{Call, Reply, Event, Desk, Sound, Step, Fresh, Run, new_game, stone, replay, turn_over, turn_in, put_in}
use Rattle.runs.specs.Holds.{Held, history_after, turned_away}
use Rattle.runs.specs.Orders.{First, Asks, rows_of, accepted_of, check_rows, board_rows, list_rows, question_rows}
use Rattle.runs.specs.Alike.{Alike, AlikeDesks, SameReply, SameCalls, SameReplies, AlikeBoards}
use Rattle.runs.proofs.Laws.Run as laws
use Rattle.runs.proofs.Laws.Exactly as exactly
use Rattle.runs.proofs.Laws.Refused as refused
use Rattle.runs.proofs.Laws.Alike as alike
use Rattle.runs.proofs.Laws.Asked as asked

-- from a new game on any lent bytes, over any calls
module _ {first : Desk} (fresh : Fresh first) {events : List Event} {d : Desk} (run : Run first events d) where
  -- ---- 1. The state is true, the chain table exact, and the history keeps its length and what lies beyond its capacity

  pub every-run : Held first d
  every-run = laws.run-held fresh run

  pub every-history : (call : Call) (reply : Reply) (d' : Desk) → Step call d reply d' → d'.bytes ≡ history_after call reply d
  every-history = laws.run-history fresh run

  -- ---- 2. Stones put down, counted off the accepted calls, are those on the board and those held

  pub black-kept : put_in black events ≡ stones (colours_of d.game.board) black + d.game.held.black
  black-kept = laws.run-black-kept fresh run

  pub white-kept : put_in white events ≡ stones (colours_of d.game.board) white + d.game.held.white
  white-kept = laws.run-white-kept fresh run

  -- ---- 3. An accepted stone is a move of Tromp-Taylor 7, by the player whose turn it is by the calls so far

  module _ (r c : ℕ) (reply : Reply) (d' : Desk) (s : Step (stone r c) d reply d') (ok : reply.answer ≡ 0) where
    abbrev here : ℕ
    here = index d.game.board.width r c

    pub stone-moves :
        Move (neighbours d.game.board.height d.game.board.width) (at (colours_of d.game.board)) (turn_in events) here
        (at (colours_of d'.game.board))
    stone-moves = laws.run-move fresh run r c reply d' s ok

    -- with SUICIDE set, the new stone and all of its colour stand after it
    pub stone-spares :
        forbids d.game.flags SUICIDE ≡ true → (q : ℕ) → at (coloured (colours_of d.game.board) (turn_in events) here) q ≡ turn_in events →
        at (colours_of d'.game.board) q ≡ turn_in events
    stone-spares = laws.run-spares fresh run r c reply d' s ok

  -- and so is each accepted stone of a replay, from the board that the entries before it leave; the replay ends with its last accepted entry
  module _ (es : List Entry) (reply : Reply) (d' : Desk) (s : Step (replay es) d reply d') where
    abbrev up_to : List Entry → rules.Game
    up_to part = (calls.replay (view_of d.game) d.bytes part).game

    pub replay-moves :
        (before : List Entry) (e : Entry) (later : List Entry) → es ≡ before ++ (e ∷ later) → e.kind ≡ 0 → length before < reply.entries →
        Move (neighbours d.game.board.height d.game.board.width) (at (up_to before).colours) (turn_over before (turn_in events))
        (index d.game.board.width e.row e.column) (at (up_to (before ++ (e ∷ []))).colours)
    replay-moves = laws.run-replay-move fresh run es reply d' s

    pub replay-ends : view_of d'.game ≡ up_to (take reply.entries es)
    replay-ends = laws.run-replay-end fresh run es reply d' s

    pub replay-counts : reply.entries ≡ accepted_of (view_of d.game) d.bytes es
    replay-counts = laws.run-entries fresh run es reply d' s

  -- ---- 4. Each number is answered exactly if its row is the first of the call's order to hold, and 3 never

  pub every-answer : (call : Call) (reply : Reply) (d' : Desk) → Step call d reply d' → (n : ℕ) → (reply.answer ≡ n) ↔ First n (rows_of call d)
  every-answer = laws.run-exactly fresh run

  pub never-damaged : (call : Call) (reply : Reply) (d' : Desk) → Step call d reply d' → reply.answer ≢ number Damaged
  never-damaged = laws.run-undamaged fresh run

-- the same of any state at all: 3 exactly if it is not true, else by the order
module _ (d : Desk) (reply : Reply) (d' : Desk) (call : Call) (s : Step call d reply d') where
  pub damaged-exactly : (reply.answer ≡ number Damaged) ↔ (¬ Asks call d)
  damaged-exactly = exactly.step-damaged d reply d' call s

  -- a refused call gives back the very same state and bytes
  pub refused-same : turned_away call reply ≡ true → (d'.game ≡ d.game) × (d'.bytes ≡ d.bytes)
  refused-same = refused.step-turned-away d reply d' call s

  pub answer-exactly : Asks call d → (n : ℕ) → (reply.answer ≡ n) ↔ First n (rows_of call d)
  answer-exactly is n = exactly.step-exactly d reply d' call is s n

-- a refused new game is an empty 1 × 1 one with flags 0
pub new-refused :
    (d : Desk) (reply : Reply) (d' : Desk) (h w flags : ℕ) → Step (new_game h w flags) d reply d' → reply.answer ≢ 0 → view_of d'.game ≡ fresh_game 1 1 0
new-refused = refused.step-unmade

-- the check of a point and the list of legal points, by given flags; `is` is what makes the state and the history true
module _ (is : Type 0) (g : rules.Game) where
  pub check-damaged : (bytes : List ℕ) (flags r c answer : ℕ) → Checked is (check_answer g bytes flags r c) answer → (answer ≡ number Damaged) ↔ (¬ is)
  check-damaged = exactly.check-damaged is g

  pub check-exactly :
      (bytes : List ℕ) (flags r c answer : ℕ) → Checked is (check_answer g bytes flags r c) answer → is → (n : ℕ) →
      (answer ≡ n) ↔ First n (check_rows g bytes flags r c)
  check-exactly = exactly.check-exactly is g

  pub list-damaged :
      (flags : ℕ) (places before after : List ℕ) (r : Listed) → Filled is (list_answer g flags before) places before r after →
      (r.number ≡ number Damaged) ↔ (¬ is)
  list-damaged = exactly.list-damaged is g

  pub list-exactly :
      (flags : ℕ) (places before after : List ℕ) (r : Listed) → Filled is (list_answer g flags before) places before r after → is → (n : ℕ) →
      (r.number ≡ n) ↔ First n (list_rows g flags before)
  list-exactly = exactly.list-exactly is g

-- a board from colours
pub board-exactly : (h w : ℕ) (cols : List ℕ) (r : Placed) → FromColours h w cols r → (n : ℕ) → (r.answer ≡ n) ↔ First n (board_rows h w cols)
board-exactly = exactly.board-exactly

-- the lists of points on a board; the colours as bytes and the picture stand beside them in Laws.Exactly
module _ (b : Board) (before after : List ℕ) (r : Listed) (question : Question) (p : Lists b question before r after) where
  pub question-damaged : (r.number ≡ number Damaged) ↔ (¬ TrueBoard b)
  question-damaged = exactly.question-damaged b before after r question p

  pub question-exactly : TrueBoard b → (n : ℕ) → (r.number ≡ n) ↔ First n (question_rows b.height b.width (length before) question)
  question-exactly = exactly.question-exactly b before after r question p

-- ---- 5. One answer: two results of one call are alike, alike is an equivalence, and no call tells alike states apart

pub one_answer :
    (call : Call) (d : Desk) (reply reply' : Reply) (d' e' : Desk) → Step call d reply d' → Step call d reply' e' → SameReply call reply reply' × AlikeDesks d' e'
one_answer = alike.step-unique

pub alike_self : (g : Game) → Alike g g
alike_self = alike.alike_self

pub alike-back : {g h : Game} → Alike g h → Alike h g
alike-back = alike.alike-back

pub alike-on : {g h k : Game} → Alike g h → Alike h k → Alike g k
alike-on = alike.alike-on

pub not-told-apart :
    {d e : Desk} → AlikeDesks d e → (reply reply' : Reply) (d' e' : Desk) (call : Call) → Step call d reply d' → Step call e reply' e' →
    SameReply call reply reply' × AlikeDesks d' e'
not-told-apart = alike.step-alike

-- so two runs over the same calls give the same replies, the same bytes and states that nothing tells apart
pub runs_same :
    {first first' : Desk} → AlikeDesks first first' → {events events' : List Event} {d e : Desk} → Run first events d → Run first' events' e →
    SameCalls events events' → SameReplies events events' × AlikeDesks d e
runs_same = alike.runs-alike

-- nor does a question: here the facts of a game and the check of a point; the legal list and the tests are in Laws.Questions, every query on
-- a board in Laws.Queries
pub facts-same : {g h : Game} {r r' : Facts} → Alike g h → Asked g r → Asked h r' → r ≡ r'
facts-same = asked.facts-alike

pub check-same :
    {d e : Desk} (flags r c : ℕ) {a a' : ℕ} → AlikeDesks d e → Checked (Sound d) (check_answer (view_of d.game) d.bytes flags r c) a →
    Checked (Sound e) (check_answer (view_of e.game) e.bytes flags r c) a' → a ≡ a'
check-same = asked.check-alike

pub boards-same : {g h : Game} → Alike g h → AlikeBoards g.board h.board
boards-same = asked.boards-alike
