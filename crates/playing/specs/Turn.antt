-- The tests of a stone: as they are asked, and what is promised of all of them.
use Rattle.std.specs.Prelude.{◌≡◌, List, ◌≢◌, Bool, true, false, cond, ℕ, ◌<◌, eqb, Option, None, Some, Result, Ok, Err}
use Rattle.rules.specs.Sizes.{max_stones}
use Rattle.rules.specs.Points.{index}
use Rattle.rules.specs.Records.{record_of, full}
use Rattle.rules.specs.Answers.{Answer, number, accepts, refuse, ◌then◌, Accepted, GamePaused, SuperKo, MoveLimit, HistoryFull}
use Rattle.rules.specs.Calls.{point_answer, stone}
use Rattle.points.specs.declared.answers.Refusal.{Refusal}
use Rattle.points.specs.Reason.{reason}
use Rattle.board.specs.declared.goban.Board.{Board}
use Rattle.board.specs.Board.{colours_of}
use Rattle.laying.specs.Laying.{Laying}
use Rattle.history.specs.History.{Noted}
use Rattle.history.specs.Packing.{record_by, Packing}
use Rattle.looking.specs.declared.look.Sight.{Sight}
use Rattle.looking.specs.Seen.{Sees}
use Rattle.game.specs.declared.state.Game.{Game}
use Rattle.game.specs.declared.clock.Clock.{Clock}
use Rattle.game.specs.Clock.{game_of}
use Rattle.game.specs.View.{turn_of, view_of, TrueState, RoomFor, RoomIn}
use Rattle.checking.specs.Told.{Told, known, undecided}
use Rattle.checking.specs.Asking.{ToldAt}
use Rattle.playing.specs.declared.stone.Turn.{Turn}
use Rattle.playing.specs.Promise.{CalledTrue}

-- without the records: the pause, then what is known of the point
unfoldable pub first_answer : ℕ → ℕ → ℕ
first_answer passes known = cond (eqb passes 2) (number GamePaused) known

-- by the records and the count: whether the board that it leaves is recorded, how many were accepted, and whether the history has no room
unfoldable pub last_answer : Bool → ℕ → Bool → Answer
last_answer again accepted full = refuse SuperKo again then refuse MoveLimit (eqb accepted max_stones) then refuse HistoryFull full

-- every test lets the stone pass
pub record Allowed (g : Game) (bytes : List ℕ) (r c : ℕ) : Type 0 where
  pub unpaused : g.passes ≢ 2
  pub point : accepts (point_answer (view_of g) bytes g.flags r c) ≡ true
  pub more : g.accepted < max_stones
  pub free : full bytes g.records (colours_of g.board) ≡ false

-- it may be laid, and the present board is on record
pub record Granted (g : Game) (bytes : List ℕ) (r c : ℕ) (turn : Turn) (bytes' : List ℕ) : Type 0 where
  pub allowed : Allowed g bytes r c
  pub point : turn.point ≡ index g.board.width r c
  pub mover : turn.mover ≡ turn_of g.turn
  pub laying : Laying g.board turn.point turn.mover g.flags
  pub noted : Noted bytes g.records (colours_of g.board) turn.records bytes'

-- all tests; refused: all that a stone promises, with state and bytes as they were
abbrev pub Tested : Game → List ℕ → ℕ → ℕ → Result Turn Refusal → List ℕ → Type 0
Tested g bytes r c (Err e) bytes' = CalledTrue (stone (view_of g) bytes r c) g bytes (number (reason e)) g bytes'
Tested g bytes r c (Ok turn) bytes' = Granted g bytes r c turn bytes'

-- ---- By what is seen of the board

-- the colours can be recorded, and the history has room for the records that the numbers count
pub record Ready (s : Sight) (cs : List ℕ) (k : Clock) (n : ℕ) : Type 0 where
  pub packing : Packing cs
  pub colours : List ℕ
  pub its : record_by s.hash cs ≡ record_of colours
  pub room : RoomFor k.records n

-- the last tests let the stone pass, where the board has these colours
pub record Passed (s : Sight) (k : Clock) (cols bytes : List ℕ) (again : Bool) (turn : Turn) (bytes' : List ℕ) : Type 0 where
  pub point : turn.point ≡ s.point
  pub mover : turn.mover ≡ turn_of k.turn
  pub answered : Accepted ≡ last_answer again k.accepted (full bytes k.records cols)
  pub noted : Noted bytes k.records cols turn.records bytes'

-- the last tests, where it is known whether the board that the stone leaves is recorded
abbrev pub Finished : Sight → Clock → List ℕ → List ℕ → Bool → Result Turn Refusal → List ℕ → Type 0
Finished s k cols bytes again (Err e) bytes' = (reason e ≡ last_answer again k.accepted (full bytes k.records cols)) × (bytes' ≡ bytes)
Finished s k cols bytes again (Ok turn) bytes' = Passed s k cols bytes again turn bytes'

-- board and numbers are a true state with room in a history of n bytes, and this is seen of the board for a stone
pub record Shown (b : Board) (s : Sight) (cs : List ℕ) (k : Clock) (n r c : ℕ) : Type 0 where
  pub state : TrueState (game_of b k)
  pub room : RoomIn (game_of b k) n
  pub sees : Sees b r c cs s

-- no test without the records refuses the stone, and the records decide
pub record Undecided (g : Game) (r c : ℕ) : Type 0 where
  pub told : Told
  pub its : ToldAt g g.flags r c told
  pub waits : undecided told ≡ true
  pub passes : first_answer g.passes (known told) ≡ 0

-- all tests, or those without the records, with the bytes as they were
abbrev pub FirstTested : Game → List ℕ → ℕ → ℕ → Result (Option Turn) Refusal → List ℕ → Type 0
FirstTested g bytes r c (Err e) bytes' = CalledTrue (stone (view_of g) bytes r c) g bytes (number (reason e)) g bytes'
FirstTested g bytes r c (Ok (Some turn)) bytes' = Granted g bytes r c turn bytes'
FirstTested g bytes r c (Ok None) bytes' = Undecided g r c × (bytes' ≡ bytes)

-- some row and column where the records decide
pub record Settling (b : Board) (s : Sight) (cs : List ℕ) (k : Clock) (n : ℕ) : Type 0 where
  pub row : ℕ
  pub column : ℕ
  pub shown : Shown b s cs k n row column
  pub waits : Undecided (game_of b k) row column
