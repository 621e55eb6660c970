-- The column "given exactly if": for each call its tests in the order of 01, each with the answer that it gives where it is the first to
-- hold. A state that is not true is refused before all of them, with 3.
use Rattle.std.specs.Prelude.{◌≡◌, Bool, true, false, cond, not, ◌&&◌, ◌||◌, List, [], ◌∷◌, ◌++◌, ℕ, suc, eqb, ltb, leb, length}
use Rattle.rules.specs.Sizes.{max_stones, max_flags}
use Rattle.rules.specs.Lists.{any}
use Rattle.rules.specs.Colours.{empty, black, white, at}
use Rattle.rules.specs.Points.{area, index}
use Rattle.rules.specs.Records.{full}
use Rattle.rules.specs.Flags.{KO, SUICIDE, FILLEYE, SUPERKO, forbids}
use Rattle.rules.specs.Tests.{suicide, ko, eye, superko}
use Rattle.rules.specs.Move.{coloured}
use Rattle.rules.specs.Answers.{Answer, Accepted, BadSize, BadFlags, GamePaused, OffBoard, PointNotEmpty, Suicide, Ko, SuperKo, FillEye, MoveLimit}
use Rattle.rules.specs.Answers.{HistoryFull, NotAtStart, NoLiberty, BadLength, BadColour, BadKind, number, accepts}
use Rattle.rules.specs.Game.{Game}
use Rattle.rules.specs.Calls.{side_ok, paused, outside, off_board, taken, resulting, Spot, choked, lay_black, Entry, entry_call}
use Rattle.rules.specs.Picture.{picture_bytes}
use Rattle.viewing.specs.declared.shows.Question.{Question}
use Rattle.viewing.specs.declared.shows.Question.TheVariants as questions
use Rattle.game.specs.View.{view_of, TrueState}
use Rattle.runs.specs.Runs as runs
use Rattle.runs.specs.Runs.{Call, Desk, Sound}

-- ---- Rows and the first that holds

pub record Row : Type 0 where
  pub answer : Answer
  pub holds : Bool

abbrev pub row : Answer → Bool → Row
row a test = record { answer = a; holds = test }

abbrev pub first_of : List Row → Answer
first_of [] = Accepted
first_of (r ∷ rows) = cond r.holds r.answer (first_of rows)

-- n is the number of the first row that holds, or 0 where none does
pub data First (n : ℕ) : List Row → Type 0 where
  clear : n ≡ 0 → First n []
  this : {r : Row} {rows : List Row} → r.holds ≡ true → number r.answer ≡ n → First n (r ∷ rows)
  later : {r : Row} {rows : List Row} → r.holds ≡ false → First n rows → First n (r ∷ rows)

-- ---- New game: 1, 2

abbrev pub new_rows : ℕ → ℕ → ℕ → List Row
new_rows h w flags = row BadSize (not (side_ok h && side_ok w)) ∷ row BadFlags (ltb max_flags flags) ∷ []

-- ---- Check of a point, by given flags: 2, 5, 6, 7, 8 (ko), 9, 8 (superko)

abbrev pub forbidden_rows : Game → List ℕ → ℕ → ℕ → List Row
forbidden_rows g bytes flags p =
    row Suicide (forbids flags SUICIDE && suicide g.height g.width g.colours g.turn p)
    ∷ row Ko (forbids flags KO && ko g.height g.width g.colours g.ko_point p)
    ∷ row FillEye (forbids flags FILLEYE && eye g.height g.width g.colours g.turn p)
    ∷ row SuperKo (forbids flags SUPERKO && superko g.height g.width g.colours bytes g.records g.ko_point (resulting g p) g.turn p)
    ∷ []

abbrev pub point_rows : Game → List ℕ → ℕ → ℕ → ℕ → List Row
point_rows g bytes flags r c =
    row OffBoard (off_board g r c) ∷ row PointNotEmpty (taken g (index g.width r c)) ∷ forbidden_rows g bytes flags (index g.width r c)

abbrev pub check_rows : Game → List ℕ → ℕ → ℕ → ℕ → List Row
check_rows g bytes flags r c = row BadFlags (ltb max_flags flags) ∷ point_rows g bytes flags r c

-- ---- Stone: 4, the point's by the game's own flags, 10, 11

abbrev pub stone_rows : Game → List ℕ → ℕ → ℕ → List Row
stone_rows g bytes r c =
    row GamePaused (paused g)
    ∷ (point_rows g bytes g.flags r c
    ++ (row MoveLimit (leb max_stones g.accepted) ∷ row HistoryFull (full bytes g.records g.colours) ∷ []))

-- ---- Pass and resign: 4. Resume: none

abbrev pub pause_rows : Game → List Row
pause_rows g = row GamePaused (paused g) ∷ []

-- ---- Handicap: 12, then in order with 5 before 6 at each point, then 13

abbrev pub spot_rows : ℕ → ℕ → List ℕ → List Spot → List Row
spot_rows h w cols [] = []
spot_rows h w cols (s ∷ spots) =
    row OffBoard (outside h w s.row s.column)
    ∷ row PointNotEmpty (not (eqb (at cols (index w s.row s.column)) empty))
    ∷ spot_rows h w (coloured cols black (index w s.row s.column)) spots

abbrev pub handicap_rows : Game → List Spot → List Row
handicap_rows g spots =
    row NotAtStart g.begun
    ∷ (spot_rows g.height g.width g.colours spots
    ++ (row NoLiberty (choked g.height g.width (lay_black g.width g.colours spots)) ∷ []))

-- ---- Board from colours: 1, 14, 15, 13. Legal list: 2, 14

abbrev pub board_rows : ℕ → ℕ → List ℕ → List Row
board_rows h w cols =
    row BadSize (not (side_ok h && side_ok w))
    ∷ row BadLength (not (eqb (length cols) (area h w)))
    ∷ row BadColour (any (ltb white) cols)
    ∷ row NoLiberty (choked h w cols)
    ∷ []

abbrev pub list_rows : Game → ℕ → List ℕ → List Row
list_rows g flags buffer = row BadFlags (ltb max_flags flags) ∷ row BadLength (ltb (length buffer) (area g.height g.width)) ∷ []

-- ---- Lists of points: 5 if a point is given, 14, 15 if a colour is given. The colours as bytes and the picture: 14

abbrev pub length_rows : ℕ → ℕ → ℕ → List Row
length_rows h w n = row BadLength (ltb n (area h w)) ∷ []

abbrev pub question_rows : ℕ → ℕ → ℕ → Question → List Row
question_rows h w n questions.Stones = length_rows h w n
question_rows h w n (questions.Coloured c) = row BadLength (ltb n (area h w)) ∷ row BadColour (ltb white c) ∷ []
question_rows h w n (questions.At r c local) = row OffBoard (leb h r || leb w c) ∷ length_rows h w n

abbrev pub picture_rows : ℕ → ℕ → ℕ → List Row
picture_rows h w n = row BadLength (ltb n (picture_bytes h w)) ∷ []

-- ---- A replay entry: 18, then its call's

abbrev pub entry_rows : Game → List ℕ → Entry → List Row
entry_rows g bytes e =
    row BadKind (ltb 4 e.kind)
    ∷ cond (eqb e.kind 0) (stone_rows g bytes e.row e.column) (cond (eqb e.kind 4) [] (pause_rows g))

-- a replay goes on to the next entry where no row of this one holds, from the state that it leaves
abbrev pub replay_rows : Game → List ℕ → List Entry → List Row
replay_rows g bytes [] = []
replay_rows g bytes (e ∷ es) = entry_rows g bytes e ++ replay_rows (entry_call g bytes e).game (entry_call g bytes e).bytes es

-- how many entries it accepts
abbrev pub accepted_of : Game → List ℕ → List Entry → ℕ
accepted_of g bytes [] = 0
accepted_of g bytes (e ∷ es) =
    cond (accepts (first_of (entry_rows g bytes e))) (suc (accepted_of (entry_call g bytes e).game (entry_call g bytes e).bytes es)) 0

-- ---- The calls of a run

-- what a call asks of the desk before all its tests: where it does not hold, the answer is 3
abbrev pub Asks : Call → Desk → Type 0
Asks (runs.new_game h w flags) d = Unit
Asks (runs.handicap spots) d = TrueState d.game
Asks (runs.stone r c) d = Sound d
Asks runs.pass d = TrueState d.game
Asks (runs.resign player) d = TrueState d.game
Asks runs.resume d = TrueState d.game
Asks (runs.replay es) d = Sound d

abbrev pub rows_of : Call → Desk → List Row
rows_of (runs.new_game h w flags) d = new_rows h w flags
rows_of (runs.handicap spots) d = handicap_rows (view_of d.game) spots
rows_of (runs.stone r c) d = stone_rows (view_of d.game) d.bytes r c
rows_of runs.pass d = pause_rows (view_of d.game)
rows_of (runs.resign player) d = pause_rows (view_of d.game)
rows_of runs.resume d = []
rows_of (runs.replay es) d = replay_rows (view_of d.game) d.bytes es
