-- Every call on a game as its players see it: the tests under the names of 01's table, in the order of 01, and what an accepted call
-- does. A refused call gives back the game and the lent bytes that it got. A state that is not true is refused before all of this (3).
use Rattle.std.specs.Prelude.{Bool, true, false, cond, not, ◌&&◌, ◌||◌, List, [], ◌∷◌, ◌++◌, ℕ, suc, ◌+◌, eqb, ltb, leb, length, drop, None, Some}
use Rattle.rules.specs.Sizes.{max_side, max_stones, max_flags}
use Rattle.rules.specs.Lists.{any, pick, below}
use Rattle.rules.specs.Colours.{empty, black, white, other, at}
use Rattle.rules.specs.Points.{area, index, row, column}
use Rattle.rules.specs.Chain.{liberties}
use Rattle.rules.specs.Records.{full, records_after, bytes_after}
use Rattle.rules.specs.Flags.{KO, SUICIDE, FILLEYE, SUPERKO, forbids}
use Rattle.rules.specs.Answers.{Answer, Accepted, BadSize, BadFlags, GamePaused, OffBoard, PointNotEmpty, Suicide, Ko, SuperKo}
use Rattle.rules.specs.Answers.{FillEye, MoveLimit, HistoryFull, NotAtStart, NoLiberty, BadLength, BadColour, BadKind}
use Rattle.rules.specs.Answers.{accepts, ◌then◌, refuse}
use Rattle.rules.specs.Tests.{suicide, ko, eye, superko}
use Rattle.rules.specs.Move.{coloured, played, removed, sole_of}
use Rattle.rules.specs.Game.{Game, fresh_game, empty_board}

-- what a call on a game gives: the answer, the game and the lent history
pub record Result : Type 0 where
  pub answer : Answer
  pub game : Game
  pub bytes : List ℕ

-- an accepted call gives the new game and bytes, a refused one those that it got
unfoldable pub result : Answer → Game → List ℕ → Game → List ℕ → Result
result a g bytes new new_bytes = record { answer = a; game = cond (accepts a) new g; bytes = cond (accepts a) new_bytes bytes }

-- ---- New game: 1, 2

unfoldable pub side_ok : ℕ → Bool
side_ok n = ltb 0 n && leb n max_side

unfoldable pub size_answer : ℕ → ℕ → Answer
size_answer h w = refuse BadSize (not (side_ok h && side_ok w))

unfoldable pub flags_answer : ℕ → Answer
flags_answer flags = refuse BadFlags (ltb max_flags flags)

unfoldable pub new_answer : ℕ → ℕ → ℕ → Answer
new_answer h w flags = size_answer h w then flags_answer flags

-- a refused new game is an empty 1 × 1 one with flags 0
unfoldable pub new_game : ℕ → ℕ → ℕ → Game
new_game h w flags = cond (accepts (new_answer h w flags)) (fresh_game h w flags) (fresh_game 1 1 0)

-- ---- Check of a point, by given flags: 2, 5, 6, 7, 8 (ko), 9, 8 (superko)

unfoldable pub paused : Game → Bool
paused g = eqb g.passes 2

-- a row and a column that a board of this height and width does not have
unfoldable pub outside : ℕ → ℕ → ℕ → ℕ → Bool
outside h w r c = leb h r || leb w c

unfoldable pub off_board : Game → ℕ → ℕ → Bool
off_board g r c = outside g.height g.width r c

unfoldable pub taken : Game → ℕ → Bool
taken g p = not (eqb (at g.colours p) empty)

-- the board that a stone of the player to move at p would leave
unfoldable pub resulting : Game → ℕ → List ℕ
resulting g p = played g.height g.width g.flags g.colours g.turn p

-- the four tests at an empty point of the board, by the flags
unfoldable pub forbidden_answer : Game → List ℕ → ℕ → ℕ → Answer
forbidden_answer g bytes flags p =
    refuse Suicide (forbids flags SUICIDE && suicide g.height g.width g.colours g.turn p)
    then refuse Ko (forbids flags KO && ko g.height g.width g.colours g.ko_point p)
    then refuse FillEye (forbids flags FILLEYE && eye g.height g.width g.colours g.turn p)
    then refuse SuperKo
    (forbids flags SUPERKO && superko g.height g.width g.colours bytes g.records g.ko_point (resulting g p) g.turn p)

unfoldable pub point_answer : Game → List ℕ → ℕ → ℕ → ℕ → Answer
point_answer g bytes flags r c =
    refuse OffBoard (off_board g r c)
    then refuse PointNotEmpty (taken g (index g.width r c))
    then forbidden_answer g bytes flags (index g.width r c)

unfoldable pub check_answer : Game → List ℕ → ℕ → ℕ → ℕ → Answer
check_answer g bytes flags r c = flags_answer flags then point_answer g bytes flags r c

-- ---- Stone: 4, 5, 6, 7, 8 (ko), 9, 8 (superko), 10, 11

unfoldable pub stone_answer : Game → List ℕ → ℕ → ℕ → Answer
stone_answer g bytes r c =
    refuse GamePaused (paused g)
    then point_answer g bytes g.flags r c
    then refuse MoveLimit (leb max_stones g.accepted)
    then refuse HistoryFull (full bytes g.records g.colours)

-- one more for the colour c, if it is the player to move
unfoldable pub one_if : ℕ → ℕ → ℕ
one_if own c = cond (eqb own c) 1 0

-- the game after a stone at p
unfoldable pub stone_game : Game → List ℕ → ℕ → Game
stone_game g bytes p =
    let before = coloured g.colours g.turn p in
    let after = resulting g p in
    let gone : ℕ → List ℕ = λ c. removed g.height g.width c before after in
    record {
      height = g.height;
      width = g.width;
      flags = g.flags;
      colours = after;
      turn = other g.turn;
      passes = 0;
      white_held = g.white_held + length (gone white);
      black_held = g.black_held + length (gone black);
      ko_point = sole_of (gone (other g.turn));
      outcome = g.outcome;
      handicap = g.handicap;
      accepted = g.accepted + 1;
      black_put = g.black_put + one_if g.turn black;
      white_put = g.white_put + one_if g.turn white;
      records = records_after bytes g.records g.colours;
      begun = true;
    }

unfoldable pub stone : Game → List ℕ → ℕ → ℕ → Result
stone g bytes r c =
    result (stone_answer g bytes r c) g bytes (stone_game g bytes (index g.width r c)) (bytes_after bytes g.records g.colours)

-- ---- Pass and resign: 4

unfoldable pub pause_answer : Game → Answer
pause_answer g = refuse GamePaused (paused g)

-- a pass changes turn, clears the ko point, adds one to passes; it records nothing
unfoldable pub pass_game : Game → Game
pass_game g =
    record {
      height = g.height;
      width = g.width;
      flags = g.flags;
      colours = g.colours;
      turn = other g.turn;
      passes = g.passes + 1;
      white_held = g.white_held;
      black_held = g.black_held;
      ko_point = None;
      outcome = g.outcome;
      handicap = g.handicap;
      accepted = g.accepted;
      black_put = g.black_put;
      white_put = g.white_put;
      records = g.records;
      begun = true;
    }

unfoldable pub pass : Game → List ℕ → Result
pass g bytes = result (pause_answer g) g bytes (pass_game g) bytes

-- a resignation sets the outcome to the player named and, beside the mark, nothing else
unfoldable pub resign_game : Game → ℕ → Game
resign_game g player =
    record {
      height = g.height;
      width = g.width;
      flags = g.flags;
      colours = g.colours;
      turn = g.turn;
      passes = g.passes;
      white_held = g.white_held;
      black_held = g.black_held;
      ko_point = g.ko_point;
      outcome = Some player;
      handicap = g.handicap;
      accepted = g.accepted;
      black_put = g.black_put;
      white_put = g.white_put;
      records = g.records;
      begun = true;
    }

unfoldable pub resign : Game → List ℕ → ℕ → Result
resign g bytes player = result (pause_answer g) g bytes (resign_game g player) bytes

-- ---- Resume: always accepted; sets passes to 0 and changes nothing else

unfoldable pub resume_game : Game → Game
resume_game g =
    record {
      height = g.height;
      width = g.width;
      flags = g.flags;
      colours = g.colours;
      turn = g.turn;
      passes = 0;
      white_held = g.white_held;
      black_held = g.black_held;
      ko_point = g.ko_point;
      outcome = g.outcome;
      handicap = g.handicap;
      accepted = g.accepted;
      black_put = g.black_put;
      white_put = g.white_put;
      records = g.records;
      begun = g.begun;
    }

unfoldable pub resume : Game → List ℕ → Result
resume g bytes = result Accepted g bytes (resume_game g) bytes

-- ---- Handicap, a list of (row, column): 12, then in order 5 before 6 at each point, then 13

pub record Spot : Type 0 where
  pub row : ℕ
  pub column : ℕ

-- some chain has no liberty
unfoldable pub choked : ℕ → ℕ → List ℕ → Bool
choked h w cols = any (λ p. not (eqb (at cols p) empty) && eqb (liberties h w cols p) 0) (below (area h w))

-- the colours with Black stones on the spots
abbrev pub lay_black : ℕ → List ℕ → List Spot → List ℕ
lay_black w cols [] = cols
lay_black w cols (s ∷ spots) = lay_black w (coloured cols black (index w s.row s.column)) spots

-- a repeat is a point that is not empty
abbrev pub spots_answer : ℕ → ℕ → List ℕ → List Spot → Answer
spots_answer h w cols [] = Accepted
spots_answer h w cols (s ∷ spots) =
    refuse OffBoard (outside h w s.row s.column)
    then refuse PointNotEmpty (not (eqb (at cols (index w s.row s.column)) empty))
    then spots_answer h w (coloured cols black (index w s.row s.column)) spots

-- what laying the stones answers, whatever went before
unfoldable pub lay_answer : ℕ → ℕ → List ℕ → List Spot → Answer
lay_answer h w cols spots = spots_answer h w cols spots then refuse NoLiberty (choked h w (lay_black w cols spots))

unfoldable pub handicap_answer : Game → List Spot → Answer
handicap_answer g spots = refuse NotAtStart g.begun then lay_answer g.height g.width g.colours spots

-- Black stones are laid and counted, and it is White's turn, also for an empty list
unfoldable pub handicap_game : Game → List Spot → Game
handicap_game g spots =
    record {
      height = g.height;
      width = g.width;
      flags = g.flags;
      colours = lay_black g.width g.colours spots;
      turn = white;
      passes = g.passes;
      white_held = g.white_held;
      black_held = g.black_held;
      ko_point = g.ko_point;
      outcome = g.outcome;
      handicap = length spots;
      accepted = g.accepted;
      black_put = g.black_put + length spots;
      white_put = g.white_put;
      records = g.records;
      begun = true;
    }

unfoldable pub handicapped : Game → List ℕ → List Spot → Result
handicapped g bytes spots = result (handicap_answer g spots) g bytes (handicap_game g spots) bytes

-- ---- Board from colours: 1, 14, 15, 13. A refused one is an empty 1 × 1 board

pub record Placement : Type 0 where
  pub height : ℕ
  pub width : ℕ
  pub colours : List ℕ

unfoldable pub board_answer : ℕ → ℕ → List ℕ → Answer
board_answer h w cols =
    size_answer h w
    then refuse BadLength (not (eqb (length cols) (area h w)))
    then refuse BadColour (any (ltb white) cols)
    then refuse NoLiberty (choked h w cols)

unfoldable pub board_from : ℕ → ℕ → List ℕ → Placement
board_from h w cols =
    cond (accepts (board_answer h w cols)) (record { height = h; width = w; colours = cols })
    (record { height = 1; width = 1; colours = empty_board 1 1 })

-- ---- Legal list, by given flags: 2, 14. Ascending indexes into a lent buffer of at least as many places as the board has points

-- the empty points that the check by these flags accepts
unfoldable pub legals : Game → List ℕ → ℕ → List ℕ
legals g bytes flags =
    pick (λ p. accepts (point_answer g bytes flags (row g.width p) (column g.width p))) (below (area g.height g.width))

unfoldable pub list_answer : Game → ℕ → List ℕ → Answer
list_answer g flags buffer = flags_answer flags then refuse BadLength (ltb (length buffer) (area g.height g.width))

-- what an accepted list leaves in the buffer: the points from the front, the rest unchanged
unfoldable pub filled : Answer → List ℕ → List ℕ → List ℕ
filled a points buffer = cond (accepts a) (points ++ drop (length points) buffer) buffer

-- ---- Replay: entries in order up to the first refusal; what the accepted ones did stays

-- kinds: 0 stone, 1 pass, 2 and 3 a resignation naming Black or White, 4 resume
pub record Entry : Type 0 where
  pub kind : ℕ
  pub row : ℕ
  pub column : ℕ

unfoldable pub entry_call : Game → List ℕ → Entry → Result
entry_call g bytes e =
    cond (eqb e.kind 0) (stone g bytes e.row e.column)
    (cond (eqb e.kind 1) (pass g bytes)
    (cond (eqb e.kind 2) (resign g bytes black)
    (cond (eqb e.kind 3) (resign g bytes white) (cond (eqb e.kind 4) (resume g bytes) (result BadKind g bytes g bytes)))))

-- how many entries were accepted, the refusal (Accepted if none), and the state after them
pub record Replayed : Type 0 where
  pub entries : ℕ
  pub answer : Answer
  pub game : Game
  pub bytes : List ℕ

abbrev pub replay_from : ℕ → Game → List ℕ → List Entry → Replayed
replay_from n g bytes [] = record { entries = n; answer = Accepted; game = g; bytes = bytes }
replay_from n g bytes (e ∷ es) =
    elim (accepts (entry_call g bytes e).answer) [
      | true ↦ replay_from (suc n) (entry_call g bytes e).game (entry_call g bytes e).bytes es
      | false ↦ record { entries = n; answer = (entry_call g bytes e).answer; game = g; bytes = bytes }
    ]

unfoldable pub replay : Game → List ℕ → List Entry → Replayed
replay g bytes es = replay_from 0 g bytes es
