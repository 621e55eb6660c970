-- What a query on a board answers, by the rules' definitions on the colours alone, and what it leaves in the lent buffer.
use Rattle.std.specs.Prelude.{Bool, cond, not, ◌&&◌, ◌||◌, List, [], ◌≡◌, ℕ, eqb, ltb, leb, length}
use Rattle.rules.specs.Lists.{any, pick, below, has}
use Rattle.rules.specs.Colours.{empty, white, at}
use Rattle.rules.specs.Points.{area, index, neighbours}
use Rattle.rules.specs.Flood.{chain, marked}
use Rattle.rules.specs.Chain.{liberty, leads}
use Rattle.rules.specs.Answers.{Answer, Damaged, OffBoard, BadLength, BadColour, number, accepts, ◌then◌, refuse}
use Rattle.rules.specs.Calls.{filled}
use Rattle.board.specs.declared.goban.Board.{Board}
use Rattle.board.specs.Board.{colours_of}
use Rattle.board.specs.True.{TrueBoard}
use Rattle.listing.specs.declared.list.Listed.{Listed}
use Rattle.viewing.specs.declared.shows.Local.{Local}
use Rattle.viewing.specs.declared.shows.Local.TheVariants.{Chain, Liberties, Points, Stones, Empties, Chains}
use Rattle.viewing.specs.declared.shows.Question as asks
use Rattle.viewing.specs.declared.shows.Question.TheVariants as questions

-- ---- Which points a list has

module _ (h w : ℕ) (cols : List ℕ) where
  unfoldable pub stone : ℕ → Bool
  stone q = not (eqb (at cols q) empty)

  -- the point q is in the list that is asked at the point p. An empty point has no chain. A chain is listed by its least point
  abbrev pub shown_at : ℕ → Local → ℕ → Bool
  shown_at p Chain q = stone p && marked (chain h w cols p) q
  shown_at p Liberties q = stone p && liberty h w cols (chain h w cols p) q
  shown_at p Points q = has (neighbours h w p) q
  shown_at p Stones q = stone q && has (neighbours h w p) q
  shown_at p Empties q = eqb (at cols q) empty && has (neighbours h w p) q
  shown_at p Chains q = leads h w cols q && any (marked (chain h w cols q)) (neighbours h w p)

  abbrev pub shown : asks.Question → ℕ → Bool
  shown questions.Stones q = stone q
  shown (questions.Coloured c) q = eqb (at cols q) c
  shown (questions.At r c local) q = shown_at (index w r c) local q

  -- the points of the list, ascending
  unfoldable pub listed : asks.Question → List ℕ
  listed question = pick (shown question) (below (area h w))

-- ---- What is refused, in the order of 01: 5 if a point is given, 14, 15 if a colour is given

-- n is the length of the buffer: it needs a place for each point of the board
unfoldable pub length_answer : ℕ → ℕ → ℕ → Answer
length_answer h w n = refuse BadLength (ltb n (area h w))

abbrev pub list_answer : ℕ → ℕ → ℕ → asks.Question → Answer
list_answer h w n questions.Stones = length_answer h w n
list_answer h w n (questions.Coloured c) = length_answer h w n then refuse BadColour (ltb white c)
list_answer h w n (questions.At r c local) = refuse OffBoard (leb h r || leb w c) then length_answer h w n

-- ---- What a call leaves

-- the answer's number; how many places were filled; the buffer, with the places from the front, or as it was where the call is refused
pub record Left (answer : Answer) (places before : List ℕ) (r : Listed) (after : List ℕ) : Type 0 where
  pub answered : r.number ≡ number answer
  pub counted : r.count ≡ length (cond (accepts answer) places [])
  pub buffer : after ≡ filled answer places before

-- a board that is not true is refused before all else
pub record Answered (b : Board) (answer : Answer) (places before : List ℕ) (r : Listed) (after : List ℕ) : Type 0 where
  pub told : TrueBoard b → Left answer places before r after
  pub damaged : ¬ TrueBoard b → Left Damaged places before r after

-- the answer to a question that a list answers
unfoldable pub Lists : Board → asks.Question → List ℕ → Listed → List ℕ → Type 0
Lists b question before r after =
    Answered b (list_answer b.height b.width (length before) question) (listed b.height b.width (colours_of b) question) before r after
