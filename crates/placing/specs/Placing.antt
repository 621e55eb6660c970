-- What placing promises: a board that stands as given, by 01's answers.
use Rattle.std.specs.Prelude.{◌≡◌, true, false, List, [], ◌∷◌, ◌≢◌, ℕ, ◌≤◌, ◌<◌, ◌/◌, ◌%◌, length, take, Result, Ok, Err}
use Rattle.rules.specs.Colours.{empty, white, at}
use Rattle.rules.specs.Points.{area, neighbours}
use Rattle.rules.specs.Reach.{Reaches}
use Rattle.rules.specs.Answers.{Answer, Accepted, NoLiberty, number, accepts, refuse}
use Rattle.rules.specs.Game.{empty_board}
use Rattle.rules.specs.Calls.{Spot, choked, lay_black, spots_answer, lay_answer}
use Rattle.board.specs.declared.goban.Board.{Board}
use Rattle.board.specs.Board.{colours_of}
use Rattle.board.specs.True.{TrueBoard}
use Rattle.points.specs.Reason.{reason}
use Rattle.points.specs.declared.answers.Refusal.{Refusal}
use Rattle.placing.specs.declared.place.Placed.{Placed}

-- a true board of this height and width with these colours
pub record Stands (h w : ℕ) (cols : List ℕ) (b : Board) : Type 0 where
  pub is_true : TrueBoard b
  pub tall : b.height ≡ h
  pub wide : b.width ≡ w
  pub colours : colours_of b ≡ cols

-- what a call that makes a board gives: the answer's number, and a board that stands, or the one that is given back
pub record Outcome (a : Answer) (h w : ℕ) (cols : List ℕ) (back : Board) (r : Placed) : Type 0 where
  pub answered : r.answer ≡ number a
  pub placed : accepts a ≡ true → Stands h w cols r.board
  pub refused : accepts a ≡ false → r.board ≡ back

-- ---- One stone, or none, on an empty point

-- some stone does not reach empty
pub record Stuck (h w : ℕ) (cols : List ℕ) : Type 0 where
  pub point : ℕ
  pub stone : at cols point ≢ empty
  pub shut : ¬ Reaches (neighbours h w) (at cols) point empty

pub record Adding (b : Board) (p c : ℕ) : Type 0 where
  pub is_true : TrueBoard b
  pub on : p < area b.height b.width
  pub vacant : at (colours_of b) p ≡ empty
  pub known : c ≤ white

-- ---- Colours on an empty board

-- a true board with no stone on it
pub record Bare (b : Board) : Type 0 where
  pub is_true : TrueBoard b
  pub bare : colours_of b ≡ empty_board b.height b.width

pub record Placing (b : Board) (cols : List ℕ) : Type 0 where
  pub onto : Bare b
  pub covers : length cols ≡ area b.height b.width
  pub known : (p : ℕ) → at cols p ≤ white

-- 13 is the one answer that is left
abbrev pub PlacedOn : Board → List ℕ → Placed → Type 0
PlacedOn b cols r = Outcome (refuse NoLiberty (choked b.height b.width cols)) b.height b.width cols b r

-- ---- Handicap's stones on an empty board: 5 before 6 at each point, then 13

-- a spot is one number: row × 256 + column
abbrev pub spot_of : ℕ → Spot
spot_of n = record { row = n / 256; column = n % 256 }

abbrev pub spots_of : List ℕ → List Spot
spots_of [] = []
spots_of (n ∷ ns) = spot_of n ∷ spots_of ns

-- what going through the spots answers
abbrev pub told : Result (List ℕ) Refusal → Answer
told (Ok colours) = Accepted
told (Err r) = reason r

-- where they are accepted, the colours of the stones on the spots, in an array of as many places as the largest board has points
pub record MarkedOut (h w : ℕ) (spots : List Spot) (r : Result (List ℕ) Refusal) : Type 0 where
  pub answered : told r ≡ spots_answer h w (empty_board h w) spots
  pub marked : (colours : List ℕ) → r ≡ Ok colours → take (area h w) colours ≡ lay_black w (empty_board h w) spots

-- the stones are laid on the board's colours; a refused handicap leaves the very same board
abbrev pub Handicapped : Board → List Spot → Placed → Type 0
Handicapped b spots r =
    Outcome (lay_answer b.height b.width (colours_of b) spots) b.height b.width (lay_black b.width (colours_of b) spots) b r
