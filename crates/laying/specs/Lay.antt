-- A stone laid by the steps: put, joined with its neighbours of one colour, then the dead lifted, the enemy's before one's own.
use Rattle.std.specs.Prelude.{Bool, true, false, cond, not, ◌&&◌, List, [], ◌∷◌, ℕ, ◌+◌, eqb, Option, None, Some}
use Rattle.rules.specs.Points.{neighbours}
use Rattle.rules.specs.Colours.{other}
use Rattle.sets.specs.Liberties.{number}
use Rattle.board.specs.declared.goban.Board.{Board}
use Rattle.board.specs.Board.{owner, chain_in, colour_at}
use Rattle.steps.specs.Steps.{put, join, remove}

-- the chain in slot s, joined with each chain of its colour that owns a point of the list: the board, and the slot that it is in then
pub record Joined : Type 0 where
  pub board : Board
  pub slot : ℕ

abbrev pub join_all : ℕ → List ℕ → Board → ℕ → Joined
join_all c [] b s = record { board = b; slot = s }
join_all c (q ∷ qs) b s =
    elim (eqb (colour_at b q) c && not (eqb (owner b q) s)) [
      | true ↦ join_all c qs (join b (owner b q) s) (owner b q)
      | false ↦ join_all c qs b s
    ]

-- the chain in the slot has no liberty
unfoldable pub dead : Board → ℕ → Bool
dead b s = eqb (number (chain_in b s).liberties) 0

-- what was taken: how many stones, and a point of them
pub record Haul : Type 0 where
  pub board : Board
  pub stones : ℕ
  pub point : ℕ

-- the chain that owns q is lifted
unfoldable pub lifted : ℕ → Haul → Haul
lifted q h =
    record {
      board = remove h.board (owner h.board q);
      stones = h.stones + (chain_in h.board (owner h.board q)).count;
      point = (chain_in h.board (owner h.board q)).origin;
    }

-- each chain of colour c without liberty that owns a point of the list is lifted
abbrev pub take_all : ℕ → List ℕ → Haul → Haul
take_all c [] h = h
take_all c (q ∷ qs) h =
    elim (eqb (colour_at h.board q) c && dead h.board (owner h.board q)) [
      | true ↦ take_all c qs (lifted q h)
      | false ↦ take_all c qs h
    ]

-- ---- The stone

-- the board after the stone; how many enemy stones were taken, and how many of one's own; the ko point
pub record Laid : Type 0 where
  pub board : Board
  pub taken : ℕ
  pub lost : ℕ
  pub ko_point : Option ℕ

-- the own chain is lifted where it has no liberty and suicide is allowed
unfoldable pub finished : Bool → ℕ → Haul → Laid
finished keep s h =
    let gone = not keep && dead h.board s in
    record {
      board = cond gone (remove h.board s) h.board;
      taken = h.stones;
      lost = cond gone (chain_in h.board s).count 0;
      ko_point = cond (eqb h.stones 1) (Some h.point) None;
    }

-- keep: own chains are never lifted
unfoldable pub lay : Board → ℕ → ℕ → ℕ → Bool → Laid
lay b p c s keep =
    let beside = neighbours b.height b.width p in
    let j = join_all c beside (put b p c s) s in
    finished keep j.slot (take_all (other c) beside (record { board = j.board; stones = 0; point = 0 }))
