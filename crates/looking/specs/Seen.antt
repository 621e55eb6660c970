-- What a board shows of its points, and what of that stands beside a point.
use Rattle.std.specs.Prelude.{cond, ◌&&◌, List, map, ◌≡◌, ℕ, ◌≤◌, ◌<◌, eqb, length, get_or}
use Rattle.std.specs.Option.{option_map}
use Rattle.rules.specs.Sizes.{max_area, slots}
use Rattle.rules.specs.Lists.{tabulate}
use Rattle.rules.specs.Colours.{empty, at}
use Rattle.rules.specs.Points.{area, index, sides}
use Rattle.rules.specs.Chain.{size, liberties}
use Rattle.chains.specs.declared.group.Chain.{Chain}
use Rattle.sets.specs.Liberties.{number}
use Rattle.history.specs.Packing.{on_largest}
use Rattle.legality.specs.declared.near.Near.{Near}
use Rattle.legality.specs.declared.near.Beside.{Beside}
use Rattle.legality.specs.Near.{of_stone, near_of}
use Rattle.board.specs.declared.goban.Board.{Board}
use Rattle.board.specs.Board.{colours_of}
use Rattle.looking.specs.declared.look.Seen.{Seen}
use Rattle.looking.specs.declared.look.Sight.{Sight}

-- what is seen of a chain
unfoldable pub chain_seen : Chain → Beside
chain_seen c = record { colour = c.colour; liberties = number c.liberties; stones = c.count }

unfoldable pub nothing : Beside
nothing = record { colour = empty; liberties = 0; stones = 0 }

-- at the numbers of the largest board's points
unfoldable pub seen_of : ℕ → ℕ → List ℕ → Seen
seen_of h w cols =
    record {
      colours = on_largest cols;
      liberties = tabulate (of_stone cols (liberties h w cols)) 0 max_area;
      stones = tabulate (of_stone cols (size h w cols)) 0 max_area;
    }

-- what a chain shows at p: where p is not its first point, its liberties stand at the first
pub record Counted (c : Chain) (liberties : List ℕ) (p : ℕ) : Type 0 where
  pub within : p < max_area
  pub first : c.origin < p → get_or liberties c.origin 0 ≡ number c.liberties

-- there is a place for each point of the board
pub record Shows (h w : ℕ) (colours liberties stones : List ℕ) : Type 0 where
  pub fits : area h w ≤ max_area
  pub coloured : length colours ≡ max_area
  pub breathing : length liberties ≡ max_area
  pub counted : length stones ≡ max_area

-- a point as it is shown
unfoldable pub shown : List ℕ → List ℕ → List ℕ → ℕ → Beside
shown cs ls ss q = record { colour = get_or cs q 0; liberties = get_or ls q 0; stones = get_or ss q 0 }

-- the points on the sides of p in order, as they are shown
unfoldable pub near_in : ℕ → ℕ → List ℕ → List ℕ → List ℕ → ℕ → Near
near_in h w cs ls ss p = record { sides = map (option_map (shown cs ls ss)) (sides h w p) }

-- a slot of the table, and the owner where it is one
pub record Readable (owner slot : ℕ) : Type 0 where
  pub within : slot < slots
  pub owned : owner < slots → slot ≡ owner

-- all that a sight and the colours beside it tell is the board's
pub record Sees (b : Board) (r c : ℕ) (cols : List ℕ) (s : Sight) : Type 0 where
  pub height : s.height ≡ b.height
  pub width : s.width ≡ b.width
  pub hash : s.hash ≡ b.hash
  pub point : s.point ≡ index b.width r c
  pub near : s.near ≡ near_of b.height b.width (colours_of b) s.point
  pub colours : cols ≡ on_largest (colours_of b)

-- the first n colours are the board's, and beyond the board nothing stands
pub record Partly (b : Board) (n : ℕ) (cols : List ℕ) : Type 0 where
  pub long : length cols ≡ max_area
  pub read : (p : ℕ) → p < n → at cols p ≡ at (colours_of b) p
  pub rest : (p : ℕ) → area b.height b.width ≤ p → at cols p ≡ empty

-- how many colours are the board's after a stone that took and lost so many
unfoldable pub known_after : ℕ → ℕ → ℕ
known_after taken lost = cond (eqb taken 0 && eqb lost 0) max_area 0
