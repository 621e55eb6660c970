-- The grid (Tromp-Taylor 1): points, rows and columns, and which points lie beside each other.
use Rattle.std.specs.Prelude.{cond, ◌≡◌, List, [], ◌∷◌, ◌⊎◌, ℕ, ◌+◌, ◌-◌, ◌*◌, ◌/◌, ◌%◌, ◌<◌, ltb, Option, None, Some}
use Rattle.rules.specs.Lists.{present}

-- the number of points of a board of this height and width
unfoldable pub area : ℕ → ℕ → ℕ
area h w = h * w

-- point index = row × width + column, row 0 at the top
unfoldable pub index : ℕ → ℕ → ℕ → ℕ
index w r c = r * w + c

unfoldable pub row : ℕ → ℕ → ℕ
row w p = p / w

unfoldable pub column : ℕ → ℕ → ℕ
column w p = p % w

-- ---- What a reader must believe: two points of the board lie side by side in a row or in a column.

unfoldable pub NextTo : ℕ → ℕ → Type 0
NextTo a b = (a + 1 ≡ b) ⊎ (b + 1 ≡ a)

pub record Adjacent (h w p q : ℕ) : Type 0 where
  pub on : p < area h w
  pub on' : q < area h w
  pub beside :
      ((row w p ≡ row w q) × NextTo (column w p) (column w q))
      ⊎ ((column w p ≡ column w q) × NextTo (row w p) (row w q))

-- ---- What lists them.

-- one step along a row or a column of n places: back, none, or forth
pub data Shift : Type 0 where
  back stay forth : Shift

unfoldable pub shifted : Shift → ℕ → ℕ → Option ℕ
shifted back n x = cond (ltb 0 x) (Some (x - 1)) None
shifted stay n x = Some x
shifted forth n x = cond (ltb (x + 1) n) (Some (x + 1)) None

abbrev pub joined : ℕ → Option ℕ → Option ℕ → Option ℕ
joined w None c = None
joined w (Some r) None = None
joined w (Some r) (Some c) = Some (index w r c)

-- the point one step from p, if p and that point are on the board
unfoldable pub towards : ℕ → ℕ → ℕ → Shift → Shift → Option ℕ
towards h w p dr dc = cond (ltb p (area h w)) (joined w (shifted dr h (row w p)) (shifted dc w (column w p))) None

-- the four sides of p, in the order of the crate's `neighbor_coords`: below, above, right, left
unfoldable pub sides : ℕ → ℕ → ℕ → List (Option ℕ)
sides h w p = towards h w p forth stay ∷ towards h w p back stay ∷ towards h w p stay forth ∷ towards h w p stay back ∷ []

-- the points beside p: proved in Laws.Points to be exactly those that are Adjacent to it
unfoldable pub neighbours : ℕ → ℕ → ℕ → List ℕ
neighbours h w p = present (sides h w p)

-- the four diagonal places of p, in the order of the crate's `corner_points`: (+1,+1), (−1,−1), (+1,−1), (−1,+1)
unfoldable pub corners : ℕ → ℕ → ℕ → List (Option ℕ)
corners h w p = towards h w p forth forth ∷ towards h w p back back ∷ towards h w p forth back ∷ towards h w p back forth ∷ []
