-- What a reply says of points.
use Rattle.std.specs.Prelude.{Bool, cond, ◌&&◌, List, [], ◌∷◌, ◌++◌, ℕ, zero, suc, eqb, ltb, length, Option, None, Some}
use Rattle.rules.specs.Colours.{black, white, at}
use Rattle.rules.specs.Points.{row, column}
use Rattle.spelling.specs.Text.{ascii}
use Rattle.writing.specs.Figures.{decimal, spaced}

-- ---- Places and rows

-- row and column with a comma between; a dash where there is none
abbrev pub placed : ℕ → Option ℕ → List ℕ
placed w None = ascii "-"
placed w (Some p) = decimal (row w p) ++ ascii "," ++ decimal (column w p)

-- X is Black, O is White, a dot is empty
unfoldable pub sign : ℕ → ℕ
sign c = cond (eqb c black) 88 (cond (eqb c white) 79 46)

-- a point that begins a row other than the first has a slash before it
unfoldable pub starts_row : ℕ → ℕ → Bool
starts_row w p = ltb 0 p && eqb (column w p) 0

unfoldable pub point : Bool → ℕ → List ℕ
point starts c = cond starts (47 ∷ sign c ∷ []) (sign c ∷ [])

-- the first points, row by row
abbrev pub rows_upto : ℕ → List ℕ → ℕ → List ℕ
rows_upto w cols zero = []
rows_upto w cols (suc p) = rows_upto w cols p ++ point (starts_row w p) (at cols p)

-- ---- Lists

abbrev pub each : List ℕ → List ℕ
each [] = []
each (p ∷ ps) = spaced (decimal p) ++ each ps

-- the answer 0, how many there are, and the points
unfoldable pub points : List ℕ → List ℕ
points ps = decimal 0 ++ spaced (decimal (length ps)) ++ each ps
