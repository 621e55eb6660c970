-- A chain, its size and its liberties, and the number of chains, from the colours alone.
use Rattle.std.specs.Prelude.{Bool, not, ◌&&◌, List, ℕ, eqb}
use Rattle.rules.specs.Lists.{any, count, below}
use Rattle.rules.specs.Colours.{empty, at}
use Rattle.rules.specs.Points.{area, neighbours}
use Rattle.rules.specs.Flood.{chain, marked}

-- the number of stones of p's chain
unfoldable pub size : ℕ → ℕ → List ℕ → ℕ → ℕ
size h w cols p = count (λ b. b) (chain h w cols p)

-- q is a liberty of the marked chain: an empty point beside one of its stones
unfoldable pub liberty : ℕ → ℕ → List ℕ → List Bool → ℕ → Bool
liberty h w cols stones q = eqb (at cols q) empty && any (marked stones) (neighbours h w q)

-- the number of liberties of p's chain
unfoldable pub liberties : ℕ → ℕ → List ℕ → ℕ → ℕ
liberties h w cols p = let stones = chain h w cols p in count (liberty h w cols stones) (below (area h w))

-- p is a stone, and the first of its chain
unfoldable pub leads : ℕ → ℕ → List ℕ → ℕ → Bool
leads h w cols p = not (eqb (at cols p) empty) && not (any (marked (chain h w cols p)) (below p))

-- the number of chains on the board: each is counted at its first stone
unfoldable pub chains : ℕ → ℕ → List ℕ → ℕ
chains h w cols = count (leads h w cols) (below (area h w))
