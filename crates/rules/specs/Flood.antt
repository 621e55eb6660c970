-- What computes reach and clearing on a list of colours: one flood that marks points. Laws.Flood proves it equal to Reach.
use Rattle.std.specs.Prelude.{Bool, true, false, cond, not, ◌&&◌, List, [], ◌∷◌, ◌++◌, ℕ, zero, suc, ◌+◌, ◌*◌, eqb, length, get_or, set, replicate}
use Rattle.rules.specs.Lists.{tabulate, any, below}
use Rattle.rules.specs.Colours.{empty, at}
use Rattle.rules.specs.Points.{area, neighbours}

-- ---- The flood, over any graph of points

-- p may be passed and is not marked yet. What lies beyond the list counts as marked
unfoldable pub fresh : (ℕ → Bool) → List Bool → ℕ → Bool
fresh pass marks p = pass p && not (get_or marks p true)

-- marks what can be reached from the points to do, by points that may be passed; n bounds how many points are looked at
abbrev pub flood : (ℕ → List ℕ) → (ℕ → Bool) → ℕ → List ℕ → List Bool → List Bool
flood beside pass zero todo marks = marks
flood beside pass (suc n) [] marks = marks
flood beside pass (suc n) (p ∷ todo) marks =
    elim (fresh pass marks p) [
      | true ↦ flood beside pass n (beside p ++ todo) (set marks p true)
      | false ↦ flood beside pass n todo marks
    ]

-- each point is marked at most once, and puts at most four more to do
unfoldable pub flooded : (ℕ → List ℕ) → (ℕ → Bool) → ℕ → List ℕ → List Bool
flooded beside pass n seeds = flood beside pass (length seeds + 4 * n) seeds (replicate n false)

unfoldable pub marked : List Bool → ℕ → Bool
marked marks p = get_or marks p false

-- ---- On a board

-- the points of p's colour that are connected with p: its chain, where p is a stone
unfoldable pub chain : ℕ → ℕ → List ℕ → ℕ → List Bool
chain h w cols p = flooded (neighbours h w) (λ q. eqb (at cols q) (at cols p)) (area h w) (p ∷ [])

-- some point beside p has the colour c
unfoldable pub touches : ℕ → ℕ → List ℕ → ℕ → ℕ → Bool
touches h w cols c p = any (λ q. eqb (at cols q) c) (neighbours h w p)

-- Tromp-Taylor 3: p reaches the colour c
unfoldable pub reaches : ℕ → ℕ → List ℕ → ℕ → ℕ → Bool
reaches h w cols p c =
    let area-of-p = chain h w cols p in
    not (eqb (at cols p) c) && any (λ q. marked area-of-p q && touches h w cols c q) (below (area h w))

-- the points beside the empty points
unfoldable pub shores : ℕ → ℕ → List ℕ → List ℕ → List ℕ
shores h w cols [] = []
shores h w cols (p ∷ ps) = cond (eqb (at cols p) empty) (neighbours h w p ++ shores h w cols ps) (shores h w cols ps)

-- the points of colour c that reach empty: one flood from beside the empty points
unfoldable pub alive : ℕ → ℕ → ℕ → List ℕ → List Bool
alive h w c cols = flooded (neighbours h w) (λ q. eqb (at cols q) c) (area h w) (shores h w cols (below (area h w)))

-- Tromp-Taylor 4: the colours with the colour c cleared
unfoldable pub clear : ℕ → ℕ → ℕ → List ℕ → List ℕ
clear h w c cols =
    let kept = alive h w c cols in
    tabulate (λ p. cond (eqb (at cols p) c && not (marked kept p)) empty (at cols p)) 0 (area h w)
