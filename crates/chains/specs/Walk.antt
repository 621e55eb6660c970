-- The walk along a chain's links: from a point to the point that its link names, and so on.
use Rattle.std.specs.Prelude.{cond, List, ℕ, zero, suc, min, ltb, get_or}
use Rattle.rules.specs.Sizes.{max_area}
use Rattle.rules.specs.Lists.{tabulate}

-- the point k links after p
abbrev pub stepped : List ℕ → ℕ → ℕ → ℕ
stepped next p zero = p
stepped next p (suc k) = get_or next (stepped next p k) 0

-- the n points from p on
unfoldable pub walked : List ℕ → ℕ → ℕ → List ℕ
walked next p n = tabulate (stepped next p) 0 n

-- how many of the n points from p on come before one that is no point of the largest board
abbrev pub on_board : List ℕ → ℕ → ℕ → ℕ
on_board next p zero = 0
on_board next p (suc n) = cond (ltb p max_area) (suc (on_board next (get_or next p 0) n)) 0

-- how many points the walk of count stones writes: never more than there are points
unfoldable pub walk_length : List ℕ → ℕ → ℕ → ℕ
walk_length next p count = on_board next p (min count max_area)
