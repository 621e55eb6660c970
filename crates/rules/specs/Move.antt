-- What a stone does to the colours (Tromp-Taylor 7), and what it takes.
use Rattle.std.specs.Prelude.{cond, ◌&&◌, List, [], ◌∷◌, ℕ, eqb, set, Option, None, Some}
use Rattle.rules.specs.Lists.{pick, below}
use Rattle.rules.specs.Colours.{empty, other, at}
use Rattle.rules.specs.Points.{area}
use Rattle.rules.specs.Flood.{clear}
use Rattle.rules.specs.Flags.{SUICIDE, forbids}

-- the point is coloured
unfoldable pub coloured : List ℕ → ℕ → ℕ → List ℕ
coloured cols own p = set cols p own

-- then the enemy chains that reach no empty point are emptied
unfoldable pub captured : ℕ → ℕ → List ℕ → ℕ → ℕ → List ℕ
captured h w cols own p = clear h w (other own) (coloured cols own p)

-- then one's own, where SUICIDE is not set
unfoldable pub played : ℕ → ℕ → ℕ → List ℕ → ℕ → ℕ → List ℕ
played h w flags cols own p = cond (forbids flags SUICIDE) (captured h w cols own p) (clear h w own (captured h w cols own p))

-- the points where a stone of colour c was removed
unfoldable pub removed : ℕ → ℕ → ℕ → List ℕ → List ℕ → List ℕ
removed h w c before after = pick (λ p. eqb (at before p) c && eqb (at after p) empty) (below (area h w))

-- the ko point: the removed point if exactly one chain was captured and it had one stone, else none. That is so exactly if one
-- enemy stone was removed
unfoldable pub sole_of : List ℕ → Option ℕ
sole_of [] = None
sole_of (p ∷ []) = Some p
sole_of (p ∷ q ∷ ps) = None
