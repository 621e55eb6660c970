-- What stands on the sides of a point, and what the tests of suicide, ko and capture ask of it.
use Rattle.std.specs.Prelude.{Bool, cond, not, ◌&&◌, ◌||◌, List, map, ℕ, eqb, ltb}
use Rattle.std.specs.Option.{option_map}
use Rattle.rules.specs.Lists.{present}
use Rattle.rules.specs.Colours.{empty, other, at}
use Rattle.rules.specs.Points.{sides}
use Rattle.rules.specs.Chain.{size, liberties}
use Rattle.legality.specs.declared.near.Near.{Near}
use Rattle.legality.specs.declared.near.Beside.{Beside}

-- ---- What stands beside a point

-- what f says of a stone; 0 at an empty point
unfoldable pub of_stone : List ℕ → (ℕ → ℕ) → ℕ → ℕ
of_stone cols f q = cond (eqb (at cols q) empty) 0 (f q)

-- what stands at a point: its colour, and the liberties and the stones of its chain
unfoldable pub seen : ℕ → ℕ → List ℕ → ℕ → Beside
seen h w cols q =
    record { colour = at cols q; liberties = of_stone cols (liberties h w cols) q; stones = of_stone cols (size h w cols) q }

-- that of the points on the sides of p
unfoldable pub near_of : ℕ → ℕ → List ℕ → ℕ → Near
near_of h w cols p = record { sides = map (option_map (seen h w cols)) (sides h w p) }

-- what there is of the four
unfoldable pub besides : Near → List Beside
besides n = present n.sides

-- ---- What the tests ask of what stands at a point

-- a chain of the colour c with one liberty
unfoldable pub caught : ℕ → Beside → Bool
caught c b = eqb b.colour c && eqb b.liberties 1

-- a chain of either colour with one liberty and more than one stone
unfoldable pub catches_more : Beside → Bool
catches_more b = not (eqb b.colour empty) && eqb b.liberties 1 && ltb 1 b.stones

-- what keeps an own stone alive: an empty point, an own chain that has another liberty, an enemy chain that is captured
unfoldable pub saves : ℕ → Beside → Bool
saves own b = eqb b.colour empty || (eqb b.colour own && not (eqb b.liberties 1)) || caught (other own) b
