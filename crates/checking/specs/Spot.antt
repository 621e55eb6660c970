-- Where a stone would go, by the rules.
use Rattle.std.specs.Prelude.{cond, List, ℕ, eqb}
use Rattle.rules.specs.Points.{index}
use Rattle.rules.specs.Colours as colours
use Rattle.rules.specs.Colours.{at}
use Rattle.rules.specs.Calls.{outside}
use Rattle.checking.specs.declared.spot.Spot.{Spot}
use Rattle.checking.specs.declared.spot.Spot.TheVariants.{Off, Stone, Empty}

unfoldable pub spot_of : ℕ → ℕ → List ℕ → ℕ → ℕ → Spot
spot_of h w cols r c = cond (outside h w r c) Off (cond (eqb (at cols (index w r c)) colours.empty) (Empty (index w r c)) Stone)
