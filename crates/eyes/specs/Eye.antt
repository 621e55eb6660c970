-- What an empty corner says of an eye, before the next is asked.
use Rattle.std.specs.Prelude.{Bool, true, false, cond, List, ℕ, eqb, Option, None, Some}
use Rattle.rules.specs.Lists.{any}
use Rattle.rules.specs.Colours.{empty, other, at}
use Rattle.rules.specs.Points.{neighbours}
use Rattle.rules.specs.Tests.{friendly_corners, two_or_three}

module _ (h w : ℕ) (cols : List ℕ) (own : ℕ) where
  -- an enemy beside an empty corner: no eye; two or three friendly corners of its own: an eye; else the next corner decides
  unfoldable pub said : ℕ → Option Bool
  said q =
      cond (any (λ r. eqb (at cols r) (other own)) (neighbours h w q)) (Some false)
      (cond (two_or_three h w cols (friendly_corners h w cols own q)) (Some true) None)

  -- a corner that is off the board or not empty says nothing
  unfoldable pub scanned : Option ℕ → Option Bool
  scanned None = None
  scanned (Some q) = cond (eqb (at cols q) empty) (said q) None
