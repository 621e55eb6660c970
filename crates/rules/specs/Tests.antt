-- The four tests of 01 for the player to move, at an empty point p of the board: suicide, ko, eye and superko. On colours, the
-- records and the ko point alone.
use Rattle.std.specs.Prelude.{Bool, true, false, cond, not, ◌&&◌, ◌||◌, List, [], ◌∷◌, ℕ, eqb, ltb, Option, None, Some}
use Rattle.rules.specs.Lists.{any, all, count, pick, present}
use Rattle.rules.specs.Colours.{empty, other, at}
use Rattle.rules.specs.Points.{neighbours, corners}
use Rattle.rules.specs.Chain.{size, liberties}
use Rattle.rules.specs.Records.{recorded}

module _ (h w : ℕ) (cols : List ℕ) where
  -- the chain of the stone at q has exactly one liberty
  unfoldable pub in_atari : ℕ → Bool
  in_atari q = eqb (liberties h w cols q) 1

  -- ---- Suicide: no empty neighbour, and no neighbouring own chain with a liberty count other than 1, and no neighbouring enemy
  -- chain with count 1.

  unfoldable pub suicide : ℕ → ℕ → Bool
  suicide own p =
      not (any (λ q. eqb (at cols q) empty) (neighbours h w p))
      && not (any (λ q. eqb (at cols q) own && not (in_atari q)) (neighbours h w p))
      && not (any (λ q. eqb (at cols q) (other own) && in_atari q) (neighbours h w p))

  -- ---- Ko: the point is the ko point and no neighbouring chain, of either colour, has one liberty and more than one stone.

  unfoldable pub is_ko_point : Option ℕ → ℕ → Bool
  is_ko_point None p = false
  is_ko_point (Some k) p = eqb p k

  unfoldable pub ko : Option ℕ → ℕ → Bool
  ko point p =
      is_ko_point point p
      && not (any (λ q. not (eqb (at cols q) empty) && in_atari q && ltb 1 (size h w cols q)) (neighbours h w p))

  -- ---- Eye: all neighbours are own stones; let c be own plus off-board diagonal points. c = 4 is an eye; c below 2 is not.
  -- For 2 or 3, go through the empty diagonals in order: if one has an enemy neighbour, not an eye; else if its own such count is
  -- 2 or 3, an eye; else the next; at the end, not an eye.

  -- own or off the board
  unfoldable pub friendly : ℕ → Option ℕ → Bool
  friendly own None = true
  friendly own (Some q) = eqb (at cols q) own

  unfoldable pub friendly_corners : ℕ → ℕ → ℕ
  friendly_corners own p = count (friendly own) (corners h w p)

  unfoldable pub two_or_three : ℕ → Bool
  two_or_three c = eqb c 2 || eqb c 3

  unfoldable pub empty_corners : ℕ → List ℕ
  empty_corners p = pick (λ q. eqb (at cols q) empty) (present (corners h w p))

  abbrev pub eye_among : ℕ → List ℕ → Bool
  eye_among own [] = false
  eye_among own (q ∷ qs) =
      cond (any (λ r. eqb (at cols r) (other own)) (neighbours h w q)) false
      (cond (two_or_three (friendly_corners own q)) true (eye_among own qs))

  unfoldable pub eye : ℕ → ℕ → Bool
  eye own p =
      all (λ q. eqb (at cols q) own) (neighbours h w p)
      && (eqb (friendly_corners own p) 4 || (two_or_three (friendly_corners own p) && eye_among own (empty_corners p)))

  -- ---- Superko: more than two records, some enemy neighbour chain has one liberty, and the ko test holds or the resulting board's
  -- record equals a stored one.

  unfoldable pub captures : ℕ → ℕ → Bool
  captures own p = any (λ q. eqb (at cols q) (other own) && in_atari q) (neighbours h w p)

  unfoldable pub superko : List ℕ → ℕ → Option ℕ → List ℕ → ℕ → ℕ → Bool
  superko bytes records point resulting own p =
      ltb 2 records && captures own p && (ko point p || recorded bytes records resulting)
