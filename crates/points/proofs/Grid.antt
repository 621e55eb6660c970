-- Steps from a row and a column of the board stay on it, and where a point off the board leads. Assumes nothing.
use mathlib.Core.Path.{◌≡◌, refl}
use mathlib.Core.Bool.{Bool, true, false, cond}
use mathlib.Core.List.{[]}
use Rattle.std.specs.Prelude.{Option, None, Some, SomeIff}
use Prim.Native.Nat.{ℕ, ◌+◌, ◌-◌, ◌<◌, ◌≤◌}
use native.Mathlib.Omega.{arith}
use lib.Dec.{ltb}
use borrow.Author.Tests.{ltb-true, lt-ltb, le-ltb}
use Rattle.rules.specs.Points.{area, row, column, Shift, back, stay, forth, shifted, joined, towards, sides, neighbours}
use Rattle.rules.proofs.Laws.Points.{row_on, column-on}
use Rattle.points.specs.Place.{Within}

-- ---- Steps

within-cond : (b : Bool) (n : ℕ) (place : Option ℕ) → (b ≡ true → Within n place) → Within n (cond b place None)
within-cond true n place h = h refl
within-cond false n place h = tt

pub shifted-below : (s : Shift) (n x : ℕ) → x < n → Within n (shifted s n x)
unfolding shifted
shifted-below back n x h = within-cond (ltb 0 x) n (Some (x - 1)) (λ e. omega arith)
shifted-below stay n x h = h
shifted-below forth n x h = within-cond (ltb (x + 1) n) n (Some (x + 1)) (ltb-true (x + 1) n)

-- a step back, as a subtraction that can fail
pub back_is : (r : Option ℕ) (x : ℕ) → SomeIff r (1 ≤ x) (x - 1) → r ≡ cond (ltb 0 x) (Some (x - 1)) None
back_is None x h = rw (le-ltb 0 x (omega (arith, h))) refl
back_is (Some y) x h = rw (lt-ltb 0 x (omega (arith, h.0)), h.1) refl

-- ---- A point's row and column, as the code has them

module _ (h w p r c : ℕ) (on : p < area h w) (at_row : r ≡ row w p) (at-column : c ≡ column w p) where
  pub spot-below : (r < h) × (c < w)
  spot-below = (rw at_row (row_on h w p on), rw at-column (column-on h w p on))

  pub spot-towards : (dr dc : Shift) → joined w (shifted dr h r) (shifted dc w c) ≡ towards h w p dr dc
  unfolding towards
  spot-towards dr dc = rw (at_row, at-column, lt-ltb p (area h w) on)

-- ---- A point off the board

pub towards-off : (h w p : ℕ) (dr dc : Shift) → area h w ≤ p → towards h w p dr dc ≡ None
unfolding towards
towards-off h w p dr dc off = rw (le-ltb p (area h w) off)

pub neighbours-off : (h w p : ℕ) → area h w ≤ p → neighbours h w p ≡ []
unfolding neighbours sides towards
neighbours-off h w p off = simp (le-ltb p (area h w) off)
