-- `stepped` meets its contract: both shifts stay on the board, so all numbers are bytes. Assumes nothing.
use mathlib.Core.Path.{◌≡◌, refl, sym, subst, ◌∙◌}
use Prim.Native.Nat.{ℕ, ◌^◌, ◌<◌}
use native.Mathlib.Omega.{arith}
use borrow.Author.Rules.{rules}
use Rattle.std.specs.Prelude.{Option, Some}
use Rattle.rules.specs.Points.{index, shifted}
use Rattle.points.specs.declared.coord.Shift.{Shift}
use Rattle.points.specs.Place.{shift_of, Within}
use Rattle.grid.proofs.Bytes.{bytes_product, bytes-index, fits_word}
use Rattle.points.proofs.Grid.{shifted-below}
use Rattle.points.proofs.coord.stepped.Goals.{In_ok-c}
use Rattle.points.proofs.coord.stepped.Goals as goal

-- what a shift led to is on the board
inside : (s : Shift) (n x y : ℕ) (p : Option ℕ) → p ≡ Some y → p ≡ shifted (shift_of s) n x → x < n → y < n
inside s n x y p e step h = subst (Within n) (sym step ∙ e) (shifted-below (shift_of s) n x h)

below : (c : In_ok-c)
    → (c.in_ok-r.r < 2 ^ 8) × (c.in_ok-c.c < 2 ^ 8)
below c =
    let a = c.args in
    let on_Row = inside a.down a.height a.row c.in_ok-r.r c.shifted.result c.in_ok-r.was c.shifted.ensures c.requires.0 in
    let on-column = inside a.right a.width a.column c.in_ok-c.c c.shifted-2.result c.in_ok-c.was c.shifted-2.ensures c.requires.1 in
    (omega arith, omega arith)

pub overflow_mul-result : goal.overflow_mul-result
overflow_mul-result c = fits_word (bytes_product (below (goal.at.overflow_mul-result c).In_ok-c).0 (search rules))

pub overflow_add-result : goal.overflow_add-result
overflow_add-result c = fits_word (bytes-index (below (goal.at.overflow_add-result c).In_ok-c).0 (search rules) (below (goal.at.overflow_add-result c).In_ok-c).1)

pub returns : goal.returns
unfolding index
returns c = rw (← c.shifted.ensures, c.in_ok-r.was, ← c.shifted-2.ensures, c.in_ok-c.was) refl
