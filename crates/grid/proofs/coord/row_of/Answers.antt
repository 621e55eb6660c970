-- `row_of` meets its contract: a number divided by 0 is 0. Assumes nothing.
use mathlib.Core.Path.{refl, sym}
use native.Mathlib.Nat.{div-zero}
use Rattle.rules.specs.Points.{row}
use Rattle.grid.proofs.coord.row_of.Goals as goal

pub returns-then-width-eq0 : goal.returns-then-width-eq0
unfolding row
returns-then-width-eq0 c = simp c.if-width-eq0.true (sym (div-zero _))

pub returns : goal.returns
unfolding row
returns c = refl
