-- `column_of` meets its contract: what a number leaves over when divided by 0 is the number. Assumes nothing.
use mathlib.Core.Path.{refl, sym}
use native.Mathlib.Nat.{mod-zero}
use Rattle.rules.specs.Points.{column}
use Rattle.grid.proofs.coord.column_of.Goals as goal

pub returns-then-width-eq0 : goal.returns-then-width-eq0
unfolding column
returns-then-width-eq0 c = simp c.if-width-eq0.true (sym (mod-zero _))

pub returns : goal.returns
unfolding column
returns c = refl
