-- `right` meets its contract: to the right lies a point where the next one begins no row.
use mathlib.Core.Path.{sym, ◌∙◌}
use Prim.Native.Nat.{◌+◌}
use native.Mathlib.Omega.{arith}
use borrow.Author.Tests.{eqb-true, eqb-false}
use Rattle.rules.specs.Flood.{marked}
use Rattle.flooding.specs.Laws.Edges.{right-some, right-none}
use Rattle.flooding.proofs.edges.right.Goals as goal

pub returns-then-starts-point : goal.returns-then-starts-point
unfolding marked
returns-then-starts-point c =
    let a = c.args in
    sym (right-none a.height a.width a.point c.requires.1 (eqb-true _ 0 (sym (c.requires.0.begins (a.point + 1) (omega (arith, c.requires.1))) ∙ c.if-starts-point.true)))

pub returns-else-starts-point : goal.returns-else-starts-point
unfolding marked
returns-else-starts-point c =
    let a = c.args in
    sym (right-some a.height a.width a.point c.requires.1 (eqb-false _ 0 (sym (c.requires.0.begins (a.point + 1) (omega (arith, c.requires.1))) ∙ c.if-starts-point.false)))
