-- `left` meets its contract: to the left lies a point where none begins a row.
use mathlib.Core.Path.{sym, ◌∙◌}
use mathlib.Core.Logic.{◌≢◌}
use native.Mathlib.Omega.{arith}
use borrow.Author.Tests.{eqb-true, eqb-false}
use Rattle.rules.specs.Points.{column}
use Rattle.rules.specs.Flood.{marked}
use Rattle.flooding.specs.Laws.Edges.{left-some, left-none, left-positive}
use Rattle.flooding.proofs.edges.left.Goals.{Else-starts-point}
use Rattle.flooding.proofs.edges.left.Goals as goal

pub returns-then-starts-point : goal.returns-then-starts-point
unfolding marked
returns-then-starts-point c =
    let a = c.args in
    sym (left-none a.height a.width a.point c.requires.1 (eqb-true _ 0 (sym (c.requires.0.begins a.point (omega (arith, c.requires.1))) ∙ c.if-starts-point.true)))

-- the point begins no row
inner : (c : Else-starts-point) → let a = c.args in column a.width a.point ≢ 0
unfolding marked
inner c =
    let a = c.args in
    eqb-false _ 0 (sym (c.requires.0.begins a.point (omega (arith, c.requires.1))) ∙ c.if-starts-point.false)

pub overflow_sub-result : goal.overflow_sub-result
overflow_sub-result c = let a = c.args in left-positive a.height a.width a.point c.requires.1 (inner (goal.at.overflow_sub-result c).Else-starts-point)

pub returns-else-starts-point : goal.returns-else-starts-point
returns-else-starts-point c = let a = c.args in sym (left-some a.height a.width a.point c.requires.1 (inner (goal.at.returns-else-starts-point c).Else-starts-point))
