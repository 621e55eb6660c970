-- `below` meets its contract: a row below there is where one row further is still on the board.
use mathlib.Core.Path.{sym}
use native.Mathlib.Omega.{arith}
use Rattle.flooding.specs.Laws.Edges.{below-some, below_none}
use Rattle.flooding.proofs.edges.below.Goals as goal

pub returns-then-next-area : goal.returns-then-next-area
returns-then-next-area c = let a = c.args in sym (below-some a.height a.width a.point c.requires.0 (omega (arith, c.area.ensures, c.if-next-area.true)))

pub returns-else-next-area : goal.returns-else-next-area
returns-else-next-area c = let a = c.args in sym (below_none a.height a.width a.point c.requires.0 (omega (arith, c.area.ensures, c.if-next-area.false)))
