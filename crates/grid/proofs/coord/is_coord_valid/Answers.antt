-- `is_coord_valid` meets its contract: the code and the definition make the same tests. Assumes nothing.
use borrow.Author.Tests.{lt-ltb, le-ltb}
use Rattle.grid.proofs.coord.is_coord_valid.Goals as goal

pub returns-then-row-height : goal.returns-then-row-height
returns-then-row-height c = simp (lt-ltb _ _ c.if-row-height.true)

pub returns-else-row-height : goal.returns-else-row-height
returns-else-row-height c = simp (le-ltb _ _ c.if-row-height.false)
