-- `points::sizes::is_side`: the code and the definition make the same tests.
use borrow.Author.Tests.{lt-ltb, le-ltb}
use Rattle.rules.specs.Calls.{side_ok}
use Rattle.points.proofs.sizes.is_side.Goals as goal

pub returns-then-side-gt0 : goal.returns-then-side-gt0
unfolding side_ok
returns-then-side-gt0 c = simp (lt-ltb _ _ c.if-side-gt0.true)

pub returns-else-side-gt0 : goal.returns-else-side-gt0
unfolding side_ok
returns-else-side-gt0 c = simp (le-ltb _ _ c.if-side-gt0.false)
