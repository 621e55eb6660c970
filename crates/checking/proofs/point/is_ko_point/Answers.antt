-- `is_ko_point`: no point's number is that of no point.
use mathlib.Core.Path.{ap}
use lib.Dec.{eqb}
use borrow.Author.Tests.{eq-eqb, ne_eqb}
use Rattle.checking.specs.Told.{at_ko}
use Rattle.checking.proofs.point.is_ko_point.Goals as goal

pub returns-then-ko-ne-NO_POINT : goal.returns-then-ko-ne-NO_POINT
unfolding at_ko
returns-then-ko-ne-NO_POINT c = rw (ne_eqb _ _ c.if-ko-ne-NO_POINT.true) (ap (eqb _) c.index.ensures)

pub returns-else-ko-ne-NO_POINT : goal.returns-else-ko-ne-NO_POINT
unfolding at_ko
returns-else-ko-ne-NO_POINT c = rw (eq-eqb _ _ c.if-ko-ne-NO_POINT.false)
