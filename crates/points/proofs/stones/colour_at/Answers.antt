-- `points::stones::colour_at`: beyond the array nothing stands.
use mathlib.Core.Path.{refl, sym}
use native.Mathlib.Omega.{arith}
use Rattle.rules.specs.Colours.{at}
use Rattle.rules.proofs.Laws.Colours.{at-beyond}
use Rattle.points.proofs.stones.colour_at.Goals as goal

pub returns-then-point-ge-MAX_AREA : goal.returns-then-point-ge-MAX_AREA
returns-then-point-ge-MAX_AREA c = sym (at-beyond c.args.shown.now c.args.point (omega arith))

pub returns : goal.returns
unfolding at
returns c = refl
