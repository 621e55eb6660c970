-- The number that means no point, or the point.
use mathlib.Core.Path.{sym, ap, ◌∙◌}
use Rattle.std.specs.Prelude.{Some}
use Rattle.game.specs.Laws.View.{ko-none, ko-some}
use Rattle.game.proofs.state.ko_point.Goals as goal

pub returns-then-ko-eq-NO_POINT : goal.returns-then-ko-eq-NO_POINT
returns-then-ko-eq-NO_POINT c = sym (ko-none _ c.if-ko-eq-NO_POINT.true)

pub returns : goal.returns
returns c = ap Some c.index.ensures ∙ sym (ko-some _ c.if-ko-eq-NO_POINT.false)
