-- `spot_of`: off the board, or the colour says whether a stone stands there.
use mathlib.Core.Path.{sym, ap, ◌∙◌}
use mathlib.Core.Bool.{not}
use Rattle.checking.specs.Laws.Spot.{spot-off, spot-empty, spot-stone}
use Rattle.checking.proofs.spot.spot_of.Goals as goal

pub returns-then-not-is_coord_valid : goal.returns-then-not-is_coord_valid
returns-then-not-is_coord_valid c = spot-off _ _ _ _ _ _ c.is_coord_valid.ensures (ap not c.if-not-is_coord_valid.true)

pub returns-then-colour_at-ne-EMPTY : goal.returns-then-colour_at-ne-EMPTY
returns-then-colour_at-ne-EMPTY c =
    spot-stone _ _ _ _ _ _ c.is_coord_valid.ensures (ap not c.if-not-is_coord_valid.false) _ c.two_to_1dim-point.ensures
    (λ e. c.if-colour_at-ne-EMPTY.true (c.colour_at.ensures ∙ e))

pub returns : goal.returns
returns c =
    spot-empty _ _ _ _ _ _ c.is_coord_valid.ensures (ap not c.if-not-is_coord_valid.false) _ c.two_to_1dim-point.ensures
    (sym c.colour_at.ensures ∙ c.if-colour_at-ne-EMPTY.false)
