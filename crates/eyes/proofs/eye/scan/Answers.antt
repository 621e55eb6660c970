-- `eyes::eye::scan`: an empty corner with no enemy beside it and not two or three friends says nothing.
use Rattle.std.proofs.Common.{true, false, ◌||◌, sym, ap, ◌∙◌, ℕ, eqb, eq-eqb}
use Rattle.rules.specs.Lists.{any}
use Rattle.rules.specs.Colours.{empty, at}
use Rattle.rules.specs.Points.{neighbours}
use Rattle.rules.specs.Tests.{two_or_three}
use Rattle.eyes.specs.Laws.Eye.{scanned-tests}
use Rattle.eyes.proofs.eye.scan.Goals as goal

pub returns : goal.returns
unfolding two_or_three
returns c =
    let a = c.args in
    sym
    (scanned-tests a.height a.width a.colours.now a.colour _ _ true false false (c.in_ok-place.was)
    (eq-eqb _ empty (sym c.colour_at.ensures ∙ c.if-colour_at-ne-EMPTY.false))
    (sym (ap (λ (k : ℕ). any (λ r. eqb (at a.colours.now r) k) (neighbours a.height a.width c.in_ok-place.place)) c.other.ensures)
    ∙ sym c.is_beside.ensures ∙ c.if-is_beside.false)
    (sym (c.two_or_three.ensures ∙ ap (λ (n : ℕ). eqb n 2 || eqb n 3) c.friendly_corners.ensures) ∙ c.if-two_or_three.false))
