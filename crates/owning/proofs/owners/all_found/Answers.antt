use Rattle.std.proofs.Common.{◌∙◌, ◌&&◌, refl, sym, ap, ap₂, arith, leb}
use Rattle.rules.specs.Sizes.{slots}
use Rattle.rules.specs.Lists.{below}
use Rattle.rules.proofs.Laws.Lists.{get_d_default}
use Rattle.owning.specs.Owners.{owner_in}
use Rattle.owning.specs.Laws.Lists.{all-below-next}
use Rattle.owning.proofs.owners.all_found.Goals as goal

pub loop-point-init : goal.loop-point-init
unfolding below
loop-point-init c = refl

pub loop-point-preserved : goal.loop-point-preserved
unfolding owner_in
loop-point-preserved c =
    ap₂ ◌&&◌ c.loop-point.invariant (ap (leb slots) (get_d_default c.args.notes.now c.loop-point.point 0 slots (omega arith)))
    ∙ sym (all-below-next (λ p. leb slots (owner_in c.args.notes.now p)) c.loop-point.point)
