use Rattle.std.proofs.Common.{◌≡◌, ◌∙◌, ◌&&◌, Bool, ℕ, List, refl, sym, ap, ap₂, arith, leb, eqb, cond, length, get_or, ◌<◌, ◌≤◌}
use borrow.Author.Tests.{lt-ltb, le-ltb}
use Rattle.rules.specs.Sizes.{slots}
use Rattle.rules.specs.Lists.{below}
use Rattle.rules.specs.Points.{area}
use Rattle.rules.proofs.Laws.Lists.{get_d_default}
use Rattle.owning.specs.Owners.{owner_in, placed}
use Rattle.owning.specs.Laws.Lists.{all-below-next}
use Rattle.owning.proofs.owners.all_placed.Goals as goal

module _ (h w : ℕ) (owners : List ℕ) (p : ℕ) (within : p < length owners) where
  on : p < area h w → leb (get_or owners p 0) slots ≡ placed h w (owner_in owners) p
  unfolding placed owner_in
  on l = ap (λ (o : ℕ). leb o slots) (get_d_default owners p 0 slots within) ∙ sym (ap (λ (t : Bool). cond t (leb (get_or owners p slots) slots) (eqb (get_or owners p slots) slots)) (lt-ltb p (area h w) l))

  beyond : area h w ≤ p → eqb (get_or owners p 0) slots ≡ placed h w (owner_in owners) p
  unfolding placed owner_in
  beyond l = ap (λ (o : ℕ). eqb o slots) (get_d_default owners p 0 slots within) ∙ sym (ap (λ (t : Bool). cond t (leb (get_or owners p slots) slots) (eqb (get_or owners p slots) slots)) (le-ltb p (area h w) l))

pub loop-point-init : goal.loop-point-init
unfolding below
loop-point-init c = refl

pub loop-point-preserved : goal.loop-point-preserved
loop-point-preserved c =
    let a = c.args in
    ap₂ ◌&&◌ c.loop-point.invariant (on a.height a.width a.owners.now c.loop-point.point (omega arith) (omega arith))
    ∙ sym (all-below-next (placed a.height a.width (owner_in a.owners.now)) c.loop-point.point)

pub loop-point-2-preserved : goal.loop-point-2-preserved
loop-point-2-preserved c =
    let a = c.args in
    ap₂ ◌&&◌ c.loop-point-2.invariant (beyond a.height a.width a.owners.now c.loop-point-2.point (omega arith) (omega arith))
    ∙ sym (all-below-next (placed a.height a.width (owner_in a.owners.now)) c.loop-point-2.point)
