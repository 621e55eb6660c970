use Rattle.std.proofs.Common.{◌≡◌, ◌∙◌, ◌&&◌, ◌||◌, ◌-◌, Bool, ℕ, true, sym, ap, ap₂, arith}
use borrow.Author.Tests.{lt-ltb, le-ltb}
use Rattle.rules.specs.Lists.{all, below}
use Rattle.rules.proofs.Laws.Lists.{or_left}
use Rattle.owning.specs.Owners.{owner_in, apart, column_apart}
use Rattle.owning.specs.Laws.Lists.{all-below, all-below-next}
use Rattle.owning.proofs.owners.columns_apart.Goals as goal

-- the first row
first : (own note : ℕ → ℕ) (w : ℕ) → all (column_apart own note w) (below w) ≡ true
unfolding column_apart
first own note w = all-below (column_apart own note w) w (λ p l. or_left (apart own note p (p - w)) (lt-ltb p w l))

pub loop-point-init : goal.loop-point-init
loop-point-init c = sym (first _ _ _)

pub loop-point-preserved : goal.loop-point-preserved
unfolding column_apart
loop-point-preserved c =
    let a = c.args in
    let p = c.loop-point.point in
    ap₂ ◌&&◌ c.loop-point.invariant
    (c.apart-good.ensures
    ∙ sym (ap (λ (t : Bool). t || apart (owner_in a.owners.now) (owner_in a.notes.now) p (p - a.width)) (le-ltb p a.width (omega arith))))
    ∙ sym (all-below-next (column_apart (owner_in a.owners.now) (owner_in a.notes.now) a.width) p)
