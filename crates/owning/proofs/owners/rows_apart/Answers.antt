use Rattle.std.proofs.Common.{◌≡◌, ◌∙◌, ◌&&◌, ◌||◌, ◌-◌, Bool, ℕ, true, sym, ap, ap₂, arith}
use native.Mathlib.Nat.{zero-mod}
use borrow.Author.Tests.{eq-eqb}
use Rattle.rules.specs.Lists.{all, below}
use Rattle.rules.specs.Points.{column}
use Rattle.rules.specs.Flood.{marked}
use Rattle.rules.proofs.Laws.Lists.{or_left}
use Rattle.owning.specs.Owners.{owner_in, apart, row_apart}
use Rattle.owning.specs.Laws.Lists.{all-below-next}
use Rattle.owning.proofs.owners.rows_apart.Goals as goal

-- the first point begins a row
first : (own note : ℕ → ℕ) (w : ℕ) → true ≡ all (row_apart own note w) (below 1)
unfolding below row_apart column
first own note w = sym (ap (λ (t : Bool). t && true) (or_left (apart own note 0 (0 - 1)) (eq-eqb (column w 0) 0 (zero-mod w))))

pub loop-point-init : goal.loop-point-init
loop-point-init c = first _ _ _

pub loop-point-preserved : goal.loop-point-preserved
unfolding marked row_apart
loop-point-preserved c =
    let a = c.args in
    let p = c.loop-point.point in
    ap₂ ◌&&◌ c.loop-point.invariant (ap₂ ◌||◌ (c.requires.0.begins p (omega arith)) c.apart.ensures)
    ∙ sym (all-below-next (row_apart (owner_in a.owners.now) (owner_in a.notes.now) a.width) p)
