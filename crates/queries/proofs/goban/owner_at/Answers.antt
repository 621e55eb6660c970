-- `queries::goban::owner_at`: what is read names a slot, or it means none; beyond the array there is none.
use Rattle.std.proofs.Common.{arith, sym, ◌∙◌, get_or, le_refl}
use Rattle.rules.specs.Sizes.{slots}
use Rattle.queries.specs.Laws.Owner.{found-none, found-some}
use Rattle.queries.proofs.goban.owner_at.Goals as goal

pub returns-in_err-get : goal.returns-in_err-get
returns-in_err-get c =
    let read = rw c.in_err-get.was at c.get.ensures.lookup.4 (le_refl _) slots in
    c.from_residual.ensures ∙ sym (found-none (get_or c.args.owners.now c.args.point slots) (omega (arith, read)))

pub returns-then-owner-lt-SLOTS : goal.returns-then-owner-lt-SLOTS
returns-then-owner-lt-SLOTS c =
    let read = rw c.in_ok-get.was at c.get.ensures.lookup.4 (le_refl _) slots in
    found-some (get_or c.args.owners.now c.args.point slots) c.from-owner.result (c.from-owner.ensures ∙ read) (omega (arith, read))

pub returns-else-owner-lt-SLOTS : goal.returns-else-owner-lt-SLOTS
returns-else-owner-lt-SLOTS c =
    let read = rw c.in_ok-get.was at c.get.ensures.lookup.4 (le_refl _) slots in
    sym (found-none (get_or c.args.owners.now c.args.point slots) (omega (arith, read)))
