-- `queries::group::chain_at`: what the slot that was found tells of its chain, or none; on a true board the rules say the same.
use mathlib.Core.Path.{sym, ap, ◌∙◌}
use Prim.Native.Nat.{◌<◌}
use native.Mathlib.Omega.{arith}
use Rattle.rules.specs.Sizes.{slots}
use Rattle.rules.specs.Points.{index}
use Rattle.rules.specs.Answers.{number}
use Rattle.grouping.specs.Group.{no_chain, told}
use Rattle.vetting.specs.Laws.Answered.{answered-refused, answered-told}
use Rattle.queries.specs.Laws.Owner.{chain-read, found-under, found-nobody, found-slot}
use Rattle.grouping.specs.Laws.Group.{chain_of-none, chain_of-told}
use Rattle.grouping.proofs.group.chain_at.Goals.{In-Some}
use Rattle.grouping.proofs.group.chain_at.Goals as goal

-- the slot that was found is one of the table
under : (c : In-Some) → c.in-Some.slot < slots
under c = found-under _ _ c.owner_at.ensures c.in-Some.is

pub returns-in-Err : goal.returns-in-Err
returns-in-Err c = answered-refused no_chain _ c.in-Err.ensures (c.no_chain.ensures ∙ ap no_chain c.number.ensures)

pub returns-in-None : goal.returns-in-None
unfolding number
returns-in-None c =
    let b = c.args.board in
    let (t, on) = c.answer_at.ensures.sound c.in_default.is in
    let vacant =
    found-nobody b t (index b.width c.args.row c.args.column) _ c.two_to_1dim-point.ensures _ c.owner_at.ensures
    c.in-None.is in
    answered-told no_chain _ (t, on) (c.no_chain-in-None.ensures ∙ sym (chain_of-none b c.args.row c.args.column vacant))

pub offset_bounds-board-slot : goal.offset_bounds-board-slot
offset_bounds-board-slot c = let l = under (goal.at.offset_bounds-board-slot c).In-Some in omega arith

pub bounds-board-slot : goal.bounds-board-slot
bounds-board-slot c = under (goal.at.bounds-board-slot c).In-Some

pub returns-in-Some : goal.returns-in-Some
unfolding number
returns-in-Some c =
    let b = c.args.board in
    let s = c.in-Some.slot in
    let (t, on) = c.answer_at.ensures.sound c.in_default.is in
    let owns =
    found-slot b t (index b.width c.args.row c.args.column) _ c.two_to_1dim-point.ensures _ c.owner_at.ensures
    s c.in-Some.is in
    answered-told no_chain _ (t, on)
    (c.tell.ensures ∙ ap told (chain-read b t s _ (under (goal.at.returns-in-Some c).In-Some))
    ∙ chain_of-told b c.args.row c.args.column t s (under (goal.at.returns-in-Some c).In-Some) owns)
