-- `queries::group::contains_liberty`: the liberty set of the slot that was found, asked for the second point; on a true board the rules say the same.
use mathlib.Core.Bool.{false, ◌||◌}
use mathlib.Core.Path.{sym, ap₂, ◌∙◌}
use Prim.Native.Nat.{ℕ, ◌<◌}
use native.Mathlib.Omega.{arith}
use Rattle.rules.specs.Sizes.{slots}
use Rattle.rules.specs.Points.{index}
use Rattle.rules.specs.Answers.{number}
use Rattle.rules.proofs.Laws.Lists.{or-none-right}
use Rattle.chains.specs.declared.group.Chain.{Chain}
use Rattle.sets.specs.Liberties.{has}
use Rattle.vetting.specs.Answered.{off_board}
use Rattle.queries.specs.Goban.{no_test}
use Rattle.grouping.specs.Group.{liberty_at}
use Rattle.vetting.specs.Laws.Answered.{answered-refused, answered-told, off_board-on}
use Rattle.queries.specs.Laws.Owner.{chain-read, found-under, found-nobody, found-slot}
use Rattle.grouping.specs.Laws.Group.{liberty_at-none, liberty-told}
use Rattle.grouping.proofs.group.contains_liberty.Goals.{In-Some}
use Rattle.grouping.proofs.group.contains_liberty.Goals as goal

-- the slot that was found is one of the table
under : (c : In-Some) → c.in-Some.slot < slots
under c = found-under _ _ c.owner_at.ensures c.in-Some.is

pub returns-in-Err : goal.returns-in-Err
unfolding no_test
returns-in-Err c = answered-refused no_test _ c.in-Err.ensures (λ i. record { answer = c.number.ensures i; holds = false })

pub returns-in_default-owner_at : goal.returns-in_default-owner_at
unfolding number no_test
returns-in_default-owner_at c =
    let args = c.args in
    let b = args.board in
    let off = off_board b args.row args.column || off_board b args.other_row args.other_column in
    let (t, on) = c.answer_at_both.ensures.sound c.in_default.is in
    let vacant =
    found-nobody b t (index b.width args.row args.column) _ c.two_to_1dim-point.ensures _ c.owner_at.ensures
    c.in_default-owner_at.is in
    answered-told {off = off} no_test _ (t, on) (sym (liberty_at-none b args.row args.column args.other_row args.other_column vacant))

pub offset_bounds-board-slot : goal.offset_bounds-board-slot
offset_bounds-board-slot c = let l = under (goal.at.offset_bounds-board-slot c).In-Some in omega arith

pub bounds-board-slot : goal.bounds-board-slot
bounds-board-slot c = under (goal.at.bounds-board-slot c).In-Some

pub returns : goal.returns
unfolding number liberty_at
returns c =
    let args = c.args in
    let b = args.board in
    let off = off_board b args.row args.column || off_board b args.other_row args.other_column in
    let s = c.in-Some.slot in
    let q = index b.width args.other_row args.other_column in
    let (t, on) = c.answer_at_both.ensures.sound c.in_default.is in
    let owns =
    found-slot b t (index b.width args.row args.column) _ c.two_to_1dim-point.ensures _ c.owner_at.ensures
    s c.in-Some.is in
    let on-board = off_board-on b args.other_row args.other_column (or-none-right (off_board b args.row args.column) _ on) in
    let test =
    c.contains_liberty.ensures
    ∙ ap₂ (λ (chain : Chain) (p : ℕ). has chain.liberties p) (chain-read b t s _ (under (goal.at.returns c).In-Some)) c.two_to_1dim-other.ensures
    ∙ liberty-told b args.row args.column t s (under (goal.at.returns c).In-Some) owns q on-board in
    answered-told {off = off} no_test _ (t, on) (λ i. record { answer = 0; holds = test i })
