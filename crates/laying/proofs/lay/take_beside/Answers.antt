use Rattle.std.proofs.Common.{◌<◌, ◌≤◌, ◌∙◌, ap, sym, subst, length, arith}
use Rattle.std.proofs.lemmas.List.{drop_all}
use Rattle.rules.specs.Lists.{present}
use Rattle.rules.specs.Points.{sides, neighbours}
use Rattle.steps.proofs.Sides.{next-none, next-some}
use Rattle.laying.specs.Lay.{take_all}
use Rattle.laying.proofs.Beside.{Taking, as_owner, taking-cast, taking-same, taking-unowned, taking-other, taking-removing, taking-few, taking-take}
use Rattle.laying.proofs.lay.take_beside.Goals.{In-loop-side, in-Some+then-owner-lt-SLOTS+then-is_captured, in-Some+then-owner-lt-SLOTS+else-is_captured, in-Some+else-owner-lt-SLOTS, in_default}
use Rattle.laying.proofs.lay.take_beside.Goals as goal

on : (c : In-loop-side) → c.loop-side.side-index < length c.sides-side-items.result
unfolding sides
on c = rw c.sides-side-items.ensures c.loop-side-test.true

pub remove_chain-requires : goal.remove_chain-requires
remove_chain-requires c =
    taking-removing _ _ _ c.requires.player _ _ _ _ _ _ c.loop-side.invariant _ _
    (next-some _ _ _ (on (goal.at.remove_chain-requires c).In-loop-side) _ c.in-Some.is) (as_owner _ _ _ c.owner_at-owner.ensures)
    _ c.if-owner-lt-SLOTS.true _ c.is_captured.ensures c.if-is_captured.true

pub overflow_add-taken : goal.overflow_add-taken
overflow_add-taken c =
    let more =
    taking-few _ _ _ c.requires.player _ _ _ _ _ _ c.loop-side.invariant _ _
    (next-some _ _ _ (on (goal.at.overflow_add-taken c).In-loop-side) _ c.in-Some.is) (as_owner _ _ _ c.owner_at-owner.ensures)
    _ c.if-owner-lt-SLOTS.true _ c.is_captured.ensures c.if-is_captured.true in
    omega (arith, more, c.loop-side.invariant.few, c.loop-side-test.true)

pub loop-side-preserved : goal.loop-side-preserved
loop-side-preserved c =
    let here = on (goal.at.loop-side-preserved c).In-loop-side in
    let player = c.requires.player in
    elim c.match-side.branch [
      | in-Some+then-owner-lt-SLOTS+then-is_captured w ↦
          taking-cast _ _ _ player w.board-is w.taken-is w.prisoner-is
          (taking-take _ _ _ player _ _ _ _ _ _ c.loop-side.invariant _ _ (next-some _ _ _ here _ w.in-Some.is)
          (as_owner _ _ _ w.owner_at-owner.ensures) _ w.if-owner-lt-SLOTS.true _ w.is_captured.ensures w.if-is_captured.true
          _ w.remove_chain.ensures _ w.index-prisoner.ensures)
      | in-Some+then-owner-lt-SLOTS+else-is_captured w ↦
          taking-cast _ _ _ player w.board-is w.taken-is w.prisoner-is
          (taking-other _ _ _ player _ _ _ _ _ _ c.loop-side.invariant _ _ (next-some _ _ _ here _ w.in-Some.is)
          (as_owner _ _ _ w.owner_at-owner.ensures) _ w.if-owner-lt-SLOTS.true _ w.is_captured.ensures w.if-is_captured.false)
      | in-Some+else-owner-lt-SLOTS w ↦
          taking-cast _ _ _ player w.board-is w.taken-is w.prisoner-is
          (taking-unowned _ _ _ player _ _ _ _ _ _ c.loop-side.invariant _ _ (next-some _ _ _ here _ w.in-Some.is)
          (as_owner _ _ _ w.owner_at-owner.ensures) w.if-owner-lt-SLOTS.false)
      | in_default w ↦
          taking-cast _ _ _ player w.board-is w.taken-is w.prisoner-is
          (taking-same _ _ _ player _ _ _ _ _ _ c.loop-side.invariant (next-none _ _ _ here w.in_default.is))
    ]

pub returns : goal.returns
unfolding sides neighbours
returns c =
    let few : length c.sides-side-items.result ≤ c.loop-side.side-index = rw c.sides-side-items.ensures c.loop-side-test.false in
    let done =
    subst (λ os. Taking c.args.board.now c.args.enemy (present c.sides-side-items.result) (present os) c.loop-side.side-index c.loop-side.board c.loop-side.taken c.loop-side.prisoner)
    (drop_all c.loop-side.side-index c.sides-side-items.result few) c.loop-side.invariant in
    ap (λ os. take_all c.args.enemy (present os) (record { board = c.args.board.now; stones = 0; point = 0 })) (sym c.sides-side-items.ensures) ∙ done.same
