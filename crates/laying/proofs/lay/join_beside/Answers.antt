use Rattle.std.proofs.Common.{◌<◌, ap, length}
use Rattle.rules.specs.Lists.{present}
use Rattle.rules.specs.Points.{sides, neighbours}
use Rattle.steps.proofs.Sides.{next-none, next-some}
use Rattle.laying.proofs.Beside.{as_owner, gathering-cast, gathering-none, gathering-same, gathering-unowned, gathering-other, gathering-joining, gathering-join}
use Rattle.laying.proofs.lay.join_beside.Goals.{In-Some, In-loop-side, in-Some+then-owner-lt-SLOTS+then-joins, in-Some+else-owner-lt-SLOTS, else-owner-lt-SLOTS-via-then-owner-lt-SLOTS+else-joins, else-owner-lt-SLOTS-via-else-owner-lt-SLOTS, in_default}
use Rattle.laying.proofs.lay.join_beside.Goals as goal

pub loop-side-init : goal.loop-side-init
unfolding neighbours
loop-side-init c = gathering-none _ _ _ _ c.requires _ (ap present c.sides-side-items.ensures)

on : (c : In-loop-side) → c.loop-side.side-index < length c.sides-side-items.result
unfolding sides
on c = rw c.sides-side-items.ensures c.loop-side-test.true

pub join-requires : goal.join-requires
join-requires c =
    gathering-joining _ _ _ _ c.requires _ _ _ _ c.loop-side.invariant _ _
    (next-some _ _ _ (on (goal.at.join-requires c).In-loop-side) _ c.in-Some.is) (as_owner _ _ _ c.owner_at-owner.ensures)
    _ c.if-owner-lt-SLOTS.true _ c.joins.ensures c.if-joins.true

pub loop-side-preserved : goal.loop-side-preserved
loop-side-preserved c =
    let here = on (goal.at.loop-side-preserved c).In-loop-side in
    elim c.match-side.branch [
      | in-Some+then-owner-lt-SLOTS+then-joins w ↦
          gathering-cast _ _ _ _ c.requires w.board-is w.mine-is
          (gathering-join _ _ _ _ c.requires _ _ _ _ c.loop-side.invariant _ _ (next-some _ _ _ here _ w.in-Some.is)
          (as_owner _ _ _ w.owner_at-owner.ensures) _ w.if-owner-lt-SLOTS.true _ w.joins.ensures w.if-joins.true _ w.join.ensures)
      | in-Some+else-owner-lt-SLOTS w ↦
          gathering-cast _ _ _ _ c.requires w.board-is w.mine-is (elim w.else-owner-lt-SLOTS.branch [
            | else-owner-lt-SLOTS-via-then-owner-lt-SLOTS+else-joins w' ↦
                gathering-other _ _ _ _ c.requires _ _ _ _ c.loop-side.invariant _ _ (next-some _ _ _ here _ w.in-Some.is)
                (as_owner _ _ _ w.owner_at-owner.ensures) _ w'.if-owner-lt-SLOTS.true _ w'.joins.ensures w'.if-joins.false
            | else-owner-lt-SLOTS-via-else-owner-lt-SLOTS w' ↦
                gathering-unowned _ _ _ _ c.requires _ _ _ _ c.loop-side.invariant _ _ (next-some _ _ _ here _ w.in-Some.is)
                (as_owner _ _ _ w.owner_at-owner.ensures) w'.if-owner-lt-SLOTS.false
          ])
      | in_default w ↦
          gathering-cast _ _ _ _ c.requires w.board-is w.mine-is
          (gathering-same _ _ _ _ c.requires _ _ _ _ c.loop-side.invariant (next-none _ _ _ here w.in_default.is))
    ]
