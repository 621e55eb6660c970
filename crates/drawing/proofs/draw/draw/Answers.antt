use Rattle.std.proofs.Common.{arith, ◌+◌, ◌≤◌, length}
use Rattle.drawing.specs.Laws.Picture.{drawing-none, drawing-sign, drawing-newline, drawing-done, room-sign, room-newline}
use Rattle.drawing.proofs.draw.draw.Goals.{In-loop-column, After-loop-column}
use Rattle.drawing.proofs.draw.draw.Goals as goal

-- there is room for a sign and for a newline
sign_fits : (c : In-loop-column) → c.loop-column.at + 3 ≤ length c.loop-column.buffer
sign_fits c =
    let room = room-sign _ _ _ _ c.requires c.loop-column.invariant c.loop-row-test.true c.loop-column-test.true in
    omega (arith, room, c.loop-column.invariant.long)

newline-fits : (c : After-loop-column) → c.loop-column.at + 1 ≤ length c.loop-column.buffer
newline-fits c =
    let room = room-newline _ _ _ _ c.requires c.loop-column.invariant c.loop-row-test.true c.loop-column-test.false in
    omega (arith, room, c.loop-column.invariant.long)

pub loop-row-init : goal.loop-row-init
loop-row-init c = drawing-none _ _ _ _ c.requires

pub put_sign-at-requires : goal.put_sign-at-requires
put_sign-at-requires c = (sign_fits (goal.at.put_sign-at-requires c).In-loop-column, c.sign.ensures.upper_bound)

pub loop-column-preserved : goal.loop-column-preserved
loop-column-preserved c =
    rw (c.put_sign-at.ensures.value, c.put_sign-at.ensures.buffer_after)
    (drawing-sign _ _ _ _ c.requires c.loop-column.invariant c.loop-row-test.true _ c.sign.ensures.value c.loop-column-test.true)

pub bounds-buffer-at : goal.bounds-buffer-at
bounds-buffer-at c = let room = newline-fits (goal.at.bounds-buffer-at c).After-loop-column in omega arith

pub overflow_add-at : goal.overflow_add-at
overflow_add-at c = let room = newline-fits (goal.at.overflow_add-at c).After-loop-column in omega arith

pub loop-row-preserved : goal.loop-row-preserved
loop-row-preserved c =
    drawing-newline _ _ _ _ c.requires c.loop-column.invariant c.loop-row-test.true c.loop-column-test.false

pub returns : goal.returns
returns c = drawing-done _ _ _ _ c.requires c.loop-row.invariant c.loop-row-test.false
