-- `next_spot`: two numbers more.
use Rattle.std.proofs.Common.{refl, None}
use Rattle.lines.specs.Laws.Spots.{spotted-end, row-alone, row-bad, column-bad, spotted-both}
use Rattle.lines.proofs.read.next_spot.Goals as goal

pub returns-in_err-row : goal.returns-in_err-row
returns-in_err-row c = rw c.from_residual.ensures (spotted-end _ c.in_err-row.ensures.parted None)

pub returns-in_err-column : goal.returns-in_err-column
returns-in_err-column c = rw c.from_residual-in_err-column.ensures (row-alone _ _ c.in_ok-row.ensures.parted c.in_err-column.ensures.parted None)

pub returns-in_err-number_of : goal.returns-in_err-number_of
returns-in_err-number_of c = rw c.from_residual-in_err-number_of.ensures (row-bad _ _ c.in_ok-row.ensures.parted c.in_err-number_of.ensures None)

pub returns-in_err-number_of-2 : goal.returns-in_err-number_of-2
returns-in_err-number_of-2 c =
    rw c.from_residual-in_err-number_of-2.ensures
    (column-bad _ _ c.in_ok-row.ensures.parted _ c.in_ok-column.ensures.parted c.in_err-number_of-2.ensures None)

pub returns : goal.returns
returns c =
    spotted-both _ _ c.in_ok-row.ensures.parted _ c.in_ok-column.ensures.parted _ c.in_ok-number_of.ensures c.in_ok-number_of-2.ensures c.spot_of-spot.ensures refl
