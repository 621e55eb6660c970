-- `towards` meets its contract: a point on the board has its row and its column there. Assumes nothing.
use mathlib.Core.Path.{sym}
use native.Mathlib.Omega.{arith}
use Rattle.points.specs.Place.{shift_of}
use Rattle.points.proofs.Grid.{spot-below, spot-towards, towards-off}
use Rattle.points.proofs.coord.towards.Goals as goal

pub returns-then-area-point : goal.returns-then-area-point
returns-then-area-point c =
    let a = c.args in
    sym (towards-off a.height a.width a.point (shift_of a.down) (shift_of a.right) (omega arith))

pub stepped-requires : goal.stepped-requires
stepped-requires c =
    let a = c.args in
    spot-below a.height a.width a.point _ _ (omega arith) c.row_of.ensures c.column_of.ensures

pub returns : goal.returns
returns c =
    let a = c.args in
    rw c.stepped.ensures
    (spot-towards a.height a.width a.point _ _ (omega arith) c.row_of.ensures c.column_of.ensures _ _)
