use Rattle.std.proofs.Common.{arith}
use Rattle.flooding.specs.Laws.Edges.{begun-none, begun-next, begun_all}
use Rattle.flooding.proofs.edges.row_starts.Goals as goal

pub loop-point-init : goal.loop-point-init
loop-point-init c = begun-none _

pub loop-point-preserved : goal.loop-point-preserved
loop-point-preserved c =
    begun-next _ c.requires.0 (omega (arith, c.requires.1, c.area-end.ensures)) c.loop-point.invariant

pub returns : goal.returns
returns c =
    begun_all _ _ (omega (arith, c.area-end.ensures)) c.loop-point.invariant

-- where one row more would pass the end
pub returns-2 : goal.returns-2
returns-2 c =
    begun_all _ _ (omega (arith, c.area-end.ensures))
    (begun-next _ c.requires.0 (omega (arith, c.requires.1, c.area-end.ensures)) c.loop-point.invariant)
