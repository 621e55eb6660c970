-- `row_starts` meets its contract: the points before the one that is reached are told, and it begins a row.
use Rattle.flooding.specs.Laws.Edges.{Begun}
use Rattle.flooding.proofs.edges.row_starts.Given as goal

abbrev pub invariant-loop-point : goal.invariant-loop-point
invariant-loop-point l = Begun l.width l.starts l.point
