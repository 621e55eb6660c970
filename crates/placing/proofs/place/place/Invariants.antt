-- `placing::place::place`: the points before this one stand as given, the others are empty; a stone that chokes a chain now chokes it in the whole.
use Rattle.placing.specs.Laws.SoFar.{SoFar}
use Rattle.placing.proofs.place.place.Given as goal

abbrev pub invariant-loop-point : goal.invariant-loop-point
invariant-loop-point l = SoFar l.board.height l.board.width l.colours l.point l.result
