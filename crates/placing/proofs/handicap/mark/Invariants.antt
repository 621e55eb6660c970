-- `placing::handicap::mark`: the spots that are left, on the colours so far, tell the answer and the colours of all.
use Rattle.placing.specs.Laws.Spots.{Marking}
use Rattle.placing.proofs.handicap.mark.Given as goal

abbrev pub invariant-loop-spot : goal.invariant-loop-spot
invariant-loop-spot l = Marking l.height l.width l.spots l.colours l.spot-index
