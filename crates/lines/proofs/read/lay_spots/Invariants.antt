-- `lay_spots`: so many spots stand at the front of the buffer.
use Rattle.lines.specs.Laws.Spots.{LaidUpto}
use Rattle.lines.proofs.read.lay_spots.Given as goal

abbrev pub invariant-loop-laid : goal.invariant-loop-laid
invariant-loop-laid l = LaidUpto l.text l.initial.spots l.count l.rest l.laid l.spots
