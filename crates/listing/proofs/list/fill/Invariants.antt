-- `fill`: the points before this one that are in the list stand at the front.
use Prim.Native.Nat.{◌≤◌}
use Rattle.rules.specs.Lists.{pick, below}
use Rattle.viewing.specs.Seen.{passed}
use Rattle.viewing.specs.Front.{Front}
use Rattle.listing.proofs.list.fill.Given as goal

abbrev pub invariant-loop-point : goal.invariant-loop-point
invariant-loop-point l = (l.count ≤ l.point)
    × Front (pick (passed l.height l.width l.view.colours l.view.leads l.question) (below l.point)) l.initial.buffer l.count l.buffer
