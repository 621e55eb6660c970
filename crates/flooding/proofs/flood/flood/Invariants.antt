-- `flood` meets its contract: whatever the notes were before the origin was pushed, the flood goes on from there. The measure is what is
-- left of the points, since none is twice in the queue.
use mathlib.Core.List.{List}
use Prim.Native.Nat.{ℕ, ◌-◌}
use Rattle.rules.specs.Sizes.{max_area}
use Rattle.flooding.specs.Laws.Flooding.{Flooding}
use Rattle.flooding.proofs.flood.flood.Given as goal

abbrev pub invariant-loop-head : goal.invariant-loop-head
invariant-loop-head l = (before : List ℕ) → Flooding l.ground.height l.ground.width l.ground.slot l.ground.colour l.origin before l.initial.notes l.initial.queue l.initial.seen l.initial.tail l.initial.hash 0
    → Flooding l.ground.height l.ground.width l.ground.slot l.ground.colour l.origin before l.notes l.queue l.seen l.tail l.hash l.head

abbrev pub decreases-loop-head : goal.decreases-loop-head
decreases-loop-head l = max_area - l.head
