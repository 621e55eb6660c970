-- `put_points`: the first points stand behind what was there.
use Rattle.std.proofs.Common.{◌≡◌, ◌+◌, ◌*◌, ◌≤◌, ◌++◌, length, take}
use Rattle.wording.specs.Replies.{each}
use Rattle.wording.proofs.replies.put_points.Given as goal

abbrev pub invariant-loop-point : goal.invariant-loop-point
invariant-loop-point g l =
    (length l.out.items ≤ length l.initial.out.items + 21 * l.point-index) × (l.out.items ≡ l.initial.out.items ++ each (take l.point-index l.points))
