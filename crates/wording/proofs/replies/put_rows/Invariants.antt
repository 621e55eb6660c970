-- `put_rows`: the first points stand behind what was there.
use Rattle.std.proofs.Common.{◌≡◌, ◌+◌, ◌*◌, ◌≤◌, ◌++◌, length}
use Rattle.wording.specs.Replies.{rows_upto}
use Rattle.wording.proofs.replies.put_rows.Given as goal

abbrev pub invariant-loop-point : goal.invariant-loop-point
invariant-loop-point g l =
    (length l.out.items ≤ length l.initial.out.items + 2 * l.point) × (l.out.items ≡ l.initial.out.items ++ rows_upto l.width l.colours l.point)
