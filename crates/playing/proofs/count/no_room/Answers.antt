-- Where the count is below the capacity there is room, whatever is recorded.
use mathlib.Core.Path.{sym, subst}
use mathlib.Core.Bool.{not}
use Prim.Native.Nat.{ℕ, ◌<◌}
use borrow.Author.Tests.{lt-leb}
use Rattle.history.specs.History.{among}
use Rattle.playing.specs.Laws.Count.{and_no}
use Rattle.playing.proofs.count.no_room.Goals as goal

pub returns-then-count-capacity_of : goal.returns-then-count-capacity_of
returns-then-count-capacity_of c =
    sym (and_no (not (among c.args.history.now c.args.count c.args.bytes.now)) (lt-leb _ _ (subst (λ (n : ℕ). c.args.count < n) c.capacity_of.ensures c.if-count-capacity_of.true)))

pub returns : goal.returns
returns c = c.is_full.ensures
