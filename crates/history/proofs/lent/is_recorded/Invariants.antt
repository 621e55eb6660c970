-- `history::lent::is_recorded`: none of the records looked at is this one.
use mathlib.Core.Path.{◌≡◌}
use mathlib.Core.Bool.{false}
use Prim.Native.Nat.{ℕ, ◌<◌}
use Rattle.rules.specs.Lists.{same}
use Rattle.rules.specs.Records.{stored}
use Rattle.history.proofs.lent.is_recorded.Given as goal

abbrev pub invariant-loop-i : goal.invariant-loop-i
invariant-loop-i l = (k : ℕ) → k < l.i → same (stored l.history k) l.bytes ≡ false
