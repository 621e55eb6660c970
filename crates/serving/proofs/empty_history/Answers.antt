-- `empty_history`: a repeat has as many elements as it says.
use mathlib.Core.Path.{sym}
use Prim.Native.Nat.{ℕ}
use lib.ListN.{length-replicate}
use Rattle.spelling.specs.Number.{max_lent}
use Rattle.serving.proofs.empty_history.Goals as goal

pub returns : goal.returns
returns c = sym (length-replicate {A = ℕ} max_lent 0)
