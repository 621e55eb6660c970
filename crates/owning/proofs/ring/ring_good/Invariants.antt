-- `ring_good` meets its contract: after some links the stones passed are on the ring, and each way out has found one test to fail, or the
-- last to decide.
use mathlib.Core.Path.{◌≡◌}
use mathlib.Core.Bool.{true}
use mathlib.Core.List.{List}
use Prim.Native.Nat.{ℕ, ◌<◌, ◌-◌}
use Rattle.chains.specs.declared.group.Chain.{Chain}
use Rattle.chains.specs.Walk.{stepped}
use Rattle.owning.specs.Owners.{owner_in, on_ring}
use Rattle.owning.proofs.ring.ring_good.Given as goal

-- after some links: where the walk is and was, and that it was on the ring
pub record Ringing (own : ℕ → ℕ) (next : List ℕ) (s : ℕ) (c : Chain) (previous point links : ℕ) : Type 0 where
  pub at : point ≡ stepped next c.origin links
  pub before : previous ≡ stepped next c.origin (links - 1)
  pub on : (k : ℕ) → k < links → on_ring own next s c k ≡ true

abbrev pub invariant-loop-links : goal.invariant-loop-links
invariant-loop-links l = Ringing (owner_in l.owners) l.next l.slot l.chain l.previous l.point l.links
