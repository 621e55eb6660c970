-- Loops over the points: after n turns the first n places of an array hold what f says, and the others still hold 0.
use mathlib.Core.Path.{◌≡◌, refl, sym, ◌∙◌}
use mathlib.Core.List.{List}
use mathlib.Core.Logic.{⊎_elim}
use Prim.Native.Nat.{ℕ, ◌+◌, ◌≤◌, ◌<◌}
use native.Mathlib.Omega.{arith}
use lib.Dec.{ltb}
use lib.ListN.{length, get_or, set, replicate, length-set}
use lib.Seq.{get_or-set_same, get_or-set_other, ext_get_or}
use borrow.Author.Tests.{ltb-true, ltb-false}
use borrow.Author.Count.{below_none, below_more}
use Rattle.rules.specs.Sizes.{max_area}
use Rattle.rules.specs.Lists.{tabulate}
use Rattle.rules.proofs.Laws.Lists.{decided, length-tabulate, get_or-tabulate-zero, get_or-replicate-same}

pub record Upto (f : ℕ → ℕ) (xs : List ℕ) (n : ℕ) : Type 0 where
  pub long : length xs ≡ max_area
  pub read : (k : ℕ) → k < n → get_or xs k 0 ≡ f k
  pub rest : (k : ℕ) → n ≤ k → get_or xs k 0 ≡ 0

module _ (f : ℕ → ℕ) where
  pub none_yet : Upto f (replicate max_area 0) 0
  none_yet = record { long = refl; read = below_none _; rest = λ k l. get_or-replicate-same max_area k 0 }

  pub more : (xs : List ℕ) (n v : ℕ) → Upto f xs n → n < max_area → v ≡ f n → Upto f (set xs n v) (n + 1)
  more xs n v done h e =
      record {
        long = length-set xs n v ∙ done.long;
        read =
            below_more (λ k. get_or (set xs n v) k 0 ≡ f k) n (λ k l. get_or-set_other xs n k v 0 (λ s. omega arith) ∙ done.read k l)
            (get_or-set_same xs n v 0 (omega (arith, done.long)) ∙ e);
        rest = λ k l. get_or-set_other xs n k v 0 (λ s. omega arith) ∙ done.rest k (omega arith);
      }

  -- all of them, where f says 0 of the others
  pub whole : (xs : List ℕ) (n : ℕ) → Upto f xs n → ((k : ℕ) → n ≤ k → k < max_area → f k ≡ 0) → xs ≡ tabulate f 0 max_area
  whole xs n done nothing =
      ext_get_or 0 xs (tabulate f 0 max_area) (done.long ∙ sym (length-tabulate f 0 max_area))
      (λ k l.
      let low : k < max_area = omega (arith, done.long) in
      ⊎_elim (λ t. done.read k (ltb-true k n t))
      (λ t. let beyond = ltb-false k n t in done.rest k beyond ∙ sym (nothing k beyond low))
      (decided (ltb k n))
      ∙ sym (get_or-tabulate-zero f max_area k 0 low))
