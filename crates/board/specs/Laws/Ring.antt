-- Laws of a ring of links: a walk that is back at its first point after n steps, and not before, meets n points and none twice; and
-- the other way round. A ring of as many points as its slot owns is all that the slot owns.
use Rattle.std.specs.Prelude.{◌≡◌, ◌≢◌, ℕ, ◌+◌, ◌-◌, ◌<◌, eqb}
use Rattle.std.proofs.Common.{sym, ◌∙◌, zero-add, eq-eqb}
use Rattle.std.proofs.Math.Path.{ap}
use mathlib.Core.List.{List, Memᴰ}
use native.Mathlib.Omega.{arith}
use Rattle.rules.specs.Lists.{count, pick, below, Distinct}
use Rattle.rules.specs.Points.{area}
use Rattle.rules.proofs.Laws.Lists.{mem-pick, mem_below}
use Rattle.rules.proofs.Laws.Counting.{length-pick}
use Rattle.chains.specs.Walk.{stepped, walked}
use Rattle.chains.specs.Laws.Walk.{stepped-add, length-walked}
use Rattle.rules.proofs.Laws.Lists.{tabulate-mem}
use Rattle.rules.proofs.Laws.Distinct.{tabulate-distinct, distinct-tabulate, distinct-fills}

module _ (next : List ℕ) (o n : ℕ) where
  -- the points of the walk are those that its steps meet
  pub walked_step : {x : ℕ} → Memᴰ x (walked next o n) → (k : ℕ) × (k < n) × (x ≡ stepped next o k)
  unfolding walked
  walked_step m = let (k, l, e) = tabulate-mem (stepped next o) 0 n m in (k, l, e ∙ ap (stepped next o) (zero-add k))

  -- were two of its points one, both walks on to the end would be one, and back too early
  pub ring-distinct : stepped next o n ≡ o → ((k : ℕ) → 0 < k → k < n → stepped next o k ≢ o) → Distinct (walked next o n)
  unfolding walked
  ring-distinct back first =
      tabulate-distinct (stepped next o) 0 n
      (λ j k l m e. apart j k l m (ap (stepped next o) (sym (zero-add j)) ∙ e ∙ ap (stepped next o) (zero-add k)))
    where
      apart : (j k : ℕ) → j < k → k < n → stepped next o j ≢ stepped next o k
      apart j k l m e =
          let whole : k + (n - k) ≡ n = omega arith in
          first (j + (n - k)) (omega arith) (omega arith)
          (sym (stepped-add next o j (n - k)) ∙ ap (λ (p : ℕ). stepped next p (n - k)) e ∙ stepped-add next o k (n - k)
          ∙ ap (stepped next o) whole ∙ back)

  pub distinct-first : Distinct (walked next o n) → (k : ℕ) → 0 < k → k < n → stepped next o k ≢ o
  unfolding walked
  distinct-first d k l m e =
      distinct-tabulate (stepped next o) 0 n d 0 k l m (sym e ∙ ap (stepped next o) (sym (zero-add k)))

-- ---- All that a slot owns

-- a ring of n points of the slot s, which owns n points
module _ (h w : ℕ) (own : ℕ → ℕ) (next : List ℕ) (s o n : ℕ)
    (on : (p : ℕ) → own p ≡ s → p < area h w)
    (linked : (k : ℕ) → k < n → own (stepped next o k) ≡ s)
    (once : Distinct (walked next o n))
    (counted : n ≡ count (λ p. eqb (own p) s) (below (area h w))) where
  pub ring-owned : {p : ℕ} → Memᴰ p (walked next o n) → own p ≡ s
  ring-owned m = let (k, l, e) = walked_step next o n m in ap own e ∙ linked k l

  pub ring_fills : (p : ℕ) → own p ≡ s → Memᴰ p (walked next o n)
  ring_fills p e =
      distinct-fills (walked next o n) (pick (λ q. eqb (own q) s) (below (area h w))) once
      (λ q m. theirs q (ring-owned m))
      (omega (arith, length-pick (λ q. eqb (own q) s) (below (area h w)), length-walked next o n))
      p (theirs p e)
    where
      theirs : (q : ℕ) → own q ≡ s → Memᴰ q (pick (λ r. eqb (own r) s) (below (area h w)))
      theirs q e = mem-pick (λ r. eqb (own r) s) (mem_below (area h w) q (on q e)) (eq-eqb (own q) s e)
