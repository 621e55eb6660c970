-- What passes either of two tests: how many do, and the lesser of two numbers.
use Rattle.std.specs.Prelude.{Bool, true, false, cond, ◌||◌, ◌≡◌, refl, List, [], ◌∷◌, ◌⊎◌, ℕ, ◌+◌, ◌≤◌, ltb}
use Rattle.std.proofs.Common.{sym, ⊎_elim, zero-add, arith, ltb-true, ltb-false}
use Rattle.rules.specs.Lists.{count}
use Rattle.rules.proofs.Laws.Lists.{decided}

pub not-both-sum : (a b : Bool) → (a ≡ true → b ≡ false) → cond (a || b) 1 0 ≡ cond a 1 0 + cond b 1 0
not-both-sum true b other = rw (other refl)
not-both-sum false b other = sym (zero-add (cond b 1 0))

module _ {A : Type 0} (f g h : A → Bool) where
  pub count-sum : (xs : List A) → ((x : A) → cond (h x) 1 0 ≡ cond (f x) 1 0 + cond (g x) 1 0) → count h xs ≡ count f xs + count g xs
  count-sum [] each = refl
  count-sum (x ∷ xs) each = let ih = count-sum xs each in omega (arith, each x)

pub least-of : (m n p : ℕ) → (m ≤ p) ⊎ (n ≤ p) → cond (ltb m n) m n ≤ p
least-of m n p either =
    ⊎_elim
    (λ e. let less = ltb-true m n e in rw e (⊎_elim (λ (l : m ≤ p). l) (λ (l : n ≤ p). omega arith) either))
    (λ e. let more = ltb-false m n e in rw e (⊎_elim (λ (l : m ≤ p). omega arith) (λ (l : n ≤ p). l) either))
    (decided (ltb m n))
