-- Laws of lists with no repeats: when a tabulated list is one, and that such a list fills any other that is no longer and has all its
-- elements.
use Rattle.std.proofs.Common.{sym, ap, ◌∙◌, ⊎_elim, zero-le, suc-le-suc, add-zero, add-suc, suc-add, not-suc-le-zero, le_of_suc-le-suc, arith}
use mathlib.Core.List.Memᴰ
use mathlib.Core.List.Memᴰ.{cases_cons}
use mathlib.Core.List.{List, ◌∷◌, Memᴰ}
use Rattle.std.specs.Prelude.{◌≢◌, ℕ, zero, suc, ◌+◌, ◌≤◌, ◌<◌, length}
use Rattle.rules.specs.Lists.{tabulate, has, Distinct}
use Rattle.rules.proofs.Laws.Lists.{decided, tabulate-mem, mem-tabulate, has-mem, has-not}
use Rattle.rules.proofs.Laws.Counting.{distinct-fewer}

-- ---- A tabulated list

module _ {A : Type 0} (f : ℕ → A) where
  -- no two places hold the same
  pub tabulate-distinct : (i n : ℕ) → ((j k : ℕ) → j < k → k < n → f (i + j) ≢ f (i + k)) → Distinct (tabulate f i n)
  tabulate-distinct i zero apart = tt
  tabulate-distinct i (suc n) apart = (
    λ m.
        let (k, l, e) = tabulate-mem f (suc i) n m in
        apart 0 (suc k) (suc-le-suc zero-le) (suc-le-suc l) (ap f (add-zero i) ∙ e ∙ ap f (suc-add i k ∙ sym (add-suc i k))),
    tabulate-distinct (suc i) n
        (λ j k l m e.
        apart (suc j) (suc k) (suc-le-suc l) (suc-le-suc m)
        (ap f (add-suc i j ∙ sym (suc-add i j)) ∙ e ∙ ap f (suc-add i k ∙ sym (add-suc i k)))),
  )

  pub distinct-tabulate : (i n : ℕ) → Distinct (tabulate f i n) → (j k : ℕ) → j < k → k < n → f (i + j) ≢ f (i + k)
  distinct-tabulate i zero d j k l m e = not-suc-le-zero m
  distinct-tabulate i (suc n) d j zero l m e = not-suc-le-zero l
  distinct-tabulate i (suc n) (new, d) zero (suc k) l m e =
      new (Memᴰ.cast (ap f (sym (add-zero i)) ∙ e ∙ ap f (add-suc i k ∙ sym (suc-add i k))) (mem-tabulate f (suc i) n k (le_of_suc-le-suc m)))
  distinct-tabulate i (suc n) (new, d) (suc j) (suc k) l m e =
      distinct-tabulate (suc i) n d j k (le_of_suc-le-suc l) (le_of_suc-le-suc m)
      (ap f (suc-add i j ∙ sym (add-suc i j)) ∙ e ∙ ap f (add-suc i k ∙ sym (suc-add i k)))

-- ---- All of a list

-- what has no repeats and is as long as a list that has all of it has all of that list
pub distinct-fills :
    (xs ys : List ℕ) → Distinct xs → ((x : ℕ) → Memᴰ x xs → Memᴰ x ys) → length ys ≤ length xs →
    (y : ℕ) → Memᴰ y ys → Memᴰ y xs
distinct-fills xs ys d within short y m =
    ⊎_elim (has-mem xs y)
    (λ lacking.
    let more : suc (length xs) ≤ length ys =
    distinct-fewer (y ∷ xs) ys (has-not lacking, d) (λ z i. ⊎_elim (λ e. Memᴰ.cast e m) (within z) (cases_cons i)) in
    absurd (omega arith))
    (decided (has xs y))
