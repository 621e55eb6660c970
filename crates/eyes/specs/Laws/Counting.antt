-- Laws of counting: asking some or all elements is counting, and one element more.
use Rattle.std.specs.Prelude.{◌≡◌, refl, Bool, true, false, cond, ◌&&◌, ◌||◌, List, [], ◌∷◌, ℕ, suc, ◌+◌, ◌<◌, eqb, ltb, length, get_or, take}
use Rattle.std.specs.Prelude.{count_by}
use Rattle.std.proofs.lemmas.List.Sums.{sum_by-cons}
use Rattle.std.proofs.Common.{sym, ap, ◌∙◌, zero-add, add-one, arith, take-suc, eqb-true, eq-eqb, ne_eqb, lt-ltb}
use Rattle.rules.specs.Lists.{any, all, count}
use Rattle.rules.proofs.Laws.Lists.{same_answer}
use Rattle.rules.proofs.Laws.Counting.{count_most}
use Rattle.rules.proofs.Laws.Places.{count-append}

eqb-more : (a b : ℕ) → eqb a b ≡ eqb (1 + a) (suc b)
eqb-more a b =
    same_answer (λ t. let e = eqb-true a b t in eq-eqb (1 + a) (suc b) (omega arith)) (λ t. let e = eqb-true (1 + a) (suc b) t in eq-eqb a b (omega arith))

module _ {A : Type 0} where
  pub any-count : (f : A → Bool) (xs : List A) → any f xs ≡ ltb 0 (count f xs)
  any-count f [] = refl
  any-count f (x ∷ xs) = go (f x) (any-count f xs)
    where
      go : (t : Bool) → any f xs ≡ ltb 0 (count f xs) → t || any f xs ≡ ltb 0 (cond t 1 0 + count f xs)
      go true ih = sym (lt-ltb 0 (1 + count f xs) (omega arith))
      go false ih = ih ∙ ap (ltb 0) (sym (zero-add (count f xs)))

  pub all-count : (f : A → Bool) (xs : List A) → all f xs ≡ eqb (count f xs) (length xs)
  all-count f [] = refl
  all-count f (x ∷ xs) = go (f x) (all-count f xs)
    where
      go : (t : Bool) → all f xs ≡ eqb (count f xs) (length xs) → t && all f xs ≡ eqb (cond t 1 0 + count f xs) (suc (length xs))
      go true ih = ih ∙ eqb-more (count f xs) (length xs)
      go false ih = sym (ne_eqb (0 + count f xs) (suc (length xs)) (λ (e : 0 + count f xs ≡ suc (length xs)). omega (arith, count_most f xs)))

  -- one element more
  pub count-more :
      (f : A → Bool) (xs : List A) (d : A) (i : ℕ) → i < length xs → count f (take (i + 1) xs) ≡ count f (take i xs) + cond (f (get_or xs i d)) 1 0
  count-more f xs d i h =
      rw (add-one, take-suc xs i d) (count-append f (take i xs) (get_or xs i d ∷ []) ∙ omega arith)

-- the library counts as the definition does
pub count-by : {A : Type 0} (f : A → Bool) (xs : List A) → count_by f xs ≡ count f xs
count-by f [] = refl
count-by f (x ∷ xs) = sum_by-cons (λ y. cond (f y) 1 0) x xs ∙ ap (λ (n : ℕ). cond (f x) 1 0 + n) (count-by f xs)
