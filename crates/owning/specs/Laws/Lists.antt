-- Laws of all, any and has on a list taken one element after another, as a loop goes through it.
use Rattle.std.specs.Prelude.{◌≡◌, refl, Bool, true, false, ◌&&◌, ◌||◌, ℕ, zero, suc, ◌+◌, ◌<◌, eqb, length, get_or}
use Rattle.std.proofs.Common.{sym, ap, ap₂, ◌∙◌, not-suc-le-zero, le_of_suc-le-suc, zero-add, add-one}
use Rattle.std.proofs.Math.Bool.{and-true, and_assoc, or-false, or_assoc}
use mathlib.Core.List.Memᴰ.{head}
use mathlib.Core.List.Memᴰ.{tail}
use mathlib.Core.List.{List, [], ◌∷◌, ◌++◌, Memᴰ}
use Rattle.rules.specs.Lists.{all, any, has, below, tabulate}
use Rattle.rules.proofs.Laws.Lists.{all-each, all_yes, not_yes, not-both, mem_below, below-mem}
use Rattle.rules.proofs.Laws.Places.{tabulate-suc}

module _ {A : Type 0} where
  pub mem-get_or : (l : List A) (k : ℕ) (d : A) → k < length l → Memᴰ (get_or l k d) l
  mem-get_or [] k d h = absurd (not-suc-le-zero h)
  mem-get_or (x ∷ l) zero d h = head refl
  mem-get_or (x ∷ l) (suc k) d h = tail (mem-get_or l k d (le_of_suc-le-suc h))

  module _ (f : A → Bool) where
    all_append : (xs ys : List A) → all f (xs ++ ys) ≡ (all f xs && all f ys)
    all_append [] ys = refl
    all_append (x ∷ xs) ys = ap (λ (t : Bool). f x && t) (all_append xs ys) ∙ sym (and_assoc (f x) (all f xs) (all f ys))

    pub any_append : (xs ys : List A) → any f (xs ++ ys) ≡ (any f xs || any f ys)
    any_append [] ys = refl
    any_append (x ∷ xs) ys = ap (λ (t : Bool). f x || t) (any_append xs ys) ∙ sym (or_assoc (f x) (any f xs) (any f ys))

  pub any_same : (f g : A → Bool) (xs : List A) → ((x : A) → Memᴰ x xs → f x ≡ g x) → any f xs ≡ any g xs
  any_same f g [] h = refl
  any_same f g (x ∷ xs) h = ap₂ ◌||◌ (h x (head refl)) (any_same f g xs (λ y m. h y (tail m)))

module _ (f : ℕ → Bool) (n : ℕ) where
  pub all-below : ((k : ℕ) → k < n → f k ≡ true) → all f (below n) ≡ true
  all-below h = all_yes f (below n) (λ x m. h x (below-mem n x m))

  pub all-fails-below : (k : ℕ) → k < n → f k ≡ false → all f (below n) ≡ false
  all-fails-below k h e = not_yes (λ t. not-both (all-each f t (mem_below n k h)) e)

-- a test that fails among others
pub and-fails : {a : Bool} (x : Bool) → a ≡ false → (a && x) ≡ false
and-fails x e = rw e

pub then-fails : (a : Bool) {x : Bool} → x ≡ false → (a && x) ≡ false
then-fails true e = e
then-fails false e = refl

-- ---- One element more, as a loop counts

pub below_next : (n : ℕ) → below (n + 1) ≡ below n ++ (n ∷ [])
unfolding below
below_next n = rw add-one (tabulate-suc (λ i. i) 0 n ∙ ap (λ (k : ℕ). tabulate (λ i. i) 0 n ++ (k ∷ [])) (zero-add n))

pub all-below-next : (f : ℕ → Bool) (n : ℕ) → all f (below (n + 1)) ≡ (all f (below n) && f n)
all-below-next f n = ap (all f) (below_next n) ∙ all_append f (below n) (n ∷ []) ∙ ap (λ (t : Bool). all f (below n) && t) (and-true (f n))

pub has-append : (xs ys : List ℕ) (q : ℕ) → has (xs ++ ys) q ≡ (has xs q || has ys q)
unfolding has
has-append xs ys q = any_append (eqb q) xs ys

pub has_one : (p q : ℕ) → has (p ∷ []) q ≡ eqb q p
unfolding has
has_one p q = or-false (eqb q p)
