-- Laws of Lists: what a test over a list says of its elements, and what stands at each place of a made list.
use Rattle.std.specs.Prelude.{◌≡◌, refl, Bool, true, false, cond, not, ◌&&◌, ◌||◌, ◌≢◌, ◌⊎◌, ℕ, zero, suc, ◌+◌, ◌≤◌, ◌<◌, eqb, ltb, length, get_or, set, replicate, Option, None, Some}
use Rattle.std.proofs.Common.{sym, ap, ap₂, ◌∙◌, true≢false, inl, inr, ⊎_elim, zero-le, suc-le-suc, add-zero, zero-add, add-suc, suc-add, le_refl, le_trans, le_of_suc-le-suc, not-suc-le-zero, arith, get_or-set_same, get_or-set_other, eqb-true, eq-eqb, ne_eqb, ltb-true, ltb-false}
use Rattle.std.proofs.lemmas.Bool.{false≢true, eqb-false}
use mathlib.Core.List.Memᴰ
use mathlib.Core.List.{List, [], ◌∷◌, ◌++◌, Memᴰ}
use Rattle.std.proofs.Math.Logic.{⊎_map}
use Rattle.std.proofs.lemmas.Option.{same_Some, none-some}
use Rattle.std.proofs.Math.Nat.{le-suc}
use Rattle.rules.specs.Lists.{tabulate, any, all, count, pick, present, below, same, has}

-- ---- Bool

pub and_left : (a b : Bool) → a && b ≡ true → a ≡ true
and_left true b e = refl
and_left false b e = e

pub and_right : (a b : Bool) → a && b ≡ true → b ≡ true
and_right true b e = e
and_right false b e = absurd (false≢true e)

pub and_both : {a b : Bool} → a ≡ true → b ≡ true → a && b ≡ true
and_both {a} {b} p q = rw (p, q)

pub or_cases : (a b : Bool) → a || b ≡ true → (a ≡ true) ⊎ (b ≡ true)
or_cases true b e = inl refl
or_cases false b e = inr e

pub or_left : {a : Bool} (b : Bool) → a ≡ true → a || b ≡ true
or_left b p = rw p

pub or_right : (a : Bool) {b : Bool} → b ≡ true → a || b ≡ true
or_right true q = refl
or_right false q = q

pub or-none-left : (a b : Bool) → a || b ≡ false → a ≡ false
or-none-left true b e = e
or-none-left false b e = refl

pub or-none-right : (a b : Bool) → a || b ≡ false → b ≡ false
or-none-right true b e = absurd (true≢false e)
or-none-right false b e = e

pub not-both : {a : Bool} → a ≡ true → a ≡ false → ⊥
not-both p q = true≢false (sym p ∙ q)

or_swap : (a b c d : Bool) → ((a || b) || (c || d)) ≡ ((a || c) || (b || d))
or_swap true b c d = refl
or_swap false true true d = refl
or_swap false true false d = refl
or_swap false false c d = refl

-- the same value by either of two tests
pub cond-or : {A : Type 0} (s t : Bool) (a b : A) → cond s a (cond t a b) ≡ cond (s || t) a b
cond-or true t a b = refl
cond-or false t a b = refl

-- a test has an answer
pub decided : (a : Bool) → (a ≡ true) ⊎ (a ≡ false)
decided true = inl refl
decided false = inr refl

pub not-no : {a : Bool} → (a ≡ false → ⊥) → a ≡ true
not-no {a} n = ⊎_elim (λ y. y) (λ f. absurd (n f)) (decided a)

pub not_yes : {a : Bool} → (a ≡ true → ⊥) → a ≡ false
not_yes {a} n = ⊎_elim (λ y. absurd (n y)) (λ f. f) (decided a)

pub equal_or_not : (m n : ℕ) → (m ≡ n) ⊎ (m ≢ n)
equal_or_not m n = ⊎_map (eqb-true m n) (eqb-false m n) (decided (eqb m n))

pub below_or_not : (m n : ℕ) → (m < n) ⊎ (n ≤ m)
below_or_not m n = ⊎_elim (λ t. inl (ltb-true m n t)) (λ f. inr (ltb-false m n f)) (decided (ltb m n))

-- two numbers are equal if they are equal either way, though nothing decides which way it is
pub both_ways : {P : Type 0} {m n : ℕ} → (P → m ≡ n) → (¬ P → m ≡ n) → m ≡ n
both_ways {P} {m} {n} f g =
    ⊎_elim (λ e. e) (λ apart. absurd (apart (g (λ p. apart (f p))))) (equal_or_not m n)

-- two tests that say yes to the same
pub same_answer : {a b : Bool} → (a ≡ true → b ≡ true) → (b ≡ true → a ≡ true) → a ≡ b
same_answer {a} {b} f g = ⊎_elim (λ y. y ∙ sym (f y)) (λ n. n ∙ sym (not_yes (λ y. not-both (g y) n))) (decided a)

-- ---- A list of the values of a function

module _ {A : Type 0} (f : ℕ → A) where
  pub length-tabulate : (i n : ℕ) → length (tabulate f i n) ≡ n
  length-tabulate i zero = refl
  length-tabulate i (suc n) = ap suc (length-tabulate (suc i) n)

  pub get_d_tabulate : (i n k : ℕ) (d : A) → k < n → get_or (tabulate f i n) k d ≡ f (i + k)
  get_d_tabulate i zero k d h = absurd (not-suc-le-zero h)
  get_d_tabulate i (suc n) zero d h = ap f (sym (add-zero i))
  get_d_tabulate i (suc n) (suc k) d h = get_d_tabulate (suc i) n k d (le_of_suc-le-suc h) ∙ ap f (suc-add i k ∙ sym (add-suc i k))

  pub get_or-tabulate-zero : (n k : ℕ) (d : A) → k < n → get_or (tabulate f 0 n) k d ≡ f k
  get_or-tabulate-zero n k d h = get_d_tabulate 0 n k d h ∙ ap f (zero-add k)

  pub get_or-tabulate-beyond : (i n k : ℕ) (d : A) → n ≤ k → get_or (tabulate f i n) k d ≡ d
  get_or-tabulate-beyond i zero k d h = refl
  get_or-tabulate-beyond i (suc n) zero d h = absurd (not-suc-le-zero h)
  get_or-tabulate-beyond i (suc n) (suc k) d h = get_or-tabulate-beyond (suc i) n k d (le_of_suc-le-suc h)

  pub tabulate-mem : (i n : ℕ) {x : A} → Memᴰ x (tabulate f i n) → (k : ℕ) × (k < n) × (x ≡ f (i + k))
  tabulate-mem i zero m = absurd (Memᴰ.not-nil m)
  tabulate-mem i (suc n) m =
      ⊎_elim (λ e. (0, suc-le-suc zero-le, e ∙ ap f (sym (add-zero i))))
      (λ t. let (k, l, e) = tabulate-mem (suc i) n t in (suc k, suc-le-suc l, e ∙ ap f (suc-add i k ∙ sym (add-suc i k))))
      (Memᴰ.cases_cons m)

  pub mem-tabulate : (i n k : ℕ) → k < n → Memᴰ (f (i + k)) (tabulate f i n)
  mem-tabulate i zero k h = absurd (not-suc-le-zero h)
  mem-tabulate i (suc n) zero h = Memᴰ.head (ap f (add-zero i))
  mem-tabulate i (suc n) (suc k) h =
      Memᴰ.tail (Memᴰ.cast (ap f (add-suc i k ∙ sym (suc-add i k))) (mem-tabulate (suc i) n k (le_of_suc-le-suc h)))

-- ---- Places of a list

module _ {A : Type 0} where
  -- what is not the default stands in the list
  pub get_or-within : (l : List A) (p : ℕ) (d : A) → get_or l p d ≢ d → p < length l
  get_or-within [] p d h = absurd (h refl)
  get_or-within (x ∷ l) zero d h = suc-le-suc zero-le
  get_or-within (x ∷ l) (suc p) d h = suc-le-suc (get_or-within l p d h)

  -- within the list the default does not matter
  pub get_d_default : (l : List A) (p : ℕ) (d e : A) → p < length l → get_or l p d ≡ get_or l p e
  get_d_default [] p d e h = absurd (not-suc-le-zero h)
  get_d_default (x ∷ l) zero d e h = refl
  get_d_default (x ∷ l) (suc p) d e h = get_d_default l p d e (le_of_suc-le-suc h)

  pub mem-get_or : (l : List A) (p : ℕ) (d : A) → p < length l → Memᴰ (get_or l p d) l
  mem-get_or [] p d h = absurd (not-suc-le-zero h)
  mem-get_or (x ∷ l) zero d h = Memᴰ.head refl
  mem-get_or (x ∷ l) (suc p) d h = Memᴰ.tail (mem-get_or l p d (le_of_suc-le-suc h))

-- ---- Membership in the numbers below n

pub mem_below : (n k : ℕ) → k < n → Memᴰ k (below n)
unfolding below
mem_below n k h = Memᴰ.cast (sym (zero-add k)) (mem-tabulate (λ (j : ℕ). j) 0 n k h)

-- the numbers from i on are no smaller than i
pub from-least : (i n k : ℕ) → Memᴰ k (tabulate (λ j. j) i n) → i ≤ k
from-least i n k m = let (j, l, e) = tabulate-mem (λ (j : ℕ). j) i n m in omega arith

pub below-mem : (n k : ℕ) → Memᴰ k (below n) → k < n
unfolding below
below-mem n k m = let (j, l, e) = tabulate-mem (λ (j : ℕ). j) 0 n m in omega arith

pub length-below : (n : ℕ) → length (below n) ≡ n
unfolding below
length-below n = length-tabulate (λ (j : ℕ). j) 0 n

-- ---- Tests over a list

module _ {A : Type 0} (f : A → Bool) where
  pub any-yes : {x : A} {xs : List A} → Memᴰ x xs → f x ≡ true → any f xs ≡ true
  any-yes (Memᴰ.head {x} {xs} e) p = or_left (any f xs) (ap f (sym e) ∙ p)
  any-yes (Memᴰ.tail {x} m) p = or_right (f x) (any-yes m p)

  pub any_some : (xs : List A) → any f xs ≡ true → (x : A) × Memᴰ x xs × (f x ≡ true)
  any_some [] e = absurd (false≢true e)
  any_some (x ∷ xs) e =
      ⊎_elim (λ p. (x, Memᴰ.head refl, p))
      (λ r. let s = any_some xs r in (s.0, Memᴰ.tail s.1, s.2))
      (or_cases (f x) (any f xs) e)

  pub any-no : {x : A} {xs : List A} → any f xs ≡ false → Memᴰ x xs → f x ≡ false
  any-no e m = not_yes (λ p. not-both (any-yes m p) e)

  pub any_none : (xs : List A) → ((x : A) → Memᴰ x xs → f x ≡ false) → any f xs ≡ false
  any_none xs h = not_yes (λ e. let s = any_some xs e in not-both s.2 (h s.0 s.1))

  pub all-each : {x : A} {xs : List A} → all f xs ≡ true → Memᴰ x xs → f x ≡ true
  all-each e (Memᴰ.head {x} {xs} p) = ap f p ∙ and_left (f x) (all f xs) e
  all-each e (Memᴰ.tail {x} {xs} m) = all-each (and_right (f x) (all f xs) e) m

  pub pick-mem : {x : A} (xs : List A) → Memᴰ x (pick f xs) → Memᴰ x xs × (f x ≡ true)
  pick-mem {x} [] m = absurd (Memᴰ.not-nil m)
  pick-mem {x} (y ∷ xs) m =
      ⊎_elim (λ p. ⊎_elim (λ e. (Memᴰ.head e, ap f e ∙ p)) (λ t. later (pick-mem xs t)) (Memᴰ.cases_cons (rw p at m)))
      (λ p. later (pick-mem xs (rw p at m)))
      (decided (f y))
    where
      later : Memᴰ x xs × (f x ≡ true) → Memᴰ x (y ∷ xs) × (f x ≡ true)
      later (t, e) = (Memᴰ.tail t, e)

  pub mem-pick : {x : A} {xs : List A} → Memᴰ x xs → f x ≡ true → Memᴰ x (pick f xs)
  mem-pick {x} (Memᴰ.head e) p = rw (sym (ap f e) ∙ p) (Memᴰ.head e)
  mem-pick {x} (Memᴰ.tail {x = y} m) p =
      ⊎_elim (λ q. rw q (Memᴰ.tail (mem-pick m p))) (λ q. rw q (mem-pick m p)) (decided (f y))

  pub all_yes : (xs : List A) → ((x : A) → Memᴰ x xs → f x ≡ true) → all f xs ≡ true
  all_yes [] h = refl
  all_yes (x ∷ xs) h = and_both (h x (Memᴰ.head refl)) (all_yes xs (λ y m. h y (Memᴰ.tail m)))

  -- some element passes if and only if the count is not zero
  pub count-some : (xs : List A) → 0 < count f xs → (x : A) × Memᴰ x xs × (f x ≡ true)
  count-some [] h = absurd (not-suc-le-zero h)
  count-some (x ∷ xs) h =
      ⊎_elim (λ p. (x, Memᴰ.head refl, p))
      (λ n. let k : 0 < 0 + count f xs = rw n at h in let s = count-some xs (omega arith) in (s.0, Memᴰ.tail s.1, s.2))
      (decided (f x))

  pub count-positive : {x : A} {xs : List A} → Memᴰ x xs → f x ≡ true → 0 < count f xs
  count-positive (Memᴰ.head {x} {xs} e) p = let q : f x ≡ true = ap f (sym e) ∙ p in rw q (omega arith)
  count-positive (Memᴰ.tail {x} {xs} m) p = let h : 0 < count f xs = count-positive m p in omega arith

-- ---- Tests that agree on the list's elements

module _ {A : Type 0} where
  pub any_same : (f g : A → Bool) (xs : List A) → ((x : A) → Memᴰ x xs → f x ≡ g x) → any f xs ≡ any g xs
  any_same f g [] h = refl
  any_same f g (x ∷ xs) h = ap₂ ◌||◌ (h x (Memᴰ.head refl)) (any_same f g xs (λ y m. h y (Memᴰ.tail m)))

  pub all_same : (f g : A → Bool) (xs : List A) → ((x : A) → Memᴰ x xs → f x ≡ g x) → all f xs ≡ all g xs
  all_same f g [] h = refl
  all_same f g (x ∷ xs) h = ap₂ ◌&&◌ (h x (Memᴰ.head refl)) (all_same f g xs (λ y m. h y (Memᴰ.tail m)))

  pub pick_same : (f g : A → Bool) (xs : List A) → ((x : A) → Memᴰ x xs → f x ≡ g x) → pick f xs ≡ pick g xs
  pick_same f g [] h = refl
  pick_same f g (x ∷ xs) h =
      ap₂ (λ (t : Bool) (l : List A). cond t (x ∷ l) l) (h x (Memᴰ.head refl)) (pick_same f g xs (λ y m. h y (Memᴰ.tail m)))

  -- a test that is one of two
  pub any-or : (f g h : A → Bool) (xs : List A) → ((x : A) → h x ≡ (f x || g x)) → any h xs ≡ (any f xs || any g xs)
  any-or f g h [] each = refl
  any-or f g h (x ∷ xs) each = ap₂ ◌||◌ (each x) (any-or f g h xs each) ∙ or_swap (f x) (g x) (any f xs) (any g xs)

  pub pick-append : (f : A → Bool) (xs ys : List A) → pick f (xs ++ ys) ≡ pick f xs ++ pick f ys
  pick-append f [] ys = refl
  pick-append f (x ∷ xs) ys = ap (λ (l : List A). cond (f x) (x ∷ l) l) (pick-append f xs ys) ∙ go (f x)
    where
      go : (t : Bool) → cond t (x ∷ (pick f xs ++ pick f ys)) (pick f xs ++ pick f ys) ≡ cond t (x ∷ pick f xs) (pick f xs) ++ pick f ys
      go true = refl
      go false = refl

-- ---- Counting what is not marked

-- one mark more leaves one fewer without
pub count-not-set : (marks : List Bool) (p : ℕ) → get_or marks p true ≡ false → count not marks ≡ suc (count not (set marks p true))
count-not-set [] p e = absurd (true≢false e)
count-not-set (b ∷ marks) zero e = rw e (omega arith)
count-not-set (b ∷ marks) (suc p) e = let h = count-not-set marks p e in omega arith

pub count-not-replicate : (n : ℕ) → count not (replicate n false) ≡ n
count-not-replicate zero = refl
count-not-replicate (suc n) = let h = count-not-replicate n in omega arith

-- ---- What is there

module _ {A : Type 0} where
  -- a test before an option that is there was passed
  pub cond-some : (t : Bool) (o : Option A) {x : A} → cond t o None ≡ Some x → (t ≡ true) × (o ≡ Some x)
  cond-some true o e = (refl, e)
  cond-some false o {x} e = absurd (none-some x e)

  pub mem-present : (os : List (Option A)) {x : A} → Memᴰ (Some x) os → Memᴰ x (present os)
  mem-present [] m = absurd (Memᴰ.not-nil m)
  mem-present (None ∷ os) {x} m =
      ⊎_elim (λ e. absurd (none-some x (sym e))) (λ t. mem-present os t) (Memᴰ.cases_cons m)
  mem-present (Some y ∷ os) {x} m =
      ⊎_elim (λ e. Memᴰ.head (same_Some x y e)) (λ t. Memᴰ.tail (mem-present os t)) (Memᴰ.cases_cons m)

  pub present-mem : (os : List (Option A)) {x : A} → Memᴰ x (present os) → Memᴰ (Some x) os
  present-mem [] m = absurd (Memᴰ.not-nil m)
  present-mem (None ∷ os) m = Memᴰ.tail (present-mem os m)
  present-mem (Some y ∷ os) m =
      ⊎_elim (λ e. Memᴰ.head (ap {B = Option A} Some e)) (λ t. Memᴰ.tail (present-mem os t)) (Memᴰ.cases_cons m)

  pub present-fewer : (os : List (Option A)) → length (present os) ≤ length os
  present-fewer [] = le_refl 0
  present-fewer (None ∷ os) = le_trans (present-fewer os) (le-suc (length os))
  present-fewer (Some x ∷ os) = suc-le-suc (present-fewer os)

-- ---- Membership of numbers, by a test

pub mem-has : {p : ℕ} {ps : List ℕ} → Memᴰ p ps → has ps p ≡ true
unfolding has
mem-has {p} m = any-yes (eqb p) m (eq-eqb p p refl)

pub has-mem : (ps : List ℕ) (p : ℕ) → has ps p ≡ true → Memᴰ p ps
unfolding has
has-mem ps p e = let s = any_some (eqb p) ps e in Memᴰ.cast (eqb-true p s.0 s.2) s.1

pub has-not : {p : ℕ} {ps : List ℕ} → has ps p ≡ false → ¬ Memᴰ p ps
has-not e m = not-both (mem-has m) e

-- ---- Equality of lists of numbers, by a test

pub same-equal : (xs ys : List ℕ) → same xs ys ≡ true → xs ≡ ys
same-equal [] [] e = refl
same-equal [] (y ∷ ys) e = absurd (false≢true e)
same-equal (x ∷ xs) [] e = absurd (false≢true e)
same-equal (x ∷ xs) (y ∷ ys) e =
    ap₂ {C = List ℕ} (λ a l. a ∷ l) (eqb-true x y (and_left (eqb x y) (same xs ys) e)) (same-equal xs ys (and_right (eqb x y) (same xs ys) e))

pub same_self : (xs : List ℕ) → same xs xs ≡ true
same_self [] = refl
same_self (x ∷ xs) = and_both (eq-eqb x x refl) (same_self xs)

-- ---- A list with one place changed

pub get_d_set : {A : Type 0} (l : List A) (i : ℕ) (a : A) (j : ℕ) (d : A) → i < length l → get_or (set l i a) j d ≡ cond (eqb j i) a (get_or l j d)
get_d_set l i a j d within =
    ⊎_elim
    (λ e. ap (λ (k : ℕ). get_or (set l i a) k d) e ∙ get_or-set_same l i a d within ∙ sym (ap (λ (t : Bool). cond t a (get_or l j d)) (eq-eqb j i e)))
    (λ n. get_or-set_other l i j a d n ∙ sym (ap (λ (t : Bool). cond t a (get_or l j d)) (ne_eqb j i n)))
    (equal_or_not j i)

-- a list of one value has that value everywhere, and past its end by default
pub get_or-replicate-same : {A : Type 0} (n i : ℕ) (a : A) → get_or (replicate n a) i a ≡ a
get_or-replicate-same zero i a = refl
get_or-replicate-same (suc n) zero a = refl
get_or-replicate-same (suc n) (suc i) a = get_or-replicate-same n i a
