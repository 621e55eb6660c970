-- Laws of counting: lists with no repeats, the pigeonhole, counts by a test, and from these how many chains can stand, over any graph.
use Rattle.std.specs.Prelude.{◌≡◌, refl, Bool, true, false, not, ◌&&◌, ◌||◌, ◌≢◌, ℕ, zero, suc, ◌+◌, ◌*◌, ◌≤◌, eqb, length, Option, None, Some}
use Rattle.std.proofs.Common.{sym, ap, ◌∙◌, subst, ⊎_elim, zero-le, le_trans, arith, length-append, eq-eqb, ne_eqb}
use mathlib.Core.List.Memᴰ
use mathlib.Core.List.Memᴰ.{head}
use mathlib.Core.List.Memᴰ.{tail}
use mathlib.Core.List.{List, [], ◌∷◌, ◌++◌, map, Memᴰ}
use Rattle.std.proofs.lemmas.Bool.{eqb-false, not-true}
use Rattle.rules.specs.Lists.{tabulate, any, count, pick, present, below, Distinct}
use Rattle.rules.proofs.Laws.Lists.{and_left, and_right, and_both, not-both, not_yes, decided, equal_or_not, any_some, any-no, pick-mem, mem-pick, present-mem, from-least}

-- ---- No repeats

module _ {A : Type 0} where
  pub pick-distinct : (f : A → Bool) (xs : List A) → Distinct xs → Distinct (pick f xs)
  pick-distinct f [] d = tt
  pick-distinct f (x ∷ xs) (new, d) =
      ⊎_elim (λ e. rw e (λ m. new (pick-mem f xs m).0, pick-distinct f xs d)) (λ e. rw e (pick-distinct f xs d)) (decided (f x))

-- what f makes of a list has no repeats, if it tells keys apart of which the list has no repeats
module _ {A B : Type 0} (f : A → Option B) (key : A → ℕ) (tells : (x y : A) (b : B) → f x ≡ Some b → f y ≡ Some b → key x ≡ key y) where
  pub present-distinct : (xs : List A) → Distinct (map key xs) → Distinct (present (map f xs))
  present-distinct [] d = tt
  present-distinct (x ∷ xs) (new, d) = first (f x) refl (present-distinct xs d)
    where
      first : (o : Option B) → f x ≡ o → Distinct (present (map f xs)) → Distinct (present (o ∷ map f xs))
      first None e rest = rest
      first (Some b) e rest =
          (λ m. let (y, n, e') = Memᴰ.of_map f xs (present-mem (map f xs) m) in new (Memᴰ.cast (tells x y b e e') (Memᴰ.map key n)), rest)

from-distinct : (i n : ℕ) → Distinct (tabulate (λ j. j) i n)
from-distinct i zero = tt
from-distinct i (suc n) = (λ m. let l : suc i ≤ i = from-least (suc i) n i m in omega arith, from-distinct (suc i) n)

pub below-distinct : (n : ℕ) → Distinct (below n)
unfolding below
below-distinct n = from-distinct 0 n

-- ---- The pigeonhole

module _ {B : Type 0} where
  -- the list with one place for y taken out: every other element is still there
  abbrev Without : B → List B → Type 0
  Without y ys = (rest : List B) × (length ys ≡ suc (length rest)) × ((z : B) → z ≢ y → Memᴰ z ys → Memᴰ z rest)

  without : {y : B} (ys : List B) → Memᴰ y ys → Without y ys
  without [] m = absurd (Memᴰ.not-nil m)
  without {y} (x ∷ ys) m = ⊎_elim first (λ t. later (without ys t)) (Memᴰ.cases_cons m)
    where
      first : y ≡ x → Without y (x ∷ ys)
      first e = (ys, refl, λ z new n. ⊎_elim (λ q. absurd (new (q ∙ sym e))) (λ t. t) (Memᴰ.cases_cons n))

      later : Without y ys → Without y (x ∷ ys)
      later (rest, size, kept) = (x ∷ rest, ap suc size, λ z new n. ⊎_elim head (λ t. tail (kept z new t)) (Memᴰ.cases_cons n))

module _ {A B : Type 0} (R : A → B → Type 0) (one : (x x' : A) (y : B) → R x y → R x' y → x ≡ x') where
  -- each x of a list with no repeats has a place y in the other list, and no y is the place of two: there are as many places
  pub pigeonhole :
      (xs : List A) (ys : List B) → Distinct xs → ((x : A) → Memᴰ x xs → (y : B) × Memᴰ y ys × R x y) → length xs ≤ length ys
  pigeonhole [] ys d place = zero-le
  pigeonhole (x ∷ xs) ys (new, d) place = omega (arith, others.1, pigeonhole xs others.0 d later)
    where
      first : (y : B) × Memᴰ y ys × R x y
      first = place x (head refl)

      others : Without first.0 ys
      others = without ys first.1

      later : (x' : A) → Memᴰ x' xs → (y : B) × Memᴰ y others.0 × R x' y
      later x' m =
          let (y, n, r) = place x' (tail m) in
          (y, others.2 y (λ e. new (Memᴰ.cast (one x x' first.0 first.2 (subst (R x') e r)) m)) n, r)

pub distinct-fewer : {A : Type 0} (xs ys : List A) → Distinct xs → ((x : A) → Memᴰ x xs → Memᴰ x ys) → length xs ≤ length ys
distinct-fewer {A} xs ys d within = pigeonhole {A = A} {B = A} (λ x y. x ≡ y) (λ x x' y p q. p ∙ sym q) xs ys d (λ x m. (x, within x m, refl))

-- ---- Counts

module _ {A : Type 0} where
  pub length-pick : (f : A → Bool) (xs : List A) → length (pick f xs) ≡ count f xs
  length-pick f [] = refl
  length-pick f (x ∷ xs) =
      let ih = length-pick f xs in
      ⊎_elim (λ e. rw e (omega arith)) (λ e. rw e (omega arith)) (decided (f x))

  pub count-not : (f : A → Bool) (xs : List A) → count f xs + count (λ x. not (f x)) xs ≡ length xs
  count-not f [] = refl
  count-not f (x ∷ xs) =
      let ih = count-not f xs in
      ⊎_elim (λ e. rw e (omega arith)) (λ e. rw e (omega arith)) (decided (f x))

  pub count_most : (f : A → Bool) (xs : List A) → count f xs ≤ length xs
  count_most f xs = omega (arith, count-not f xs)

  pub count_same : (f g : A → Bool) (xs : List A) → ((x : A) → Memᴰ x xs → f x ≡ g x) → count f xs ≡ count g xs
  count_same f g [] h = refl
  count_same f g (x ∷ xs) h = let ih = count_same f g xs (λ y m. h y (tail m)) in rw (h x (head refl), ih)

  -- tests that no element passes both of
  pub count-or :
      (f g : A → Bool) (xs : List A) → ((x : A) → Memᴰ x xs → f x ≡ true → g x ≡ false) → count (λ x. f x || g x) xs ≡ count f xs + count g xs
  count-or f g [] apart = refl
  count-or f g (x ∷ xs) apart =
      let ih = count-or f g xs (λ y m. apart y (tail m)) in
      ⊎_elim (λ e. let k = apart x (head refl) e in rw (e, k) (omega arith)) (λ e. rw e (omega arith)) (decided (f x))

-- ---- Exactly one, in a list with no repeats

module _ {A : Type 0} (f : A → Bool) where
  -- two that pass the test make at least two
  pub count-two : {x y : A} (xs : List A) → Memᴰ x xs → Memᴰ y xs → x ≢ y → f x ≡ true → f y ≡ true → 2 ≤ count f xs
  count-two {x} {y} xs m n apart p q =
      rw (← length-pick f xs)
      (distinct-fewer (x ∷ y ∷ []) (pick f xs) (λ i. apart (Memᴰ.eq_of_singleton i), (λ i. Memᴰ.not-nil i, tt))
      (λ z i.
      ⊎_elim (λ e. Memᴰ.cast e (mem-pick f m p)) (λ j. Memᴰ.cast (Memᴰ.eq_of_singleton j) (mem-pick f n q)) (Memᴰ.cases_cons i)))

  -- none passes the test
  pub count_none : (xs : List A) → ((x : A) → Memᴰ x xs → f x ≡ false) → count f xs ≡ 0
  count_none [] never = refl
  count_none (x ∷ xs) never = let ih = count_none xs (λ y m. never y (tail m)) in rw (never x (head refl), ih)

-- the number p stands once
pub count-equal : (p : ℕ) (xs : List ℕ) → Distinct xs → Memᴰ p xs → count (λ x. eqb x p) xs ≡ 1
count-equal p (x ∷ xs) (new, d) m =
    ⊎_elim
    (λ e. let rest : count (λ y. eqb y p) xs ≡ 0 = count_none (λ y. eqb y p) xs (λ y n. ne_eqb y p (λ s. new (Memᴰ.cast (sym e ∙ sym s) n))) in rw (eq-eqb x p (sym e), rest))
    (λ n. let ih = count-equal p xs d n in rw (ne_eqb x p (λ s. new (Memᴰ.cast s n)), ih))
    (Memᴰ.cases_cons m)
count-equal p [] d m = absurd (Memᴰ.not-nil m)

-- p passes the test, and the number that do is not one: another one passes it
pub count-other :
    (f : ℕ → Bool) (p : ℕ) (xs : List ℕ) → Distinct xs → Memᴰ p xs → f p ≡ true → count f xs ≢ 1 →
    (q : ℕ) × Memᴰ q xs × (f q ≡ true) × (q ≢ p)
count-other f p xs d m y more =
    ⊎_elim
    (λ t.
    let (q, n, both) = any_some (λ q. f q && not (eqb q p)) xs t in
    (q, n, and_left (f q) (not (eqb q p)) both, eqb-false q p (not-true (eqb q p) (and_right (f q) (not (eqb q p)) both))))
    (λ nobody. absurd (more (count_same f (λ x. eqb x p) xs (alone nobody) ∙ count-equal p xs d m)))
    (decided (any (λ q. f q && not (eqb q p)) xs))
  where
    alone : any (λ q. f q && not (eqb q p)) xs ≡ false → (x : ℕ) → Memᴰ x xs → f x ≡ eqb x p
    alone nobody x n =
        ⊎_elim (λ e. ap f e ∙ y ∙ sym (eq-eqb x p e))
        (λ a.
        not_yes (λ t. not-both (and_both t (ap not (ne_eqb x p a))) (any-no (λ q. f q && not (eqb q p)) nobody n)) ∙ sym (ne_eqb x p a))
        (equal_or_not x p)

-- ---- How many chains can stand, over any graph and any way of naming chains

module _ (beside : ℕ → List ℕ) where
  -- what lies beside the points of a list
  abbrev around : List ℕ → List ℕ
  around [] = []
  around (q ∷ qs) = beside q ++ around qs

  mem-around : {q s : ℕ} (qs : List ℕ) → Memᴰ q qs → Memᴰ s (beside q) → Memᴰ s (around qs)
  mem-around [] m n = absurd (Memᴰ.not-nil m)
  mem-around (r ∷ qs) m n =
      ⊎_elim (λ e. Memᴰ.append_left (around qs) (rw e at n)) (λ t. Memᴰ.append_right (beside r) (mem-around qs t n)) (Memᴰ.cases_cons m)

  around-few : (k : ℕ) → ((q : ℕ) → length (beside q) ≤ k) → (qs : List ℕ) → length (around qs) ≤ k * length qs
  around-few k few [] = zero-le
  around-few k few (q ∷ qs) = omega (arith, length-append (beside q) (around qs), few q, around-few k few qs)

  -- `Named o s` says that o names the chain of the stone s. A chain has a stone, and a liberty beside one, so there are no more
  -- names than stones, and no more than places beside the empty points, of which each has at most four.
  module _ (few : (q : ℕ) → length (beside q) ≤ 4) (Named : ℕ → ℕ → Type 0) (one : (o o' s : ℕ) → Named o s → Named o' s → o ≡ o') where
    pub names-liberties :
        (names empties : List ℕ) → Distinct names →
        ((o : ℕ) → Memᴰ o names → (q s : ℕ) × Memᴰ q empties × Memᴰ s (beside q) × Named o s) →
        length names ≤ 4 * length empties
    names-liberties names empties d free =
        le_trans
        (pigeonhole Named one names (around empties) d (λ o m. let (q, s, e, n, r) = free o m in (s, mem-around empties e n, r)))
        (around-few 4 few empties)

    pub names-most :
        (names stones empties : List ℕ) → Distinct names →
        ((o : ℕ) → Memᴰ o names → (s : ℕ) × Memᴰ s stones × Named o s) →
        ((o : ℕ) → Memᴰ o names → (q s : ℕ) × Memᴰ q empties × Memᴰ s (beside q) × Named o s) →
        5 * length names ≤ 4 * (length stones + length empties)
    names-most names stones empties d at free = omega (arith, pigeonhole Named one names stones d at, names-liberties names empties d free)

  -- the same where a function gives each stone the name of its chain
  pub leads-most :
      ((q : ℕ) → length (beside q) ≤ 4) →
      (lead : ℕ → ℕ) (names stones empties : List ℕ) → Distinct names →
      ((o : ℕ) → Memᴰ o names → (s : ℕ) × Memᴰ s stones × (lead s ≡ o)) →
      ((o : ℕ) → Memᴰ o names → (q s : ℕ) × Memᴰ q empties × Memᴰ s (beside q) × (lead s ≡ o)) →
      5 * length names ≤ 4 * (length stones + length empties)
  leads-most few lead = names-most few (λ o s. lead s ≡ o) (λ o o' s p q. sym p ∙ q)
