-- Laws of places: a tabulated list, place by place, and counts over the numbers below n.
use Rattle.std.specs.Prelude.{Bool, true, false, cond, ◌≡◌, refl, List, [], ◌∷◌, ◌++◌, ℕ, zero, suc, ◌+◌, ◌≤◌, ◌<◌}
use Rattle.std.proofs.Common.{sym, ap, ap₂, ◌∙◌, ⊎_elim, zero-le, suc-le-suc, not-suc-le-zero, le_of_suc-le-suc, add-zero, zero-add, add-suc, suc-add, add_assoc, eq-or-lt_of_le, one-add, add-one, arith}
use Rattle.std.proofs.Math.Path.{fun_ext}
use Rattle.rules.specs.Lists.{tabulate, count, below}

module _ {A : Type 0} where
  pub tabulate-ext : (f g : ℕ → A) (i n : ℕ) → ((k : ℕ) → k < n → f (i + k) ≡ g (i + k)) → tabulate f i n ≡ tabulate g i n
  tabulate-ext f g i zero h = refl
  tabulate-ext f g i (suc n) h =
      ap₂ (λ (x : A) (xs : List A). x ∷ xs)
      (ap f (sym (add-zero i)) ∙ h zero (suc-le-suc zero-le) ∙ ap g (add-zero i))
      (tabulate-ext f g (suc i) n
      (λ k l. ap f (suc-add i k ∙ sym (add-suc i k)) ∙ h (suc k) (suc-le-suc l) ∙ ap g (add-suc i k ∙ sym (suc-add i k))))

  -- one place more, at the end
  pub tabulate-suc : (f : ℕ → A) (i n : ℕ) → tabulate f i (suc n) ≡ tabulate f i n ++ (f (i + n) ∷ [])
  tabulate-suc f i zero = ap (λ (k : ℕ). f k ∷ []) (sym (add-zero i))
  tabulate-suc f i (suc n) =
      ap (λ (xs : List A). f i ∷ xs)
      (tabulate-suc f (suc i) n ∙ ap (λ (k : ℕ). tabulate f (suc i) n ++ (f k ∷ [])) (suc-add i n ∙ sym (add-suc i n)))

  -- the numbers from the next one on, counted down by one
  pub tabulate-shift : (f : ℕ → A) (i n : ℕ) → tabulate f (suc i) n ≡ tabulate (λ k. f (suc k)) i n
  tabulate-shift f i zero = refl
  tabulate-shift f i (suc n) = ap (λ (xs : List A). f (suc i) ∷ xs) (tabulate-shift f (suc i) n)

  pub count-append : (f : A → Bool) (xs ys : List A) → count f (xs ++ ys) ≡ count f xs + count f ys
  count-append f [] ys = sym (zero-add (count f ys))
  count-append f (x ∷ xs) ys =
      ap (λ (n : ℕ). cond (f x) 1 0 + n) (count-append f xs ys) ∙ sym (add_assoc (cond (f x) 1 0) (count f xs) (count f ys))

pub below_next : (n : ℕ) → below (n + 1) ≡ below n ++ (n ∷ [])
unfolding below
below_next n = rw add-one (tabulate-suc (λ i. i) 0 n ∙ ap (λ (k : ℕ). tabulate (λ i. i) 0 n ++ (k ∷ [])) (zero-add n))

-- ---- Counts over the numbers below n

pub count-below-zero : (f : ℕ → Bool) → count f (below 0) ≡ 0
unfolding below
count-below-zero f = refl

-- one number more, at the end
pub count-below-suc : (f : ℕ → Bool) (n : ℕ) → count f (below (suc n)) ≡ count f (below n) + cond (f n) 1 0
unfolding below
count-below-suc f n =
    ap (count f) (tabulate-suc (λ i. i) 0 n) ∙ count-append f (tabulate (λ i. i) 0 n) ((0 + n) ∷ [])
    ∙ ap (λ (k : ℕ). count f (tabulate (λ i. i) 0 n) + k) (add-zero (cond (f (0 + n)) 1 0) ∙ ap (λ (k : ℕ). cond (f k) 1 0) (zero-add n))

-- the first m, and the n from there on
pub count-below-add :
    (f : ℕ → Bool) (m n : ℕ) → count f (below (m + n)) ≡ count f (below m) + count (λ k. f (m + k)) (below n)
count-below-add f m zero =
    ap (λ (k : ℕ). count f (below k)) (add-zero m)
    ∙ sym (ap (λ (k : ℕ). count f (below m) + k) (count-below-zero (λ k. f (m + k))) ∙ add-zero (count f (below m)))
count-below-add f m (suc n) =
    ap (λ (k : ℕ). count f (below k)) (add-suc m n) ∙ count-below-suc f (m + n)
    ∙ ap (λ (k : ℕ). k + cond (f (m + n)) 1 0) (count-below-add f m n)
    ∙ add_assoc (count f (below m)) (count (λ k. f (m + k)) (below n)) (cond (f (m + n)) 1 0)
    ∙ ap (λ (k : ℕ). count f (below m) + k) (sym (count-below-suc (λ k. f (m + k)) n))

-- one number more, at the front
pub count-below-first : (f : ℕ → Bool) (n : ℕ) → count f (below (suc n)) ≡ cond (f 0) 1 0 + count (λ k. f (suc k)) (below n)
count-below-first f n =
    ap (λ (k : ℕ). count f (below k)) (sym (one-add n)) ∙ count-below-add f 1 n
    ∙ ap₂ (λ (a b : ℕ). a + b)
    (count-below-suc f 0 ∙ ap (λ (k : ℕ). k + cond (f 0) 1 0) (count-below-zero f) ∙ zero-add (cond (f 0) 1 0))
    (ap (λ (g : ℕ → Bool). count g (below n)) (fun_ext (λ k. ap f (one-add k))))

pub count-below-ext :
    (f g : ℕ → Bool) (n : ℕ) → ((k : ℕ) → k < n → f k ≡ g k) → count f (below n) ≡ count g (below n)
count-below-ext f g zero h = count-below-zero f ∙ sym (count-below-zero g)
count-below-ext f g (suc n) h =
    count-below-suc f n
    ∙ ap₂ (λ (a : ℕ) (b : Bool). a + cond b 1 0) (count-below-ext f g n (λ k l. h k (omega arith))) (h n (omega arith))
    ∙ sym (count-below-suc g n)

pub count-below-le : (f : ℕ → Bool) (n : ℕ) → count f (below n) ≤ n
count-below-le f zero = rw count-below-zero zero-le
count-below-le f (suc n) = rw count-below-suc (flag-le (f n) (count-below-le f n))
  where
    flag-le : (b : Bool) → count f (below n) ≤ n → count f (below n) + cond b 1 0 ≤ suc n
    flag-le true h = omega arith
    flag-le false h = omega arith

-- nothing below n passes
pub count-below-none : (f : ℕ → Bool) (n : ℕ) → ((k : ℕ) → k < n → f k ≡ false) → count f (below n) ≡ 0
count-below-none f zero h = count-below-zero f
count-below-none f (suc n) h =
    count-below-suc f n ∙ ap₂ (λ (a : ℕ) (b : Bool). a + cond b 1 0) (count-below-none f n (λ k l. h k (omega arith))) (h n (omega arith))

-- nothing from m on passes, so the first m are all that count
pub count-below-more :
    (f : ℕ → Bool) (m n : ℕ) → ((k : ℕ) → k < n → f (m + k) ≡ false) → count f (below (m + n)) ≡ count f (below m)
count-below-more f m n h =
    count-below-add f m n ∙ ap (λ (k : ℕ). count f (below m) + k) (count-below-none (λ k. f (m + k)) n h) ∙ add-zero (count f (below m))

-- one that passes is counted
pub count-below-some : (f : ℕ → Bool) (n k : ℕ) → k < n → f k ≡ true → 0 < count f (below n)
count-below-some f zero k l e = absurd (not-suc-le-zero l)
count-below-some f (suc n) k l e =
    rw count-below-suc (⊎_elim here (λ h. before (count-below-some f n k h e)) (eq-or-lt_of_le (le_of_suc-le-suc l)))
  where
    here : k ≡ n → 0 < count f (below n) + cond (f n) 1 0
    here p = rw (← p, e) (omega arith)

    before : 0 < count f (below n) → 0 < count f (below n) + cond (f n) 1 0
    before some = omega arith

-- where none is counted, none passes
pub count-below-each : (f : ℕ → Bool) (n : ℕ) → count f (below n) ≡ 0 → (k : ℕ) → k < n → f k ≡ false
count-below-each f n z k l = go (f k) refl
  where
    go : (b : Bool) → f k ≡ b → f k ≡ false
    go true e = let some : 0 < count f (below n) = count-below-some f n k l e in absurd (omega arith)
    go false e = e
