-- Laws of Front: one more place filled, for whatever fills it, and the two ways that a list goes on: by a test, or by a function.
use Rattle.std.specs.Prelude.{◌≡◌, refl, Bool, true, false, cond, List, [], ◌∷◌, ◌++◌, ℕ, suc, ◌+◌, ◌≤◌, ◌<◌, length, get_or, drop, set}
use Rattle.std.proofs.Common.{sym, ap, ap₂, ◌∙◌, subst, append-nil, zero-add, add-one, arith, length-append, drop_of_length-le, drop-cons}
use Rattle.std.proofs.Math.Seq.{set-append_seam, append_snoc}
use Rattle.rules.specs.Lists.{tabulate, pick, below}
use Rattle.rules.proofs.Laws.Lists.{pick-append}
use Rattle.rules.proofs.Laws.Places.{tabulate-suc, below_next}
use Rattle.viewing.specs.Front.{over, Front}

-- ---- The buffer

length-snoc : (xs : List ℕ) (v : ℕ) → length (xs ++ (v ∷ [])) ≡ suc (length xs)
length-snoc xs v = length-append xs (v ∷ []) ∙ add-one (length xs)

-- a store to the next place
pub over-more : (xs : List ℕ) (v : ℕ) (d : List ℕ) → length xs < length d → set (over xs d) (length xs) v ≡ over (xs ++ (v ∷ [])) d
unfolding over
over-more xs v d h =
    ap (λ (l : List ℕ). set (xs ++ l) (length xs) v) (drop-cons d (length xs) 0 h)
    ∙ set-append_seam xs (get_or d (length xs) 0) (drop (suc (length xs)) d) v
    ∙ sym (append_snoc xs v (drop (suc (length xs)) d))
    ∙ ap (λ (n : ℕ). xs ++ (v ∷ []) ++ drop n d) (sym (length-snoc xs v))

pub over_none : (d : List ℕ) → d ≡ over [] d
unfolding over
over_none d = refl

pub front-none : (d : List ℕ) → Front [] d 0 d
front-none d = record { counted = refl; buffer = over_none d }

pub front-more : {xs d after : List ℕ} {n : ℕ} (v : ℕ) → Front xs d n after → n < length d → Front (xs ++ (v ∷ [])) d (n + 1) (set after n v)
front-more {xs} {d} {after} {n} v f h =
    record {
      counted = ap (λ (k : ℕ). k + 1) f.counted ∙ add-one (length xs) ∙ sym (length-snoc xs v);
      buffer =
          ap₂ (λ (l : List ℕ) (k : ℕ). set l k v) f.buffer f.counted ∙ over-more xs v d (rw f.counted at h);
    }

-- the whole buffer was filled
pub front-whole : {xs d after : List ℕ} {n : ℕ} → Front xs d n after → length d ≤ n → after ≡ xs
unfolding over
front-whole {xs} {d} {after} {n} f h =
    f.buffer ∙ ap (λ (l : List ℕ). xs ++ l) (drop_of_length-le d {i = length xs} (omega (arith, f.counted))) ∙ append-nil xs

-- ---- The lists

module _ (f : ℕ → Bool) (n : ℕ) where
  next : pick f (below (n + 1)) ≡ pick f (below n) ++ cond (f n) (n ∷ []) []
  next = ap (pick f) (below_next n) ∙ pick-append f (below n) (n ∷ [])

  -- the next number passes, or not
  pub pick_more : f n ≡ true → pick f (below (n + 1)) ≡ pick f (below n) ++ (n ∷ [])
  pick_more t = next ∙ ap (λ (b : Bool). pick f (below n) ++ cond b (n ∷ []) []) t

  pub pick-skip : f n ≡ false → pick f (below (n + 1)) ≡ pick f (below n)
  pick-skip t = next ∙ ap (λ (b : Bool). pick f (below n) ++ cond b (n ∷ []) []) t ∙ append-nil (pick f (below n))

pub tabulate-more : (f : ℕ → ℕ) (n : ℕ) → tabulate f 0 (n + 1) ≡ tabulate f 0 n ++ (f n ∷ [])
tabulate-more f n = ap (tabulate f 0) (add-one n) ∙ tabulate-suc f 0 n ∙ ap (λ (k : ℕ). tabulate f 0 n ++ (f k ∷ [])) (zero-add n)

-- the next value of a function, stored
pub front-tabulate :
    (f : ℕ → ℕ) {n v : ℕ} {d after : List ℕ} → Front (tabulate f 0 n) d n after → n < length d → v ≡ f n →
    Front (tabulate f 0 (n + 1)) d (n + 1) (set after n v)
front-tabulate f {n} {v} {d} {after} g h e =
    subst (λ (xs : List ℕ). Front xs d (n + 1) (set after n v))
    (ap (λ (x : ℕ). tabulate f 0 n ++ (x ∷ [])) e ∙ sym (tabulate-more f n)) (front-more v g h)

-- the next number stored, if it passes a test, and not otherwise
module _ (f : ℕ → Bool) {n k : ℕ} {d after : List ℕ} (g : Front (pick f (below n)) d k after) where
  pub front-pick : f n ≡ true → k < length d → Front (pick f (below (n + 1))) d (k + 1) (set after k n)
  front-pick t h = subst (λ (xs : List ℕ). Front xs d (k + 1) (set after k n)) (sym (pick_more f n t)) (front-more n g h)

  pub front-skip : f n ≡ false → Front (pick f (below (n + 1))) d k after
  front-skip t = subst (λ (xs : List ℕ). Front xs d k after) (sym (pick-skip f n t)) g

pub front-pick-none : (f : ℕ → Bool) (d : List ℕ) → Front (pick f (below 0)) d 0 d
unfolding below
front-pick-none f d = front-none d
