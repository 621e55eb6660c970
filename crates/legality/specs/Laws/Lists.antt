-- Laws of lists: asking along a map or a table, and a map of what is there.
use Rattle.std.specs.Prelude.{◌≡◌, refl, Bool, true, false, not, ◌&&◌, ◌||◌, List, [], ◌∷◌, map, ℕ, zero, suc, ◌+◌, ◌<◌, length, get_or, Option, None, Some}
use Rattle.std.proofs.Common.{ap, ap₂, ◌∙◌, subst, arith}
use Rattle.std.specs.Option.{option_map}
use Rattle.rules.specs.Lists.{tabulate, any, present}
use Rattle.rules.proofs.Laws.Lists.{any-yes, mem-tabulate}
use Rattle.rules.proofs.Laws.Places.{tabulate-shift}

pub not-or : (a b : Bool) → not (a || b) ≡ not a && not b
not-or true b = refl
not-or false b = refl

module _ {A : Type 0} {B : Type 0} where
  pub any-map : (f : B → Bool) (g : A → B) (xs : List A) → any f (map g xs) ≡ any (λ x. f (g x)) xs
  any-map f g [] = refl
  any-map f g (x ∷ xs) = ap (λ (t : Bool). f (g x) || t) (any-map f g xs)

  pub present-map : (g : A → B) (os : List (Option A)) → present (map (option_map g) os) ≡ map g (present os)
  present-map g [] = refl
  present-map g (None ∷ os) = present-map g os
  present-map g (Some x ∷ os) = ap (λ (l : List B). g x ∷ l) (present-map g os)

-- ---- Tables

module _ {A : Type 0} where
  pub any-tabulate-some : (f : A → Bool) (g : ℕ → A) (n k : ℕ) → k < n → f (g k) ≡ true → any f (tabulate g 0 n) ≡ true
  any-tabulate-some f g n k h e =
      any-yes f (mem-tabulate g 0 n k h) (subst (λ (j : ℕ). f (g j) ≡ true) (omega arith) e)

  pub any-tabulate-none : (f : A → Bool) (g : ℕ → A) (n : ℕ) → ((k : ℕ) → k < n → f (g k) ≡ false) → any f (tabulate g 0 n) ≡ false
  any-tabulate-none f g n h = go 0 n (λ k l. subst (λ (j : ℕ). f (g j) ≡ false) (omega arith) (h k l))
    where
      go : (i n : ℕ) → ((k : ℕ) → k < n → f (g (i + k)) ≡ false) → any f (tabulate g i n) ≡ false
      go i zero h = refl
      go i (suc n) h =
          ap₂ ◌||◌ (subst (λ (j : ℕ). f (g j) ≡ false) (omega arith) (h 0 (omega arith)))
          (go (suc i) n (λ k l. subst (λ (j : ℕ). f (g j) ≡ false) (omega arith) (h (suc k) (omega arith))))

  -- a list is the table of its places
  pub tabulate-places : (f : ℕ → A) (xs : List ℕ) → tabulate (λ k. f (get_or xs k 0)) 0 (length xs) ≡ map f xs
  tabulate-places f [] = refl
  tabulate-places f (x ∷ xs) =
      ap (λ (r : List A). f x ∷ r) (tabulate-shift (λ k. f (get_or (x ∷ xs) k 0)) 0 (length xs) ∙ tabulate-places f xs)
