-- Laws of tests over a list: by its places, up to some number of them.
use Rattle.std.specs.Prelude.{◌≡◌, refl, Bool, true, false, ◌||◌, List, [], ◌∷◌, ℕ, zero, suc, ◌<◌, length, get_or, take}
use Rattle.std.proofs.Common.{ap₂, zero-le, suc-le-suc, not-suc-le-zero, le_of_suc-le-suc}
use Rattle.rules.specs.Lists.{any}
use Rattle.rules.proofs.Laws.Lists.{or_left, or_right}

module _ (f : ℕ → Bool) where
  pub any_found : (l : List ℕ) (n i : ℕ) → i < n → i < length l → f (get_or l i 0) ≡ true → any f (take n l) ≡ true
  any_found [] n i h k t = absurd (not-suc-le-zero k)
  any_found (x ∷ l) zero i h k t = absurd (not-suc-le-zero h)
  any_found (x ∷ l) (suc n) zero h k t = or_left (any f (take n l)) t
  any_found (x ∷ l) (suc n) (suc i) h k t = or_right (f x) (any_found l n i (le_of_suc-le-suc h) (le_of_suc-le-suc k) t)

  pub any-missed : (l : List ℕ) (n : ℕ) → ((k : ℕ) → k < n → f (get_or l k 0) ≡ false) → any f (take n l) ≡ false
  any-missed [] zero h = refl
  any-missed [] (suc n) h = refl
  any-missed (x ∷ l) zero h = refl
  any-missed (x ∷ l) (suc n) h =
      ap₂ ◌||◌ (h 0 (suc-le-suc zero-le)) (any-missed l n (λ k b. h (suc k) (suc-le-suc b)))
