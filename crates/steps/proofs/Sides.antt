-- What is present among the sides that are left, as a loop goes over them: the first of them, if it is there, and the others.
use Rattle.std.proofs.Common.{◌≡◌, ℕ, ◌+◌, ◌<◌, List, ◌∷◌, length, drop, refl, add-one, drop-cons}
use Rattle.std.specs.Prelude.{Option, None, Some, get_or}
use Rattle.rules.specs.Lists.{present}

module _ (os : List (Option ℕ)) (k : ℕ) (d : Option ℕ) (on : k < length os) where
  pub next-none : get_or os k d ≡ None → present (drop k os) ≡ present (drop (k + 1) os)
  next-none e = rw (add-one, drop-cons os k d, e) refl

  pub next-some : (q : ℕ) → get_or os k d ≡ Some q → present (drop k os) ≡ q ∷ present (drop (k + 1) os)
  next-some q e = rw (add-one, drop-cons os k d, e) refl
