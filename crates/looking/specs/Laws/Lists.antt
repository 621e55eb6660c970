-- A law of lists: a map that goes one element further.
use Rattle.std.specs.Prelude.{◌≡◌, List, [], ◌∷◌, ◌++◌, map, ℕ, ◌+◌, ◌<◌, length, get_or, take}
use Rattle.std.proofs.Common.{add-one, take-suc}
use Rattle.std.proofs.lemmas.List.{map-append}

module _ {A : Type 0} {B : Type 0} where
  pub map_more :
      (f : A → B) (xs : List A) (d : A) (i : ℕ) → i < length xs → map f (take (i + 1) xs) ≡ map f (take i xs) ++ (f (get_or xs i d) ∷ [])
  map_more f xs d i h = rw (add-one, take-suc xs i d) (map-append f (take i xs) (get_or xs i d ∷ []))
