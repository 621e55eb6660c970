-- A table in which each entry gives the next is the list that the rule makes: one test, that antt computes over the whole table.
-- Assumes nothing.
use mathlib.Core.Path.{◌≡◌, refl, ap₂}
use mathlib.Core.Bool.{Bool, true, false, ◌&&◌}
use mathlib.Core.List.{List, [], ◌∷◌}
use Prim.Native.Nat.{ℕ, suc}
use lib.Dec.{T, eqb, eqb→eq}
use lib.ListN.{length}
use Rattle.rules.specs.Lists.{tabulate}

and_left : (a b : Bool) → T (a && b) → T a
and_left true b t = tt
and_left false b t = t

and_right : (a b : Bool) → T (a && b) → T b
and_right true b t = t
and_right false b t = absurd t

-- the first entry is e, and each gives the next
abbrev pub follows : (ℕ → ℕ) → ℕ → List ℕ → Bool
follows next e [] = true
follows next e (x ∷ xs) = eqb x e && follows next (next x) xs

module _ (next entry : ℕ → ℕ) (rule : (k : ℕ) → entry (suc k) ≡ next (entry k)) where
  pub follows-tabulate : (xs : List ℕ) (i : ℕ) → T (follows next (entry i) xs) → xs ≡ tabulate entry i (length xs)
  follows-tabulate [] i t = refl
  follows-tabulate (x ∷ xs) i t =
      let first : x ≡ entry i = eqb→eq x (entry i) (and_left (eqb x (entry i)) (follows next (next x) xs) t) in
      let after : T (follows next (entry (suc i)) xs) =
      rw (rule i, ← first) (and_right (eqb x (entry i)) (follows next (next x) xs) t) in
      ap₂ ◌∷◌ first (follows-tabulate xs (suc i) after)
