-- What the rules do with lists: number points, ask of some or all, count, pick, compare. Nothing here is about Go.
use Rattle.std.specs.Prelude.{Bool, true, false, cond, ◌&&◌, ◌||◌, ℕ, zero, suc, ◌+◌, eqb, Option, None, Some}
use mathlib.Core.List.{List, [], ◌∷◌, Memᴰ}
-- some pass the test, all do, and those that do, in order: the library's own words
pub use Rattle.std.specs.List.{list_any as any, list_all as all, filter as pick}
use Rattle.std.specs.List.{filter_map}

-- how many pass the test
abbrev pub count : {A : Type 0} → (A → Bool) → List A → ℕ
count f [] = 0
count f (x ∷ xs) = cond (f x) 1 0 + count f xs

module _ {A : Type 0} where
  -- f at the n numbers from i on
  abbrev pub tabulate : (ℕ → A) → ℕ → ℕ → List A
  tabulate f i zero = []
  tabulate f i (suc n) = f i ∷ tabulate f (suc i) n

  -- those that are there
  abbrev pub present : List (Option A) → List A
  present os = filter_map (λ o. o) os

  -- no element stands there twice
  abbrev pub Distinct : List A → Type 0
  Distinct [] = Unit
  Distinct (x ∷ xs) = ¬ Memᴰ x xs × Distinct xs

-- 0, 1, .. below n
unfoldable pub below : ℕ → List ℕ
below n = tabulate (λ i. i) 0 n

-- two lists of numbers are equal
abbrev pub same : List ℕ → List ℕ → Bool
same [] [] = true
same [] (y ∷ ys) = false
same (x ∷ xs) [] = false
same (x ∷ xs) (y ∷ ys) = eqb x y && same xs ys

-- p stands in the list
unfoldable pub has : List ℕ → ℕ → Bool
has ps p = any (eqb p) ps
