-- Laws of lists: one that is overwritten from a place on, element by element, and two that are compared so.
use Rattle.std.specs.Prelude.{◌≡◌, refl, Bool, ◌&&◌, List, [], ◌∷◌, ◌++◌, ℕ, ◌+◌, ◌<◌, eqb, length, get_or, set, take, drop}
use Rattle.std.proofs.Common.{ap, ◌∙◌, append_assoc, add-one, arith, take_all}
use lib.Pointwise.{pointwise}
use Rattle.std.proofs.Math.Seq.{paste, paste-suc}
use Rattle.rules.specs.Lists.{same}

-- ---- d, in which the first j elements of s stand from the place k on

-- one element more
pub paste_more : (d : List ℕ) (k : ℕ) (s : List ℕ) (j p v : ℕ) → p ≡ k + j → p < length d → j < length s → v ≡ get_or s j 0
    → set (paste d k s j) p v ≡ paste d k s (j + 1)
paste_more d k s j p v here within l e = rw (here, e, add-one) (paste-suc d k s j 0 (omega arith) l)

-- all of them
pub paste-whole : (d : List ℕ) (k : ℕ) (s : List ℕ) (n : ℕ) → length s ≡ n → paste d k s n ≡ take k d ++ (s ++ drop (k + n) d)
paste-whole d k s n e =
    ap (λ (t : List ℕ). take k d ++ t ++ drop (k + n) d) (take_all n s (omega arith))
    ∙ append_assoc (take k d) s (drop (k + n) d)

-- ---- Lists compared

-- the library compares as the definition does
pub same-pointwise : (xs ys : List ℕ) → pointwise eqb xs ys ≡ same xs ys
same-pointwise [] [] = refl
same-pointwise [] (y ∷ ys) = refl
same-pointwise (x ∷ xs) [] = refl
same-pointwise (x ∷ xs) (y ∷ ys) = ap (λ (t : Bool). eqb x y && t) (same-pointwise xs ys)
