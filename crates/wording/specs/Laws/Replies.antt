-- Laws of the replies: one point more.
use Rattle.std.specs.Prelude.{◌≡◌, refl, Bool, List, [], ◌∷◌, ◌++◌, ℕ, zero, suc, ◌+◌, ◌<◌, ◌≤◌, length, get_or, take}
use Rattle.std.proofs.Common.{sym, ap, ap₂, ◌∙◌, append_assoc, append-nil, add-one, arith}
use Rattle.std.proofs.lemmas.List.{get_or-take, length-take-le}
use Rattle.rules.specs.Colours.{at, empty}
use Rattle.writing.specs.Figures.{decimal, spaced}
use Rattle.writing.specs.Laws.Figures.{taken}
use Rattle.wording.specs.Replies.{starts_row, point, rows_upto, each}

each_append : (xs ys : List ℕ) → each (xs ++ ys) ≡ each xs ++ each ys
each_append [] ys = refl
each_append (x ∷ xs) ys = ap (λ (l : List ℕ). spaced (decimal x) ++ l) (each_append xs ys) ∙ sym (append_assoc (spaced (decimal x)) (each xs) (each ys))

-- one point more, behind the others
pub each_more : (was points : List ℕ) (i n : ℕ) → i < length points → n ≡ get_or points i 0 → (was ++ each (take i points)) ++ spaced (decimal n) ≡ was ++ each (take (i + 1) points)
each_more was points i n l e =
    append_assoc was (each (take i points)) (spaced (decimal n))
    ∙ ap (λ (t : List ℕ). was ++ t)
    (ap (λ (k : ℕ). each (take i points) ++ spaced (decimal k)) e
    ∙ ap (λ (t : List ℕ). each (take i points) ++ t) (sym (append-nil (spaced (decimal (get_or points i 0)))))
    ∙ sym (ap each (taken points i l) ∙ each_append (take i points) (get_or points i 0 ∷ [])))

pub rows_more : (was : List ℕ) (w : ℕ) (cols : List ℕ) (p : ℕ) (starts : Bool) (c : ℕ) → starts ≡ starts_row w p → c ≡ at cols p
    → (was ++ rows_upto w cols p) ++ point starts c ≡ was ++ rows_upto w cols (p + 1)
rows_more was w cols p starts c e f =
    append_assoc was (rows_upto w cols p) (point starts c)
    ∙ ap (λ (t : List ℕ). was ++ t)
    (ap₂ (λ (t : Bool) (d : ℕ). rows_upto w cols p ++ point t d) e f ∙ ap (rows_upto w cols) (sym (add-one p)))

-- the first points of a longer list
rows-front : (w : ℕ) (cols : List ℕ) (n p : ℕ) → p ≤ n → rows_upto w (take n cols) p ≡ rows_upto w cols p
unfolding at
rows-front w cols n zero l = refl
rows-front w cols n (suc p) l =
    ap₂ (λ (t : List ℕ) (c : ℕ). t ++ point (starts_row w p) c) (rows-front w cols n p (omega arith)) (get_or-take n cols p empty (omega arith))

pub rows-taken : (w : ℕ) (cols : List ℕ) (n : ℕ) → n ≤ length cols → rows_upto w (take n cols) (length (take n cols)) ≡ rows_upto w cols n
rows-taken w cols n l = ap (rows_upto w (take n cols)) (length-take-le n cols l) ∙ rows-front w cols n n (omega arith)
