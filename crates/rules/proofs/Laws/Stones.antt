-- Laws of counting stones: a stone put on an empty point is one more of its colour, and what clearing takes is what is missing after it.
use Rattle.std.specs.Prelude.{◌≡◌, refl, Bool, true, false, cond, ◌&&◌, ◌||◌, List, ◌≢◌, ◌⊎◌, ℕ, zero, suc, ◌+◌, ◌≤◌, ◌<◌, eqb, length, get_or, set, replicate}
use Rattle.std.proofs.Common.{sym, ap, ap₂, ◌∙◌, ⊎_elim, length-set, ext_get_or, eqb-true, eq-eqb, ne_eqb}
use Rattle.rules.specs.Lists.{tabulate, count, below}
use Rattle.rules.specs.Points.{area}
use Rattle.rules.specs.Colours.{empty, at}
use Rattle.rules.specs.Move.{removed}
use Rattle.rules.specs.Game.{stones}
use Rattle.rules.specs.Calls.{one_if}
use Rattle.rules.proofs.Laws.Lists.{and_left, and_right, and_both, or_cases, or_left, or_right, not-both, not_yes, decided, equal_or_not, same_answer, length-tabulate, get_or-tabulate-zero, get_d_set, mem_below}
use Rattle.rules.proofs.Laws.Counting.{below-distinct, length-pick, count_same, count-or, count_none, count-equal, count_most}

-- a list is what stands at its places
pub count-tabulate : {A : Type 0} (f : A → Bool) (g : ℕ → A) (i n : ℕ) → count f (tabulate g i n) ≡ count (λ k. f (g k)) (tabulate (λ k. k) i n)
count-tabulate f g i zero = refl
count-tabulate f g i (suc n) = ap (λ (m : ℕ). cond (f (g i)) 1 0 + m) (count-tabulate f g (suc i) n)

tabulate-get_or : {A : Type 0} (d : A) (l : List A) → l ≡ tabulate (λ i. get_or l i d) 0 (length l)
tabulate-get_or d l =
    ext_get_or d l (tabulate (λ i. get_or l i d) 0 (length l)) (sym (length-tabulate (λ i. get_or l i d) 0 (length l)))
    (λ i h. sym (get_or-tabulate-zero (λ j. get_or l j d) (length l) i d h))

pub stones-places : (cols : List ℕ) (c : ℕ) → stones cols c ≡ count (λ p. eqb c (at cols p)) (below (length cols))
unfolding stones at below
stones-places cols c = ap (count (eqb c)) (tabulate-get_or empty cols) ∙ count-tabulate (eqb c) (λ i. get_or cols i empty) 0 (length cols)

pub stones-most : (cols : List ℕ) (c : ℕ) → stones cols c ≤ length cols
unfolding stones
stones-most cols c = count_most (eqb c) cols

-- one more stone
pub stones-put : (cols : List ℕ) (p own c : ℕ) → p < length cols → at cols p ≡ empty → c ≢ empty → stones (set cols p own) c ≡ stones cols c + one_if own c
unfolding at one_if
stones-put cols p own c on vacant stone =
    stones-places (set cols p own) c
    ∙ ap (λ (n : ℕ). count (λ q. eqb c (at (set cols p own) q)) (below n)) (length-set cols p own)
    ∙ count_same (λ q. eqb c (at (set cols p own) q)) (λ q. eqb c (at cols q) || (eqb q p && eqb own c)) places (λ q m. each q)
    ∙ count-or (λ q. eqb c (at cols q)) (λ q. eqb q p && eqb own c) places
    (λ q m y. not_yes (λ z. stone (eqb-true c (at cols q) y ∙ ap (at cols) (eqb-true q p (and_left _ _ z)) ∙ vacant)))
    ∙ ap₂ (λ (m n : ℕ). m + n) (sym (stones-places cols c)) here
  where
    places : List ℕ
    places = below (length cols)

    at_set : (q : ℕ) → at (set cols p own) q ≡ cond (eqb q p) own (at cols q)
    at_set q = get_d_set cols p own q empty on

    each : (q : ℕ) → eqb c (at (set cols p own) q) ≡ (eqb c (at cols q) || (eqb q p && eqb own c))
    each q =
        ⊎_elim
        (λ e.
        same_answer
        (λ y. or_right (eqb c (at cols q)) (and_both (eq-eqb q p e) (eq-eqb own c (sym (eqb-true c (at (set cols p own) q) y ∙ at_set q ∙ ap (λ (t : Bool). cond t own (at cols q)) (eq-eqb q p e))))))
        (λ y.
        ⊎_elim
        (λ z. absurd (stone (eqb-true c (at cols q) z ∙ ap (at cols) e ∙ vacant)))
        (λ z. eq-eqb c (at (set cols p own) q) (sym (at_set q ∙ ap (λ (t : Bool). cond t own (at cols q)) (eq-eqb q p e) ∙ eqb-true own c (and_right (eqb q p) (eqb own c) z))))
        (or_cases (eqb c (at cols q)) (eqb q p && eqb own c) y)))
        (λ n.
        same_answer
        (λ y. or_left (eqb q p && eqb own c) (eq-eqb c (at cols q) (eqb-true c (at (set cols p own) q) y ∙ at_set q ∙ ap (λ (t : Bool). cond t own (at cols q)) (ne_eqb q p n))))
        (λ y.
        ⊎_elim
        (λ z. eq-eqb c (at (set cols p own) q) (eqb-true c (at cols q) z ∙ sym (at_set q ∙ ap (λ (t : Bool). cond t own (at cols q)) (ne_eqb q p n))))
        (λ z. absurd (n (eqb-true q p (and_left (eqb q p) (eqb own c) z))))
        (or_cases (eqb c (at cols q)) (eqb q p && eqb own c) y)))
        (equal_or_not q p)

    here : count (λ q. eqb q p && eqb own c) places ≡ one_if own c
    here =
        ⊎_elim
        (λ (y : eqb own c ≡ true).
        count_same (λ q. eqb q p && eqb own c) (λ q. eqb q p) places (λ q m. same_answer (λ z. and_left _ _ z) (λ z. and_both z y))
        ∙ count-equal p places (below-distinct (length cols)) (mem_below (length cols) p on)
        ∙ sym (ap (λ (t : Bool). cond t 1 0) y))
        (λ (n : eqb own c ≡ false).
        count_none (λ q. eqb q p && eqb own c) places (λ q m. not_yes (λ z. not-both (and_right (eqb q p) _ z) n)) ∙ sym (ap (λ (t : Bool). cond t 1 0) n))
        (decided (eqb own c))

-- what is missing was removed
pub stones-removed :
    (h w c : ℕ) (before after : List ℕ) → length before ≡ area h w → length after ≡ area h w → c ≢ empty →
    ((p : ℕ) → (at after p ≡ at before p) ⊎ (at after p ≡ empty)) →
    stones before c ≡ stones after c + length (removed h w c before after)
unfolding removed
stones-removed h w c before after whole whole' stone each =
    stones-places before c
    ∙ ap (λ (n : ℕ). count (λ q. eqb c (at before q)) (below n)) whole
    ∙ count_same (λ q. eqb c (at before q)) (λ q. eqb c (at after q) || (eqb (at before q) c && eqb (at after q) empty)) (below (area h w)) (λ q m. split q)
    ∙ count-or (λ q. eqb c (at after q)) (λ q. eqb (at before q) c && eqb (at after q) empty) (below (area h w))
    (λ q m y. not_yes (λ z. stone (eqb-true c (at after q) y ∙ eqb-true (at after q) empty (and_right (eqb (at before q) c) _ z))))
    ∙ ap₂ (λ (m n : ℕ). m + n)
    (ap (λ (n : ℕ). count (λ q. eqb c (at after q)) (below n)) (sym whole') ∙ sym (stones-places after c))
    (sym (length-pick (λ q. eqb (at before q) c && eqb (at after q) empty) (below (area h w))))
  where
    split : (q : ℕ) → eqb c (at before q) ≡ (eqb c (at after q) || (eqb (at before q) c && eqb (at after q) empty))
    split q =
        same_answer
        (λ y.
        let e = eqb-true c (at before q) y in
        ⊎_elim (λ k. or_left (eqb (at before q) c && eqb (at after q) empty) (eq-eqb c (at after q) (e ∙ sym k))) (λ k. or_right (eqb c (at after q)) (and_both (eq-eqb (at before q) c (sym e)) (eq-eqb (at after q) empty k))) (each q))
        (λ y.
        ⊎_elim
        (λ z.
        let e = eqb-true c (at after q) z in
        ⊎_elim (λ k. eq-eqb c (at before q) (e ∙ k)) (λ k. absurd (stone (e ∙ k))) (each q))
        (λ z. eq-eqb c (at before q) (sym (eqb-true (at before q) c (and_left (eqb (at before q) c) (eqb (at after q) empty) z))))
        (or_cases (eqb c (at after q)) (eqb (at before q) c && eqb (at after q) empty) y))

pub stones-none : (n c : ℕ) → c ≢ empty → stones (replicate n empty) c ≡ 0
unfolding stones
stones-none zero c stone = refl
stones-none (suc n) c stone = let ih = stones-none n c stone in rw (ne_eqb c empty stone, ih)
