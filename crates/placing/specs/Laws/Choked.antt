-- A chain without liberty never gets one back while stones are only added: all points beside it are stones, and those of its colour are
-- in it. So once a stone is choked in part of a placement, the whole placement is refused.
use Rattle.std.specs.Prelude.{◌≡◌, refl, true, false, ◌&&◌, ◌≢◌, ℕ, length}
use Rattle.std.proofs.Common.{sym, ap, ◌∙◌, subst, ⊎_elim, arith, eqb-true, eq-eqb, ne_eqb}
use Rattle.std.proofs.Math.Bool.{not}
use mathlib.Core.List.{List, Memᴰ}
use Rattle.std.proofs.Math.Dec.{eqb}
use Rattle.std.proofs.lemmas.Bool.{eqb-false, not-true}
use Rattle.rules.specs.Lists.{below}
use Rattle.rules.specs.Colours.{empty, at}
use Rattle.rules.specs.Points.{area, neighbours}
use Rattle.rules.specs.Reach.{Walk, Reaches}
use Rattle.rules.specs.Chain.{liberties}
use Rattle.rules.specs.Calls.{choked}
use Rattle.rules.proofs.Laws.Lists.{and_left, and_right, and_both, not_yes, any-yes, any_some, mem_below, equal_or_not}
use Rattle.rules.proofs.Laws.Colours.{at-within}
use Rattle.rules.proofs.Laws.Reach.{walk-old}
use Rattle.rules.proofs.Laws.Chain.{liberties-reaches}
use Rattle.placing.specs.Placing.{Stuck}

-- every stone of the one stands in the other
abbrev pub Grows : List ℕ → List ℕ → Type 0
Grows cols more = (q : ℕ) → at cols q ≢ empty → at more q ≡ at cols q

module _ (h w : ℕ) (cols more : List ℕ) (grows : Grows cols more) where
  -- what is empty later was empty before
  empty-before : (q : ℕ) → at more q ≡ empty → at cols q ≡ empty
  empty-before q e = ⊎_elim (λ z. z) (λ n. absurd (n (sym (grows q n) ∙ e))) (equal_or_not (at cols q) empty)

  shut-grows : (p : ℕ) → at cols p ≢ empty → ¬ Reaches (neighbours h w) (at cols) p empty → ¬ Reaches (neighbours h w) (at more) p empty
  shut-grows p stone shut r =
      shut (record {
        apart = stone;
        last = r.last;
        walk = walk-old refl same (subst (λ (c : ℕ). Walk (neighbours h w) (at more) c p r.last) (grows p stone) r.walk);
        target = r.target;
        next = r.next;
        there = empty-before r.target r.there;
      })
    where
      -- a point beside the chain is a stone, or the chain had a liberty
      same :
          (x y : ℕ) → Walk (neighbours h w) (at cols) (at cols p) p x → Memᴰ y (neighbours h w x) → at more y ≡ at cols p →
          at cols y ≡ at cols p
      same x y v m e =
          ⊎_elim
          (λ z. absurd (shut (record { apart = stone; last = x; walk = v; target = y; next = m; there = z })))
          (λ n. sym (grows y n) ∙ e)
          (equal_or_not (at cols y) empty)

  pub stuck-grows : Stuck h w cols → Stuck h w more
  stuck-grows s =
      record {
        point = s.point;
        stone = λ z. s.stone (empty-before s.point z);
        shut = shut-grows s.point s.stone s.shut;
      }

module _ (h w : ℕ) (cols : List ℕ) (whole : length cols ≡ area h w) where
  pub stuck-choked : Stuck h w cols → choked h w cols ≡ true
  unfolding choked
  stuck-choked s =
      any-yes (λ p. not (eqb (at cols p) empty) && eqb (liberties h w cols p) 0)
      (mem_below (area h w) s.point (rw whole at (at-within cols s.point s.stone)))
      (and_both (ap not (ne_eqb (at cols s.point) empty s.stone))
      (eq-eqb (liberties h w cols s.point) 0
      (⊎_elim (λ z. z) (λ n. absurd (s.shut ((liberties-reaches h w cols s.point s.stone).0 (omega arith))))
      (equal_or_not (liberties h w cols s.point) 0))))

pub free-choked :
    (h w : ℕ) (cols : List ℕ) → ((p : ℕ) → at cols p ≢ empty → Reaches (neighbours h w) (at cols) p empty) → choked h w cols ≡ false
unfolding choked
free-choked h w cols breathes =
    not_yes
    (λ y.
    let (p, m, both) = any_some (λ p. not (eqb (at cols p) empty) && eqb (liberties h w cols p) 0) (below (area h w)) y in
    let stone = eqb-false (at cols p) empty (not-true (eqb (at cols p) empty) (and_left _ _ both)) in
    let nought = eqb-true (liberties h w cols p) 0 (and_right (not (eqb (at cols p) empty)) _ both) in
    let some-liberty = (liberties-reaches h w cols p stone).1 (breathes p stone) in
    omega arith)
