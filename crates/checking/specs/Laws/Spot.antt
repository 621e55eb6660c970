-- Laws of Spot: what each spot says of the row and the column.
use Rattle.std.specs.Prelude.{Bool, ◌&&◌, ◌||◌, List, ◌≢◌, ℕ, ◌<◌, eqb, ltb, leb}
use Rattle.std.proofs.Math.Bool.{true, false, cond, not}
use Rattle.std.proofs.Math.Path.{◌≡◌, refl, ap, ap₂, subst}
use Rattle.std.proofs.Common.{sym, ◌∙◌, arith, eqb-true, eq-eqb, ne_eqb, leb-false}
use Rattle.std.proofs.lemmas.Bool.{lt-leb}
use Rattle.rules.specs.Points.{area, index, row, column}
use Rattle.rules.specs.Colours as colours
use Rattle.rules.specs.Colours.{at}
use Rattle.rules.specs.Calls.{outside}
use Rattle.rules.proofs.Laws.Lists.{or-none-left, or-none-right}
use Rattle.rules.proofs.Laws.Points.{index_on, index-row-column, row_on, column-on}
use Rattle.rules.proofs.Laws.Calls.{off-not-on}
use Rattle.checking.specs.declared.spot.Spot.TheVariants.{Off, Stone, Empty}
use Rattle.checking.specs.Spot.{spot_of}

module _ (h w : ℕ) (cols : List ℕ) (r c : ℕ) where
  -- ---- By the tests

  by_tests : (off free : Bool) → outside h w r c ≡ off → eqb (at cols (index w r c)) colours.empty ≡ free
      → spot_of h w cols r c ≡ cond off Off (cond free (Empty (index w r c)) Stone)
  unfolding spot_of
  by_tests off free o f = ap₂ (λ (x y : Bool). cond x Off (cond y (Empty (index w r c)) Stone)) o f

  module _ (valid : Bool) (tested : valid ≡ ltb r h && ltb c w) where
    tested-off : outside h w r c ≡ not valid
    unfolding outside
    tested-off = off-not-on h w r c ∙ ap not (sym tested)

    pub spot-off : not valid ≡ true → Off ≡ spot_of h w cols r c
    spot-off e = sym (by_tests true _ (tested-off ∙ e) refl)

    module _ (inside : not valid ≡ false) (p : ℕ) (here : p ≡ index w r c) where
      pub spot-empty : at cols p ≡ colours.empty → Empty p ≡ spot_of h w cols r c
      spot-empty e =
          ap Empty here ∙ sym (by_tests false true (tested-off ∙ inside) (eq-eqb _ colours.empty (ap (at cols) (sym here) ∙ e)))

      pub spot-stone : at cols p ≢ colours.empty → Stone ≡ spot_of h w cols r c
      spot-stone n = sym (by_tests false false (tested-off ∙ inside) (ne_eqb _ colours.empty (λ e. n (ap (at cols) here ∙ e))))

  -- ---- What a spot says

  pub record Free (p : ℕ) : Type 0 where
    pub on : outside h w r c ≡ false
    pub here : p ≡ index w r c
    pub vacant : eqb (at cols (index w r c)) colours.empty ≡ true

  pub off-outside : spot_of h w cols r c ≡ Off → outside h w r c ≡ true
  unfolding spot_of
  off-outside = go (outside h w r c) (eqb (at cols (index w r c)) colours.empty)
    where
      go : (off free : Bool) → cond off Off (cond free (Empty (index w r c)) Stone) ≡ Off → off ≡ true
      go true free e = refl
      go false true e = let z : ◌≡◌ {A = ℕ} 0 1 = cc in absurd (omega arith)
      go false false e = let z : ◌≡◌ {A = ℕ} 0 1 = cc in absurd (omega arith)

  pub stone-taken : spot_of h w cols r c ≡ Stone → (outside h w r c ≡ false) × (eqb (at cols (index w r c)) colours.empty ≡ false)
  unfolding spot_of
  stone-taken = go (outside h w r c) (eqb (at cols (index w r c)) colours.empty)
    where
      go : (off free : Bool) → cond off Off (cond free (Empty (index w r c)) Stone) ≡ Stone → (off ≡ false) × (free ≡ false)
      go true free e = let z : ◌≡◌ {A = ℕ} 0 1 = cc in absurd (omega arith)
      go false true e = let z : ◌≡◌ {A = ℕ} 0 1 = cc in absurd (omega arith)
      go false false e = (refl, refl)

  pub empty-free : (p : ℕ) → spot_of h w cols r c ≡ Empty p → Free p
  unfolding spot_of
  empty-free p s = let (o, e, f) = go (outside h w r c) (eqb (at cols (index w r c)) colours.empty) s in record { on = o; here = e; vacant = f }
    where
      go : (off free : Bool) → cond off Off (cond free (Empty (index w r c)) Stone) ≡ Empty p → (off ≡ false) × (p ≡ index w r c) × (free ≡ true)
      go true free e = let z : ◌≡◌ {A = ℕ} 0 1 = cc in absurd (omega arith)
      go false true e = let same : p ≡ index w r c = cc in (refl, same, refl)
      go false false e = let z : ◌≡◌ {A = ℕ} 0 1 = cc in absurd (omega arith)

  pub free_on : (p : ℕ) → Free p → p < area h w
  unfolding outside
  free_on p f =
      subst (λ (k : ℕ). k < area h w) (sym f.here)
      (index_on (leb-false h r (or-none-left (leb h r) (leb w c) f.on)) (leb-false w c (or-none-right (leb h r) (leb w c) f.on)))

  pub free-empty : (p : ℕ) → Free p → at cols p ≡ colours.empty
  free-empty p f = ap (at cols) f.here ∙ eqb-true _ colours.empty f.vacant

-- only the colour of the point is asked
pub spot-same : (h w : ℕ) (cs cols : List ℕ) (r c : ℕ) → at cs (index w r c) ≡ at cols (index w r c) → spot_of h w cs r c ≡ spot_of h w cols r c
unfolding spot_of
spot-same h w cs cols r c e = ap (λ (x : ℕ). cond (outside h w r c) Off (cond (eqb x colours.empty) (Empty (index w r c)) Stone)) e

-- the row and the column of a point lead to the point
pub spot-of : (h w : ℕ) (cols : List ℕ) (p : ℕ) → p < area h w
    → spot_of h w cols (row w p) (column w p) ≡ cond (eqb (at cols p) colours.empty) (Empty p) Stone
unfolding outside
spot-of h w cols p on =
    by_tests h w cols (row w p) (column w p) false (eqb (at cols (index w (row w p) (column w p))) colours.empty)
    (ap₂ ◌||◌ (lt-leb h (row w p) (row_on h w p on)) (lt-leb w (column w p) (column-on h w p on))) refl
    ∙ ap (λ (q : ℕ). cond (eqb (at cols q) colours.empty) (Empty q) Stone) (index-row-column w p)
