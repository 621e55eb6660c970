-- Laws of Points: an index and its row and column, and that `neighbours` lists exactly the points that are Adjacent. Every
-- direction is one case of `towards-step`, which says where a step along rows and columns ends.
use Rattle.std.specs.Prelude.{◌≡◌, refl, ◌⊎◌, ◌↔◌, ℕ, zero, suc, ◌+◌, ◌-◌, ◌*◌, ◌≤◌, ◌<◌, ltb, length, Option, None, Some}
use Rattle.std.proofs.Common.{sym, ap, ap₂, ◌∙◌, subst, mul-zero, not-suc-le-zero, zero-lt-suc, mod-lt, div-add-mod', div-lt_iff_lt-mul, ltb-true, lt-ltb}
use mathlib.Core.List.Memᴰ
use mathlib.Core.List.Memᴰ.{head}
use mathlib.Core.List.Memᴰ.{tail}
use mathlib.Core.List.{List, [], ◌∷◌, Memᴰ}
use Rattle.std.proofs.Math.Logic.{inl, inr, ⊎_elim, ⊎_map, ⊎_swap}
use Rattle.std.proofs.lemmas.Option.{same_Some, none-some}
use native.Mathlib.Omega.{arith}
use Rattle.std.proofs.Math.Arith.{digits_lt, digits_div, digits_mod}
use Rattle.rules.specs.Lists.{has, Distinct}
use Rattle.rules.specs.Points.{area, index, row, column, NextTo, Adjacent, Shift, back, stay, forth, shifted, joined, towards, sides, neighbours}
use Rattle.rules.proofs.Laws.Lists.{cond-some, mem-present, present-mem, present-fewer, has-not}
use Rattle.rules.proofs.Laws.Counting.{present-distinct}

-- ---- An index, its row and its column

pub index-row-column : (w p : ℕ) → index w (row w p) (column w p) ≡ p
unfolding index row column
index-row-column w p = div-add-mod' p w

pub row-index : (w r : ℕ) {c : ℕ} → c < w → row w (index w r c) ≡ r
unfolding index row
row-index w r h = digits_div r h

pub column-index : (w r : ℕ) {c : ℕ} → c < w → column w (index w r c) ≡ c
unfolding index column
column-index w r h = digits_mod r h

pub index_on : {h w r c : ℕ} → r < h → c < w → index w r c < area h w
unfolding index area
index_on r c = digits_lt r c

-- a board with a point has a width
pub width_positive : (h w p : ℕ) → p < area h w → 0 < w
unfolding area
width_positive h zero p l = absurd (not-suc-le-zero (rw (mul-zero h) at l))
width_positive h (suc w) p l = zero-lt-suc w

pub row_on : (h w p : ℕ) → p < area h w → row w p < h
unfolding area row
row_on h w p l = (div-lt_iff_lt-mul (width_positive h w p l)).1 l

pub column-on : (h w p : ℕ) → p < area h w → column w p < w
unfolding column
column-on h w p l = mod-lt p (width_positive h w p l)

-- a point is on the board where its row is, if there are columns at all
pub row_within : (h w p : ℕ) → 0 < w → row w p < h → p < area h w
unfolding area row
row_within h w p l r = (div-lt_iff_lt-mul l).0 r

-- two points of one row and one column are one point
pub same_place : (w p q : ℕ) → row w p ≡ row w q → column w p ≡ column w q → p ≡ q
same_place w p q r c = sym (index-row-column w p) ∙ ap₂ (index w) r c ∙ index-row-column w q

-- ---- One step along a row or a column

-- what a step adds, and one more, so that a step back is a number too
unfoldable pub offset : Shift → ℕ
offset back = 0
offset stay = 1
offset forth = 2

unfoldable pub Moved : Shift → ℕ → ℕ → Type 0
Moved d x y = x + offset d ≡ y + 1

pub shifted-moved : (d : Shift) (n x y : ℕ) → x < n → shifted d n x ≡ Some y → Moved d x y × (y < n)
unfolding shifted Moved offset
shifted-moved back n x y l e =
    let (t, s) = cond-some (ltb 0 x) (Some (x - 1)) e in
    let a : 0 < x = ltb-true 0 x t in
    let b : x - 1 ≡ y = same_Some (x - 1) y s in
    (omega arith, omega arith)
shifted-moved stay n x y l e =
    let b : x ≡ y = same_Some x y e in
    (omega arith, omega arith)
shifted-moved forth n x y l e =
    let (t, s) = cond-some (ltb (x + 1) n) (Some (x + 1)) e in
    let a : x + 1 < n = ltb-true (x + 1) n t in
    let b : x + 1 ≡ y = same_Some (x + 1) y s in
    (omega arith, omega arith)

pub moved-shifted : (d : Shift) (n x y : ℕ) → y < n → Moved d x y → shifted d n x ≡ Some y
unfolding shifted Moved offset
moved-shifted back n x y l m =
    let a : 0 < x = omega arith in
    let b : x - 1 ≡ y = omega arith in
    rw (lt-ltb 0 x a, b)
moved-shifted stay n x y l m =
    let b : x ≡ y = omega arith in
    ap {B = Option ℕ} Some b
moved-shifted forth n x y l m =
    let b : x + 1 ≡ y = omega arith in
    rw (b, lt-ltb y n l)

-- ---- One step on the board

-- q lies one step from p, so many rows and columns further, and both are on the board
pub record Step (h w p q : ℕ) (dr dc : Shift) : Type 0 where
  pub from : p < area h w
  pub to : q < area h w
  pub rows : Moved dr (row w p) (row w q)
  pub columns : Moved dc (column w p) (column w q)

joined-some : (w q : ℕ) (r c : Option ℕ) → joined w r c ≡ Some q → (i j : ℕ) × (r ≡ Some i) × (c ≡ Some j) × (index w i j ≡ q)
joined-some w q None c e = absurd (none-some q e)
joined-some w q (Some i) None e = absurd (none-some q e)
joined-some w q (Some i) (Some j) e = (i, j, refl, refl, same_Some (index w i j) q e)

pub towards-step : (h w p q : ℕ) (dr dc : Shift) → towards h w p dr dc ≡ Some q → Step h w p q dr dc
unfolding towards
towards-step h w p q dr dc e =
    let (t, o) = cond-some (ltb p (area h w)) (joined w (shifted dr h (row w p)) (shifted dc w (column w p))) e in
    let l : p < area h w = ltb-true p (area h w) t in
    let (i, j, r, c, s) = joined-some w q (shifted dr h (row w p)) (shifted dc w (column w p)) o in
    let (mr, i<h) = shifted-moved dr h (row w p) i (row_on h w p l) r in
    let (mc, j<w) = shifted-moved dc w (column w p) j (column-on h w p l) c in
    record {
      from = l;
      to = subst (λ (k : ℕ). k < area h w) s (index_on i<h j<w);
      rows = subst (λ (k : ℕ). Moved dr (row w p) k) (sym (row-index w i j<w) ∙ ap (row w) s) mr;
      columns = subst (λ (k : ℕ). Moved dc (column w p) k) (sym (column-index w i j<w) ∙ ap (column w) s) mc;
    }

pub step-towards : (h w p q : ℕ) (dr dc : Shift) → Step h w p q dr dc → towards h w p dr dc ≡ Some q
unfolding towards
step-towards h w p q dr dc s =
    let r = moved-shifted dr h (row w p) (row w q) (row_on h w q s.to) s.rows in
    let c = moved-shifted dc w (column w p) (column w q) (column-on h w q s.to) s.columns in
    rw (lt-ltb p (area h w) s.from, r, c, index-row-column w q)

-- ---- The neighbours

-- `sides` goes these ways
abbrev ways : List (Shift × Shift)
ways = (forth, stay) ∷ (back, stay) ∷ (stay, forth) ∷ (stay, back) ∷ []

abbrev side : ℕ → ℕ → ℕ → Shift × Shift → Option ℕ
side h w p d = towards h w p d.0 d.1

each_way :
    (P : Shift × Shift → Type 0) → P (forth, stay) → P (back, stay) → P (stay, forth) → P (stay, back) →
    (d : Shift × Shift) → Memᴰ d ways → P d
each_way P below above right left d m =
    or below m (λ m₁. or above m₁ (λ m₂. or right m₂ (λ m₃. or left m₃ (λ m₄. absurd (Memᴰ.not-nil m₄)))))
  where
    or : {e : Shift × Shift} {es : List (Shift × Shift)} → P e → Memᴰ d (e ∷ es) → (Memᴰ d es → P d) → P d
    or here m later = ⊎_elim (λ e. subst P (sym e) here) later (Memᴰ.cases_cons m)

module _ (h w p q : ℕ) where
  -- the field `beside` of Adjacent
  abbrev Beside : Type 0
  Beside = ((row w p ≡ row w q) × NextTo (column w p) (column w q)) ⊎ ((column w p ≡ column w q) × NextTo (row w p) (row w q))

  -- q lies one of the ways from p
  abbrev Way : Type 0
  Way = (d : Shift × Shift) × Memᴰ d ways × Step h w p q d.0 d.1

  neighbours-way : Memᴰ q (neighbours h w p) → Way
  unfolding neighbours sides
  neighbours-way m =
      let (d, here, e) = Memᴰ.of_map (side h w p) ways (present-mem (sides h w p) m) in
      (d, here, towards-step h w p q d.0 d.1 e)

  way-neighbours : Way → Memᴰ q (neighbours h w p)
  unfolding neighbours sides
  way-neighbours (d, here, s) =
      mem-present (sides h w p)
      (Memᴰ.cast (sym (step-towards h w p q d.0 d.1 s)) (Memᴰ.map (side h w p) here))

  way-adjacent : Way → Adjacent h w p q
  unfolding Moved offset NextTo
  way-adjacent (d, here, s) =
      record {
        on = s.from;
        on' = s.to;
        beside =
            each_way (λ d. Step h w p q d.0 d.1 → Beside)
            (λ s. inr (omega arith, inl (omega arith)))
            (λ s. inr (omega arith, inr (omega arith)))
            (λ s. inl (omega arith, inl (omega arith)))
            (λ s. inl (omega arith, inr (omega arith)))
            d here s;
      }

  adjacent-way : Adjacent h w p q → Way
  unfolding Moved offset NextTo
  adjacent-way a = ⊎_elim (λ b. in_row b.0 b.1) (λ b. in-column b.0 b.1) a.beside
    where
      to : {d : Shift × Shift} → Memᴰ d ways → Moved d.0 (row w p) (row w q) → Moved d.1 (column w p) (column w q) → Way
      to {d} here r c = (d, here, record { from = a.on; to = a.on'; rows = r; columns = c })

      in-column : column w p ≡ column w q → NextTo (row w p) (row w q) → Way
      in-column c (inl e) = to (head refl) (omega arith) (omega arith)
      in-column c (inr e) = to (tail (head refl)) (omega arith) (omega arith)

      in_row : row w p ≡ row w q → NextTo (column w p) (column w q) → Way
      in_row r (inl e) = to (tail (tail (head refl))) (omega arith) (omega arith)
      in_row r (inr e) = to (tail (tail (tail (head refl)))) (omega arith) (omega arith)

  -- the neighbours of p are exactly the points that lie beside it in its row or its column
  pub neighbours-adjacent : Memᴰ q (neighbours h w p) ↔ Adjacent h w p q
  neighbours-adjacent = (λ m. way-adjacent (neighbours-way m), λ a. way-neighbours (adjacent-way a))

-- ---- What follows

pub adjacent-sym : {h w p q : ℕ} → Adjacent h w p q → Adjacent h w q p
unfolding NextTo
adjacent-sym a =
    record {
      on = a.on';
      on' = a.on;
      beside = ⊎_map (λ b. (sym b.0, ⊎_swap b.1)) (λ b. (sym b.0, ⊎_swap b.1)) a.beside;
    }

pub adjacent-apart : {h w p : ℕ} → ¬ Adjacent h w p p
unfolding NextTo
adjacent-apart {h} {w} {p} a =
    ⊎_elim (λ b. ⊎_elim (λ e. omega arith) (λ e. omega arith) b.1) (λ b. ⊎_elim (λ e. omega arith) (λ e. omega arith) b.1) a.beside

pub neighbours-sym : (h w p q : ℕ) → Memᴰ q (neighbours h w p) → Memᴰ p (neighbours h w q)
neighbours-sym h w p q m = (neighbours-adjacent h w q p).1 (adjacent-sym ((neighbours-adjacent h w p q).0 m))

pub neighbours-on : (h w p q : ℕ) → Memᴰ q (neighbours h w p) → q < area h w
neighbours-on h w p q m = ((neighbours-adjacent h w p q).0 m).on'

pub neighbours-from : (h w p q : ℕ) → Memᴰ q (neighbours h w p) → p < area h w
neighbours-from h w p q m = ((neighbours-adjacent h w p q).0 m).on

pub neighbours-not-self : (h w p : ℕ) → ¬ Memᴰ p (neighbours h w p)
neighbours-not-self h w p m = adjacent-apart ((neighbours-adjacent h w p p).0 m)

pub neighbours-few : (h w p : ℕ) → length (neighbours h w p) ≤ 4
unfolding neighbours sides
neighbours-few h w p = present-fewer (sides h w p)

-- the row and the column of a neighbour tell the way to it
pub neighbours-distinct : (h w p : ℕ) → Distinct (neighbours h w p)
unfolding neighbours sides Moved offset has
neighbours-distinct h w p =
    present-distinct (side h w p)
    (λ d. 3 * offset d.0 + offset d.1)
    (λ d e q m n. let s = towards-step h w p q d.0 d.1 m in let t = towards-step h w p q e.0 e.1 n in omega arith)
    ways
    (has-not refl, (has-not refl, (has-not refl, (has-not refl, tt))))
