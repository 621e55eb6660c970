-- Laws of a board's edges: the points that begin a row are every w-th, and where they are known a step to each side needs no division.
use Rattle.std.specs.Prelude.{◌≡◌, refl, Bool, true, false, List, ◌≢◌, ℕ, zero, suc, ◌+◌, ◌-◌, ◌*◌, ◌≤◌, ◌<◌, eqb, length, set, replicate, Option, None, Some}
use Rattle.std.proofs.Common.{sym, ◌∙◌, suc-mul, not-suc-le-zero, add-one, length-set, get_or-set_same, get_or-set_other}
use Rattle.std.proofs.Math.Path.{ap}
use Rattle.std.proofs.Math.Logic.{⊎_elim}
use Rattle.std.proofs.Math.Nat.{zero-mul, mul-le-mul_right}
use native.Mathlib.Omega.{arith}
use Rattle.std.proofs.lemmas.List.{length-replicate}
use borrow.Author.Tests.{eq-eqb, ne_eqb, lt-ltb, le-ltb}
use Rattle.rules.specs.Sizes.{max_area}
use Rattle.rules.specs.Points.{area, index, row, column, Shift, back, stay, forth, shifted, towards}
use Rattle.rules.specs.Flood.{marked}
use Rattle.rules.proofs.Laws.Lists.{equal_or_not, below_or_not, get_or-replicate-same}
use Rattle.rules.proofs.Laws.Points.{index-row-column, column-index, column-on, towards-step}
use Rattle.points.specs.Place.{Within}
use Rattle.owning.specs.Owners.{RowStarts}

-- ---- The points that begin a row, one after another

-- those before a point are marked, and the point begins a row itself
pub record Begun (w : ℕ) (starts : List Bool) (point : ℕ) : Type 0 where
  pub long : length starts ≡ max_area + 1
  pub rows : ℕ
  pub at : point ≡ rows * w
  pub before : (p : ℕ) → p < point → marked starts p ≡ eqb (column w p) 0
  pub after : (p : ℕ) → point ≤ p → marked starts p ≡ false

pub begun-none : (w : ℕ) → Begun w (replicate (max_area + 1) false) 0
unfolding marked
begun-none w = record {
  long = length-replicate {A = Bool} (max_area + 1) false;
  rows = 0;
  at = sym (zero-mul w);
  before = λ p l. absurd (not-suc-le-zero l);
  after = λ p l. get_or-replicate-same (max_area + 1) p false;
}

-- the column of what lies less than a row behind a row's first point
behind : (w rows point p : ℕ) → point ≡ rows * w → point ≤ p → p < point + w → column w p ≡ p - point
unfolding index
behind w rows point p at l m =
    let here : rows * w + (p - point) ≡ p = omega arith in
    ap (column w) (sym here) ∙ column-index w rows {c = p - point} (omega arith)

pub begun-next : (w : ℕ) {starts : List Bool} {point : ℕ} → 0 < w → point ≤ max_area → Begun w starts point → Begun w (set starts point true) (point + w)
unfolding marked
begun-next w {starts} {point} wide within is = record {
  long = length-set starts point true ∙ is.long;
  rows = suc is.rows;
  at = let more = suc-mul is.rows w in omega (arith, is.at);
  before = λ p l. ⊎_elim (old p) (new p l) (below_or_not p point);
  after = λ p l. get_or-set_other starts point p true false (λ e. omega arith) ∙ is.after p (omega arith);
}
  where
    old : (p : ℕ) → p < point → marked (set starts point true) p ≡ eqb (column w p) 0
    old p l = get_or-set_other starts point p true false (λ e. omega arith) ∙ is.before p l

    new : (p : ℕ) → p < point + w → point ≤ p → marked (set starts point true) p ≡ eqb (column w p) 0
    new p l m =
        let c = behind w is.rows point p is.at m l in
        ⊎_elim
        (λ (e : p ≡ point).
        ap (marked (set starts point true)) e
        ∙ get_or-set_same starts point true false (omega (arith, is.long))
        ∙ sym (eq-eqb (column w p) 0 (omega arith)))
        (λ n.
        get_or-set_other starts point p true false n ∙ is.after p m ∙ sym (ne_eqb (column w p) 0 (λ z. n (omega arith))))
        (equal_or_not p point)

pub begun_all : (h w : ℕ) {starts : List Bool} {point : ℕ} → area h w < point → Begun w starts point → RowStarts h w starts
begun_all h w l is = record { long = is.long; begins = λ p m. is.before p (omega arith) }

-- ---- One step to each side

-- a step that leads anywhere leads to a point of the board
pub towards-within : (h w p : ℕ) (dr dc : Shift) → Within (area h w) (towards h w p dr dc)
towards-within h w p dr dc = go (towards h w p dr dc) refl
  where
    go : (o : Option ℕ) → towards h w p dr dc ≡ o → Within (area h w) o
    go None e = tt
    go (Some q) e = (towards-step h w p q dr dc e).to

more_rows : (r w : ℕ) → (r + 1) * w ≡ r * w + w
more_rows r w = rw add-one (suc-mul r w)

less-rows : (r w : ℕ) → 0 < r → (r - 1) * w + w ≡ r * w
less-rows zero w l = absurd (not-suc-le-zero l)
less-rows (suc r) w l = let e : suc r - 1 ≡ r = omega arith in rw e (sym (suc-mul r w))

module _ (h w p : ℕ) (on : p < area h w) where
  place : row w p * w + column w p ≡ p
  unfolding index
  place = index-row-column w p

  narrow : column w p < w
  narrow = column-on h w p on

  low : p < h * w
  unfolding area
  low = on

  pub below-some : p + w < area h w → towards h w p forth stay ≡ Some (p + w)
  unfolding towards shifted index area
  below-some l =
      let more = more_rows (row w p) w in
      let r : row w p + 1 < h =
      ⊎_elim (λ a. a) (λ b. let c = mul-le-mul_right w b in absurd (omega (arith, place))) (below_or_not (row w p + 1) h) in
      let e : (row w p + 1) * w + column w p ≡ p + w = omega (arith, place) in
      rw (lt-ltb p (h * w) low, lt-ltb (row w p + 1) h r) (ap {B = Option ℕ} Some e)

  pub below_none : area h w ≤ p + w → towards h w p forth stay ≡ None
  unfolding towards shifted area
  below_none l =
      let more = more_rows (row w p) w in
      let again = more_rows (row w p + 1) w in
      let r : h ≤ row w p + 1 =
      ⊎_elim (λ a. let two : row w p + 1 + 1 ≤ h = omega arith in let c = mul-le-mul_right w two in absurd (omega (arith, place, narrow))) (λ b. b)
      (below_or_not (row w p + 1) h) in
      rw (lt-ltb p (h * w) low, le-ltb (row w p + 1) h r)

  pub above-some : w ≤ p → towards h w p back stay ≡ Some (p - w)
  unfolding towards shifted index area
  above-some l =
      let r : 0 < row w p =
      ⊎_elim (λ a. let z = ap (λ (x : ℕ). x * w) a in let n = zero-mul w in absurd (omega (arith, place, narrow))) (λ b. omega arith)
      (equal_or_not (row w p) 0) in
      let less = less-rows (row w p) w r in
      let e : (row w p - 1) * w + column w p ≡ p - w = omega (arith, place) in
      rw (lt-ltb p (h * w) low, lt-ltb 0 (row w p) r) (ap {B = Option ℕ} Some e)

  pub above-none : p < w → towards h w p back stay ≡ None
  unfolding towards shifted area
  above-none l =
      let r : row w p ≤ 0 =
      ⊎_elim (λ a. let less = less-rows (row w p) w a in absurd (omega (arith, place))) (λ b. b) (below_or_not 0 (row w p)) in
      rw (lt-ltb p (h * w) low, le-ltb 0 (row w p) r)

  -- the next point begins a row exactly if this one ends one
  next-column : column w p + 1 < w → column w (p + 1) ≡ column w p + 1
  unfolding index
  next-column l =
      let e : row w p * w + (column w p + 1) ≡ p + 1 = omega (arith, place) in
      ap (column w) (sym e) ∙ column-index w (row w p) {c = column w p + 1} l

  next_row : w ≤ column w p + 1 → column w (p + 1) ≡ 0
  unfolding index
  next_row l =
      let more = more_rows (row w p) w in
      let e : (row w p + 1) * w + 0 ≡ p + 1 = omega (arith, place, narrow) in
      ap (column w) (sym e) ∙ column-index w (row w p + 1) {c = 0} (omega (arith, narrow))

  pub right-some : column w (p + 1) ≢ 0 → towards h w p stay forth ≡ Some (p + 1)
  unfolding towards shifted index area
  right-some n =
      let c : column w p + 1 < w = ⊎_elim (λ a. a) (λ b. absurd (n (next_row b))) (below_or_not (column w p + 1) w) in
      let e : row w p * w + (column w p + 1) ≡ p + 1 = omega (arith, place) in
      rw (lt-ltb p (h * w) low, lt-ltb (column w p + 1) w c) (ap {B = Option ℕ} Some e)

  pub right-none : column w (p + 1) ≡ 0 → towards h w p stay forth ≡ None
  unfolding towards shifted area
  right-none z =
      let c : w ≤ column w p + 1 = ⊎_elim (λ a. let e = next-column a in absurd (omega arith)) (λ b. b) (below_or_not (column w p + 1) w) in
      rw (lt-ltb p (h * w) low, le-ltb (column w p + 1) w c)

  pub left-some : column w p ≢ 0 → towards h w p stay back ≡ Some (p - 1)
  unfolding towards shifted index area
  left-some n =
      let c : 0 < column w p = omega arith in
      let e : row w p * w + (column w p - 1) ≡ p - 1 = omega (arith, place) in
      rw (lt-ltb p (h * w) low, lt-ltb 0 (column w p) c) (ap {B = Option ℕ} Some e)

  pub left-positive : column w p ≢ 0 → 0 < p
  left-positive n = omega (arith, place)

  pub left-none : column w p ≡ 0 → towards h w p stay back ≡ None
  unfolding towards shifted area
  left-none z = rw (lt-ltb p (h * w) low, le-ltb 0 (column w p) (omega arith))
