-- Laws of Picture: its length, one sign or one newline more, that colours which agree have one picture, and when it is refused.
use Rattle.std.specs.Prelude.{◌≡◌, eqb, length, get_or, take, drop, set}
use Rattle.std.proofs.Math.Path.{refl, ap}
use Rattle.std.proofs.Common.{sym, ap₂, ◌∙◌, subst, suc-mul, zero-mul, add-one, length-append, lt-ltb, le-ltb}
use Rattle.std.proofs.Math.Bool.{cond}
use mathlib.Core.List.{List, [], ◌∷◌, ◌++◌, append_assoc, append-nil}
use Prim.Native.Nat.{ℕ, zero, suc, ◌+◌, ◌-◌, ◌*◌, ◌/◌, ◌%◌, ◌≤◌, ◌<◌}
use Rattle.std.proofs.Math.Nat.{sub-zero}
use native.Mathlib.Omega.{arith}
use Rattle.std.proofs.Math.ListN.{length-set}
use Rattle.rules.specs.Colours.{black, white, at}
use Rattle.rules.specs.Points.{index}
use Rattle.rules.specs.Answers.{BadLength, number}
use Rattle.rules.specs.Picture.{grid_sign, sign, utf8, row_from, rows_from, picture, picture_bytes, picture_answer}
use Rattle.rules.proofs.Laws.Answers.{refuses, passes}
use Rattle.rules.specs.Lists.{tabulate}
use Rattle.rules.proofs.Laws.Lists.{length-tabulate}
use Rattle.rules.proofs.Laws.Places.{tabulate-shift}
use Rattle.viewing.specs.Front.{over, Front}
use Rattle.drawing.specs.Picture.{signed, rest, Drawing}
use Rattle.viewing.specs.Laws.Front.{front-none, front-more}

sub-step : {n x : ℕ} → x < n → n - x ≡ suc (n - (x + 1))
sub-step h = omega arith

snoc-three : (xs ys : List ℕ) (a b c : ℕ) → (((xs ++ (a ∷ [])) ++ (b ∷ [])) ++ (c ∷ [])) ++ ys ≡ xs ++ ((a ∷ b ∷ c ∷ []) ++ ys)
snoc-three xs ys a b c = simp append_assoc

module _ (h w : ℕ) (cols : List ℕ) where
  -- ---- Its length

  length-row : (r c n : ℕ) → length (row_from h w cols r c n) ≡ 3 * n + 1
  unfolding utf8
  length-row r c zero = refl
  length-row r c (suc n) = let ih = length-row r (suc c) n in omega arith

  length-rows : (r n : ℕ) → length (rows_from h w cols r n) ≡ n * (3 * w + 1)
  length-rows r zero = sym (zero-mul (3 * w + 1))
  length-rows r (suc n) =
      let ih = length-rows (suc r) n in
      let row = length-row r 0 w in
      omega (arith, length-append (row_from h w cols r 0 w) (rows_from h w cols (suc r) n), suc-mul n (3 * w + 1))

  pub length-picture : length (picture h w cols) ≡ picture_bytes h w
  unfolding picture picture_bytes
  length-picture = length-rows 0 h

  -- ---- What is left

  pub rest-sign : (r c : ℕ) → r < h → c < w → rest h w cols r c (h - r) ≡ utf8 (sign h w cols r c) ++ rest h w cols r (c + 1) (h - r)
  rest-sign r c l m =
      ap (rest h w cols r c) (sub-step l)
      ∙ ap (λ (n : ℕ). row_from h w cols r c n ++ rows_from h w cols (suc r) (h - (r + 1))) (sub-step m)
      ∙ append_assoc (utf8 (sign h w cols r c)) (row_from h w cols r (suc c) (w - (c + 1))) (rows_from h w cols (suc r) (h - (r + 1)))
      ∙ ap (λ (k : ℕ). utf8 (sign h w cols r c) ++ (row_from h w cols r k (w - (c + 1)) ++ rows_from h w cols (suc r) (h - (r + 1)))) (sym (add-one c))
      ∙ ap (λ (n : ℕ). utf8 (sign h w cols r c) ++ rest h w cols r (c + 1) n) (sym (sub-step l))

  -- a row that is not begun
  rest-begin : (r n : ℕ) → rest h w cols r 0 n ≡ rows_from h w cols r n
  rest-begin r zero = refl
  rest-begin r (suc n) = ap (λ (k : ℕ). row_from h w cols r 0 k ++ rows_from h w cols (suc r) n) (sub-zero w)

  pub rest-newline : (r c : ℕ) → r < h → w ≤ c → rest h w cols r c (h - r) ≡ 10 ∷ rest h w cols (r + 1) 0 (h - (r + 1))
  rest-newline r c l m =
      let done : w - c ≡ 0 = omega arith in
      ap (rest h w cols r c) (sub-step l)
      ∙ ap (λ (n : ℕ). row_from h w cols r c n ++ rows_from h w cols (suc r) (h - (r + 1))) done
      ∙ ap (λ (k : ℕ). 10 ∷ rows_from h w cols k (h - (r + 1))) (sym (add-one r))
      ∙ ap (λ (l' : List ℕ). 10 ∷ l') (sym (rest-begin (r + 1) (h - (r + 1))))

  -- ---- Drawing

  module _ (before : List ℕ) (enough : picture_bytes h w ≤ length before) where
    pub drawing-none : Drawing h w cols before 0 0 0 before
    unfolding picture
    drawing-none =
        record {
          drawn = [];
          front = front-none before;
          long = refl;
          rows = omega arith;
          columns = omega arith;
          whole = rest-begin 0 (h - 0) ∙ ap (rows_from h w cols 0) (sub-zero h);
        }

    -- where no row is left, all is drawn
    pub drawing-done : {r c n : ℕ} {after : List ℕ} → Drawing h w cols before r c n after → h ≤ r → Front (picture h w cols) before n after
    drawing-done {r} {c} {n} {after} d l =
        let done : h - r ≡ 0 = omega arith in
        subst (λ (xs : List ℕ). Front xs before n after)
        (sym (append-nil d.drawn) ∙ ap (λ (k : ℕ). d.drawn ++ rest h w cols r c k) (sym done) ∙ d.whole) d.front

    module _ {r c n : ℕ} {after : List ℕ} (d : Drawing h w cols before r c n after) (l : r < h) where
      -- there is room for what is left
      room : (xs ys : List ℕ) → rest h w cols r c (h - r) ≡ xs ++ ys → n + length xs ≤ picture_bytes h w
      room xs ys e =
          omega (
            arith,
            d.front.counted,
            ap length d.whole ∙ length-picture,
            length-append d.drawn (rest h w cols r c (h - r)),
            ap length e ∙ length-append xs ys,
          )

      pub room-sign : c < w → n + 3 ≤ picture_bytes h w
      unfolding utf8
      room-sign m = room (utf8 (sign h w cols r c)) (rest h w cols r (c + 1) (h - r)) (rest-sign r c l m)

      pub room-newline : w ≤ c → n + 1 ≤ picture_bytes h w
      room-newline m = room (10 ∷ []) (rest h w cols (r + 1) 0 (h - (r + 1))) (rest-newline r c l m)

      pub drawing-sign :
          (x : ℕ) → x ≡ sign h w cols r c → c < w →
          Drawing h w cols before r (c + 1) (n + 1 + 1 + 1) (signed after n x)
      unfolding utf8 signed
      drawing-sign x e m =
          let fits = room-sign m in
          let one = front-more (0xE0 + x / 4096) d.front (omega arith) in
          let two = front-more (0x80 + x / 64 % 64) one (omega arith) in
          record {
            drawn = ((d.drawn ++ ((0xE0 + x / 4096) ∷ [])) ++ ((0x80 + x / 64 % 64) ∷ [])) ++ ((0x80 + x % 64) ∷ []);
            front = front-more (0x80 + x % 64) two (omega arith);
            long = simp length-set d.long;
            rows = d.rows;
            columns = omega arith;
            whole =
                snoc-three d.drawn (rest h w cols r (c + 1) (h - r)) (0xE0 + x / 4096) (0x80 + x / 64 % 64) (0x80 + x % 64)
                ∙ ap (λ (y : ℕ). d.drawn ++ (utf8 y ++ rest h w cols r (c + 1) (h - r))) e
                ∙ ap (λ (l' : List ℕ). d.drawn ++ l') (sym (rest-sign r c l m)) ∙ d.whole;
          }

      pub drawing-newline : w ≤ c → Drawing h w cols before (r + 1) 0 (n + 1) (set after n 10)
      drawing-newline m =
          let fits = room-newline m in
          record {
            drawn = d.drawn ++ (10 ∷ []);
            front = front-more 10 d.front (omega arith);
            long = length-set after n 10 ∙ d.long;
            rows = omega arith;
            columns = omega arith;
            whole =
                append_assoc d.drawn (10 ∷ []) (rest h w cols (r + 1) 0 (h - (r + 1)))
                ∙ ap (λ (l' : List ℕ). d.drawn ++ l') (sym (rest-newline r c l m)) ∙ d.whole;
          }

-- ---- Colours that agree

module _ (h w : ℕ) (cols cols' : List ℕ) (same : (p : ℕ) → at cols p ≡ at cols' p) where
  sign_same : (r c : ℕ) → sign h w cols r c ≡ sign h w cols' r c
  unfolding sign
  sign_same r c = ap (λ (x : ℕ). cond (eqb x black) 0x25CF (cond (eqb x white) 0x25CB (grid_sign h w r c))) (same (index w r c))

  row_same : (r c n : ℕ) → row_from h w cols r c n ≡ row_from h w cols' r c n
  row_same r c zero = refl
  row_same r c (suc n) = ap₂ (λ (x : ℕ) (xs : List ℕ). utf8 x ++ xs) (sign_same r c) (row_same r (suc c) n)

  rows_same : (r n : ℕ) → rows_from h w cols r n ≡ rows_from h w cols' r n
  rows_same r zero = refl
  rows_same r (suc n) = ap₂ (λ (xs ys : List ℕ). xs ++ ys) (row_same r 0 w) (rows_same (suc r) n)

  pub picture-same : picture h w cols ≡ picture h w cols'
  unfolding picture
  picture-same = rows_same 0 h

-- ---- What is answered

-- a picture is refused exactly if the buffer is too short
pub picture-short : (h w : ℕ) (buffer : List ℕ) → length buffer < picture_bytes h w → number (picture_answer h w buffer) ≡ 14
unfolding picture_answer number
picture-short h w buffer l = ap number (refuses BadLength (lt-ltb (length buffer) (picture_bytes h w) l))

pub picture-fits : (h w : ℕ) (buffer : List ℕ) → picture_bytes h w ≤ length buffer → number (picture_answer h w buffer) ≡ 0
unfolding picture_answer number
picture-fits h w buffer l = ap number (passes BadLength (le-ltb (length buffer) (picture_bytes h w) l))

-- ---- Colours copied

-- the first places of a list are the table of them
take-tabulate : (cs : List ℕ) (n : ℕ) → n ≤ length cs → take n cs ≡ tabulate (λ i. get_or cs i 0) 0 n
take-tabulate cs zero l = refl
take-tabulate [] (suc n) l = absurd (omega arith)
take-tabulate (x ∷ cs) (suc n) l =
    ap (λ (xs : List ℕ). x ∷ xs) (take-tabulate cs n (omega arith) ∙ sym (tabulate-shift (λ i. get_or (x ∷ cs) i 0) 0 n))

pub front_copied :
    (cs before part : List ℕ) (n : ℕ) → n ≤ length cs → part ≡ take n cs → Front (tabulate (λ i. get_or cs i 0) 0 n) before n (part ++ drop n before)
unfolding over
front_copied cs before part n l e =
    let long : length (tabulate (λ i. get_or cs i 0) 0 n) ≡ n = length-tabulate (λ i. get_or cs i 0) 0 n in
    record {
      counted = sym long;
      buffer = ap₂ (λ (xs : List ℕ) (k : ℕ). xs ++ drop k before) (e ∙ take-tabulate cs n l) (sym long);
    }
