-- A number that no byte holds is answered as any number that is too large: a call says the same of a number and of the byte for it.
use Rattle.std.specs.Prelude.{◌≡◌, Bool, not, ◌&&◌, ℕ, ◌+◌, ◌≤◌, ◌<◌, eqb, leb, ltb}
use Rattle.std.proofs.Math.Path.{refl, sym, ap, ap₂}
use Rattle.std.proofs.Common.{◌∙◌, arith}
use Rattle.std.proofs.Math.Bool.{true, false, cond, ◌||◌}
use mathlib.Core.List.{List, [], ◌∷◌, map}
use Rattle.std.proofs.Math.Logic.{⊎_elim}
use borrow.Author.Tests.{le-leb, lt-leb, leb-false, not-false}
use Rattle.rules.specs.Sizes.{max_side, max_flags}
use Rattle.rules.specs.Points.{index}
use Rattle.rules.specs.Colours.{black, empty, at}
use Rattle.rules.specs.Move.{coloured}
use Rattle.rules.specs.Records.{bytes_after}
use Rattle.rules.specs.Answers.{Answer, BadSize, BadFlags, OffBoard, PointNotEmpty, number, accepts, ◌then◌, refuse}
use Rattle.rules.specs.Game.{Game, TrueSize, fresh_game}
use Rattle.rules.specs.Calls.{Spot, result, side_ok, size_answer, flags_answer, new_answer, new_game, outside, off_board, point_answer, check_answer, stone_answer, stone_game, stone, spots_answer, lay_answer, handicap_answer, handicap_game, handicapped, legals, list_answer}
use Rattle.rules.proofs.Laws.Lists.{below_or_not, decided, not-both, not_yes, or-none-left, or-none-right}
use Rattle.rules.proofs.Laws.Calls.{then-first, then-second, refuse-not, size-true}
use Rattle.spelling.specs.Number.{byte_of}

-- ---- Tests against small numbers

byte-same : {n : ℕ} → n ≤ 255 → byte_of n ≡ n
unfolding byte_of
byte-same l = omega arith

-- a number below n, or not
above-capped : (n k : ℕ) → n ≤ 255 → leb n (byte_of k) ≡ leb n k
unfolding byte_of
above-capped n k l =
    ⊎_elim (λ m. lt-leb n (byte_of k) (omega arith) ∙ sym (lt-leb n k m)) (λ m. le-leb n (byte_of k) (omega arith) ∙ sym (le-leb n k m)) (below_or_not k n)

-- a number above n, or not
below-capped : (n k : ℕ) → n < 255 → leb (byte_of k) n ≡ leb k n
unfolding byte_of
below-capped n k l =
    ⊎_elim (λ m. lt-leb (byte_of k) n (omega arith) ∙ sym (lt-leb k n m)) (λ m. le-leb (byte_of k) n (omega arith) ∙ sym (le-leb k n m)) (below_or_not n k)

-- ---- New game

side-capped : (n : ℕ) → side_ok (byte_of n) ≡ side_ok n
unfolding side_ok
side-capped n = ap₂ ◌&&◌ (above-capped 1 n (omega arith)) (below-capped max_side n (omega arith))

pub flags-capped : (flags : ℕ) → flags_answer (byte_of flags) ≡ flags_answer flags
unfolding flags_answer
flags-capped flags = ap (refuse BadFlags) (above-capped (max_flags + 1) flags (omega arith))

pub new-capped : (h w flags : ℕ) → new_answer (byte_of h) (byte_of w) (byte_of flags) ≡ new_answer h w flags
unfolding new_answer size_answer
new-capped h w flags = simp (side-capped, flags-capped)

-- flags that are accepted are a byte
pub flags-same : (flags : ℕ) → accepts (flags_answer flags) ≡ true → byte_of flags ≡ flags
unfolding flags_answer accepts number
flags-same flags e = byte-same (omega (arith, leb-false (max_flags + 1) flags (refuse-not BadFlags (ltb max_flags flags) refl e)))

new-flags : (h w flags : ℕ) → accepts (new_answer h w flags) ≡ true → accepts (flags_answer flags) ≡ true
unfolding new_answer
new-flags h w flags t = then-second (size_answer h w) (flags_answer flags) t

new-size : (h w flags : ℕ) → accepts (new_answer h w flags) ≡ true → TrueSize h w
unfolding new_answer size_answer accepts number
new-size h w flags t = size-true h w (not-false (side_ok h && side_ok w) (refuse-not BadSize _ refl (then-first (size_answer h w) (flags_answer flags) t)))

pub new-game-capped : (h w flags : ℕ) → new_game (byte_of h) (byte_of w) (byte_of flags) ≡ new_game h w flags
unfolding new_game
new-game-capped h w flags =
    ap (λ (a : Answer). cond (accepts a) (fresh_game (byte_of h) (byte_of w) (byte_of flags)) (fresh_game 1 1 0)) (new-capped h w flags)
    ∙ ⊎_elim (λ t. accepted t) (λ t. rw t) (decided (accepts (new_answer h w flags)))
  where
    accepted : accepts (new_answer h w flags) ≡ true
        → cond (accepts (new_answer h w flags)) (fresh_game (byte_of h) (byte_of w) (byte_of flags)) (fresh_game 1 1 0)
        ≡ cond (accepts (new_answer h w flags)) (fresh_game h w flags) (fresh_game 1 1 0)
    accepted t =
        let size = new-size h w flags t in
        rw (byte-same {n = h} (omega (arith, size.low)), byte-same {n = w} (omega (arith, size.narrow)), flags-same flags (new-flags h w flags t))

-- ---- Answers that refuse

-- what is refused does not depend on what an accepted call would have left
refused-same : (a : Answer) (g : Game) (bytes : List ℕ) (new other : Game) (new_bytes : List ℕ) → accepts a ≡ false → result a g bytes new new_bytes ≡ result a g bytes other new_bytes
unfolding result
refused-same a g bytes new other new_bytes e = rw e

off-then : (b : Answer) (t : Bool) → t ≡ true → refuse OffBoard t then b ≡ OffBoard
unfolding refuse ◌then◌ accepts number
off-then b t e = rw e

on_then : (b : Answer) (t : Bool) → t ≡ false → refuse OffBoard t then b ≡ b
unfolding refuse ◌then◌ accepts number
on_then b t e = rw e

-- ---- A point

module _ (h w r c : ℕ) (size : TrueSize h w) where
  outside-capped : outside h w (byte_of r) (byte_of c) ≡ outside h w r c
  unfolding outside
  outside-capped =
      ap₂ ◌||◌ (above-capped h r (omega (arith, size.low))) (above-capped w c (omega (arith, size.narrow)))

  row_same : outside h w r c ≡ false → byte_of r ≡ r
  unfolding outside
  row_same e = byte-same (omega (arith, size.low, leb-false h r (or-none-left _ _ e)))

  column-same : outside h w r c ≡ false → byte_of c ≡ c
  unfolding outside
  column-same e = byte-same (omega (arith, size.narrow, leb-false w c (or-none-right (leb h r) _ e)))

module _ (g : Game) (bytes : List ℕ) (size : TrueSize g.height g.width) where
  pub point-capped : (flags r c : ℕ) → point_answer g bytes flags (byte_of r) (byte_of c) ≡ point_answer g bytes flags r c
  unfolding point_answer off_board
  point-capped flags r c =
      let h = g.height in
      let w = g.width in
      ⊎_elim (λ out. off-then _ _ (outside-capped h w r c size ∙ out) ∙ sym (off-then _ _ out))
      (λ on. rw (row_same h w r c size on, column-same h w r c size on))
      (decided (outside h w r c))

  pub check-capped : (flags r c : ℕ) → check_answer g bytes (byte_of flags) (byte_of r) (byte_of c) ≡ check_answer g bytes flags r c
  unfolding check_answer ◌then◌
  check-capped flags r c =
      ap (λ (a : Answer). cond (accepts a) (point_answer g bytes (byte_of flags) (byte_of r) (byte_of c)) a) (flags-capped flags)
      ∙ ⊎_elim (λ t. ap (λ (f : ℕ). flags_answer flags then point_answer g bytes f (byte_of r) (byte_of c)) (flags-same flags t) ∙ ap (λ (a : Answer). flags_answer flags then a) (point-capped flags r c))
      (λ t. rw t)
      (decided (accepts (flags_answer flags)))

  -- a point that is not on the board is refused whatever the rest says
  stone-off : (r c : ℕ) → outside g.height g.width r c ≡ true → accepts (stone_answer g bytes r c) ≡ false
  unfolding stone_answer point_answer off_board accepts number
  stone-off r c out =
      not_yes
      (λ t.
      let point : accepts (point_answer g bytes g.flags r c) ≡ true = then-first _ _ (then-second _ _ t) in
      not-both point (ap accepts (off-then _ _ out)))

  stone-answer-capped : (r c : ℕ) → stone_answer g bytes (byte_of r) (byte_of c) ≡ stone_answer g bytes r c
  unfolding stone_answer
  stone-answer-capped r c = rw (point-capped g.flags r c)

  pub stone-capped : (r c : ℕ) → stone g bytes (byte_of r) (byte_of c) ≡ stone g bytes r c
  unfolding stone
  stone-capped r c =
      let h = g.height in
      let w = g.width in
      ⊎_elim
      (λ out.
      ap (λ (a : Answer). result a g bytes (stone_game g bytes (index w (byte_of r) (byte_of c))) (bytes_after bytes g.records g.colours)) (stone-answer-capped r c)
      ∙ refused-same _ _ _ _ _ _ (stone-off r c out))
      (λ on. rw (row_same h w r c size on, column-same h w r c size on))
      (decided (outside h w r c))

-- ---- Handicap

abbrev pub capped : Spot → Spot
capped s = record { row = byte_of s.row; column = byte_of s.column }

module _ (h w : ℕ) (size : TrueSize h w) where
  spots-capped : (cols : List ℕ) (spots : List Spot) → spots_answer h w cols (map capped spots) ≡ spots_answer h w cols spots
  spots-capped cols [] = refl
  spots-capped cols (s ∷ spots) =
      ⊎_elim (λ out. off-then _ _ (outside-capped h w s.row s.column size ∙ out) ∙ sym (off-then _ _ out))
      (λ on.
      rw (row_same h w s.row s.column size on, column-same h w s.row s.column size on)
      (ap
      (λ (a : Answer).
      refuse OffBoard (outside h w s.row s.column)
      then refuse PointNotEmpty (not (eqb (at cols (index w s.row s.column)) empty))
      then a)
      (spots-capped (coloured cols black (index w s.row s.column)) spots)))
      (decided (outside h w s.row s.column))

  -- spots that are laid are all on the board
  spots-same : (cols : List ℕ) (spots : List Spot) → accepts (spots_answer h w cols spots) ≡ true → map capped spots ≡ spots
  unfolding accepts number
  spots-same cols [] t = refl
  spots-same cols (s ∷ spots) t =
      let on : outside h w s.row s.column ≡ false = refuse-not OffBoard _ refl (then-first _ _ t) in
      ap₂ {C = List Spot} (λ (x : Spot) (l : List Spot). x ∷ l)
      (λ i. record { row = row_same h w s.row s.column size on i; column = column-same h w s.row s.column size on i })
      (spots-same (coloured cols black (index w s.row s.column)) spots (then-second _ _ (then-second _ _ t)))

module _ (g : Game) (size : TrueSize g.height g.width) (spots : List Spot) where
  laid_same : accepts (handicap_answer g spots) ≡ true → map capped spots ≡ spots
  unfolding handicap_answer lay_answer
  laid_same t = spots-same g.height g.width size g.colours spots (then-first _ _ (then-second _ _ t))

  handicap-answer-capped : handicap_answer g (map capped spots) ≡ handicap_answer g spots
  unfolding handicap_answer lay_answer ◌then◌
  handicap-answer-capped =
      rw (spots-capped g.height g.width size g.colours spots)
      (⊎_elim (λ t. rw (spots-same g.height g.width size g.colours spots t)) (λ t. rw t) (decided (accepts (spots_answer g.height g.width g.colours spots))))

  pub handicap-capped : (bytes : List ℕ) → handicapped g bytes (map capped spots) ≡ handicapped g bytes spots
  unfolding handicapped
  handicap-capped bytes =
      ap (λ (a : Answer). result a g bytes (handicap_game g (map capped spots)) bytes) handicap-answer-capped
      ∙ ⊎_elim (λ t. ap (λ (l : List Spot). result (handicap_answer g spots) g bytes (handicap_game g l) bytes) (laid_same t))
      (λ t. refused-same _ _ _ _ _ _ t)
      (decided (accepts (handicap_answer g spots)))

-- ---- Legal list

pub list-capped : (g : Game) (flags : ℕ) (buffer : List ℕ) → list_answer g (byte_of flags) buffer ≡ list_answer g flags buffer
unfolding list_answer
list-capped g flags buffer = rw (flags-capped flags)

pub legals-capped : (g : Game) (bytes : List ℕ) (flags : ℕ) (buffer : List ℕ) → accepts (list_answer g flags buffer) ≡ true → legals g bytes (byte_of flags) ≡ legals g bytes flags
unfolding list_answer
legals-capped g bytes flags buffer t = ap (legals g bytes) (flags-same flags (then-first _ _ t))
