-- Laws of the orders: each call of the rules answers the first row of its order that holds.
use Rattle.std.specs.Prelude.{◌≡◌, Bool, cond, ◌≢◌, ◌↔◌, ℕ, suc, ◌+◌, ◌≤◌, leb, length}
use Rattle.std.proofs.Math.Path.{refl}
use Rattle.std.proofs.Common.{sym, ap, ap₂, ◌∙◌, add-zero, suc-add, add-suc, arith}
use Rattle.std.proofs.Math.Bool.{true, false, not}
use mathlib.Core.List.{List, [], ◌∷◌, ◌++◌}
use Rattle.std.proofs.Math.Logic.{⊎_elim}
use Rattle.std.proofs.Math.Dec.{eqb, ltb}
use borrow.Author.Tests.{not-true, eqb-true, eqb-false, ne_eqb, le-ltb, lt-ltb}
use Rattle.rules.specs.Sizes.{max_stones}
use Rattle.rules.specs.Lists.{all}
use Rattle.rules.specs.Colours.{black}
use Rattle.rules.specs.Points.{index}
use Rattle.rules.specs.Move.{coloured}
use Rattle.rules.specs.Records.{full}
use Rattle.rules.specs.Answers.{Answer, Accepted, BadSize, BadFlags, GamePaused, OffBoard, PointNotEmpty, Suicide, Ko, SuperKo, FillEye, MoveLimit}
use Rattle.rules.specs.Answers.{HistoryFull, NotAtStart, NoLiberty, BadLength, BadColour, BadKind, number, accepts, refuse, ◌then◌}
use Rattle.rules.specs.Game.{Game}
use Rattle.rules.specs.Calls.{size_answer, flags_answer, new_answer, forbidden_answer, point_answer, check_answer, stone_answer, pause_answer, Spot, spots_answer, lay_answer}
use Rattle.rules.specs.Calls.{result, stone, pass, resign, resume, handicap_answer, board_answer, list_answer, choked, lay_black, Entry, entry_call, Replayed, replay_from}
use Rattle.rules.proofs.Laws.Lists.{decided, and_left, and_right, and_both}
use Rattle.rules.specs.Picture.{picture_answer}
use Rattle.viewing.specs.declared.shows.Question.{Question}
use Rattle.viewing.specs.declared.shows.Question.TheVariants as questions
use Rattle.listing.specs.Lists as listing
use Rattle.rules.proofs.Laws.Answers.{then-refused, then-accepted}
use Rattle.runs.specs.Orders.{Row, row, first_of, First, clear, this, later}
use Rattle.runs.specs.Orders.{new_rows, forbidden_rows, point_rows, check_rows, stone_rows, pause_rows, spot_rows, handicap_rows, board_rows, list_rows, length_rows, question_rows, picture_rows, entry_rows, replay_rows, accepted_of}
use Rattle.replaying.specs.Laws.Replay.{replay-on, replay-stop}

-- ---- Exactly if

to-first : (n : ℕ) (rows : List Row) → number (first_of rows) ≡ n → First n rows
unfolding number
to-first n [] e = clear (sym e)
to-first n (r ∷ rows) e =
    ⊎_elim (λ (y : r.holds ≡ true). this y (ap (λ (t : Bool). number (cond t r.answer (first_of rows))) (sym y) ∙ e))
    (λ (f : r.holds ≡ false). later f (to-first n rows (ap (λ (t : Bool). number (cond t r.answer (first_of rows))) (sym f) ∙ e)))
    (decided r.holds)

from_first : {n : ℕ} {rows : List Row} → First n rows → number (first_of rows) ≡ n
unfolding number
from_first (clear e) = sym e
from_first (this {r} {rows} y e) = ap (λ (t : Bool). number (cond t r.answer (first_of rows))) y ∙ e
from_first (later {r} {rows} f o) = ap (λ (t : Bool). number (cond t r.answer (first_of rows))) f ∙ from_first o

pub first-exactly : (n : ℕ) (rows : List Row) → (number (first_of rows) ≡ n) ↔ First n rows
first-exactly n rows = (to-first n rows, from_first)

-- ---- Rows in a row

-- a test that refuses, before others
row_first : (a : Answer) (t : Bool) {b rest : Answer} → accepts a ≡ false → b ≡ rest → (refuse a t then b) ≡ cond t a rest
unfolding refuse ◌then◌ accepts number
row_first a true {b} n e = ap (λ (u : Bool). cond u b a) n
row_first a false n e = e

row_last : (a : Answer) (t : Bool) → refuse a t ≡ cond t a Accepted
unfolding refuse
row_last a t = refl

-- no row of these accepts
abbrev Refusing : List Row → Type 0
Refusing rows = all (λ r. not (accepts r.answer)) rows ≡ true

by-test : (t : Bool) (a x y : Answer) {z : Answer} → accepts a ≡ false → (x then y) ≡ z → (cond t a x then y) ≡ cond t a z
unfolding ◌then◌
by-test true a x y n e = ap (λ (u : Bool). cond u y a) n
by-test false a x y n e = e

first-append : (xs ys : List Row) → Refusing xs → (first_of xs then first_of ys) ≡ first_of (xs ++ ys)
unfolding ◌then◌ accepts number
first-append [] ys n = refl
first-append (r ∷ xs) ys n =
    by-test r.holds r.answer (first_of xs) (first_of ys) (not-true (accepts r.answer) (and_left (not (accepts r.answer)) _ n))
    (first-append xs ys (and_right (not (accepts r.answer)) _ n))

-- ---- Each call

pub new-order : (h w flags : ℕ) → new_answer h w flags ≡ first_of (new_rows h w flags)
unfolding new_answer size_answer flags_answer accepts number
new-order h w flags = row_first BadSize _ refl (row_last BadFlags _)

module _ (g : Game) (bytes : List ℕ) where
  pub forbidden-order : (flags p : ℕ) → forbidden_answer g bytes flags p ≡ first_of (forbidden_rows g bytes flags p)
  unfolding forbidden_answer accepts number
  forbidden-order flags p =
      row_first Suicide _ refl (row_first Ko _ refl (row_first FillEye _ refl (row_last SuperKo _)))

  pub point-order : (flags r c : ℕ) → point_answer g bytes flags r c ≡ first_of (point_rows g bytes flags r c)
  unfolding point_answer accepts number
  point-order flags r c = row_first OffBoard _ refl (row_first PointNotEmpty _ refl (forbidden-order flags (index g.width r c)))

  pub check-order : (flags r c : ℕ) → check_answer g bytes flags r c ≡ first_of (check_rows g bytes flags r c)
  unfolding check_answer flags_answer accepts number
  check-order flags r c = row_first BadFlags _ refl (point-order flags r c)

  pub stone-order : (r c : ℕ) → stone_answer g bytes r c ≡ first_of (stone_rows g bytes r c)
  unfolding stone_answer accepts number
  stone-order r c =
      row_first GamePaused _ refl
      (ap₂ ◌then◌ (point-order g.flags r c) (row_first MoveLimit _ refl (row_last HistoryFull _))
      ∙ first-append (point_rows g bytes g.flags r c)
      (row MoveLimit (leb max_stones g.accepted) ∷ row HistoryFull (full bytes g.records g.colours) ∷ []) refl)

pub pause-order : (g : Game) → pause_answer g ≡ first_of (pause_rows g)
unfolding pause_answer
pause-order g = row_last GamePaused _

module _ (h w : ℕ) where
  spots-order : (cols : List ℕ) (spots : List Spot) → spots_answer h w cols spots ≡ first_of (spot_rows h w cols spots)
  unfolding accepts number
  spots-order cols [] = refl
  spots-order cols (s ∷ spots) =
      row_first OffBoard _ refl (row_first PointNotEmpty _ refl (spots-order (coloured cols black (index w s.row s.column)) spots))

  spots-refuse : (cols : List ℕ) (spots : List Spot) → Refusing (spot_rows h w cols spots)
  unfolding accepts number
  spots-refuse cols [] = refl
  spots-refuse cols (s ∷ spots) = spots-refuse (coloured cols black (index w s.row s.column)) spots

pub handicap-order : (g : Game) (spots : List Spot) → handicap_answer g spots ≡ first_of (handicap_rows g spots)
unfolding handicap_answer lay_answer accepts number
handicap-order g spots =
    row_first NotAtStart _ refl
    (ap₂ ◌then◌ (spots-order g.height g.width g.colours spots) (row_last NoLiberty _)
    ∙ first-append (spot_rows g.height g.width g.colours spots)
    (row NoLiberty (choked g.height g.width (lay_black g.width g.colours spots)) ∷ []) (spots-refuse g.height g.width g.colours spots))

pub board-order : (h w : ℕ) (cols : List ℕ) → board_answer h w cols ≡ first_of (board_rows h w cols)
unfolding board_answer size_answer accepts number
board-order h w cols = row_first BadSize _ refl (row_first BadLength _ refl (row_first BadColour _ refl (row_last NoLiberty _)))

pub list-order : (g : Game) (flags : ℕ) (buffer : List ℕ) → list_answer g flags buffer ≡ first_of (list_rows g flags buffer)
unfolding list_answer flags_answer accepts number
list-order g flags buffer = row_first BadFlags _ refl (row_last BadLength _)

module _ (g : Game) (bytes : List ℕ) (e : Entry) where
  pub entry-order : (entry_call g bytes e).answer ≡ first_of (entry_rows g bytes e)
  unfolding entry_call stone pass resign resume result
  entry-order =
      ⊎_elim (λ (a : eqb e.kind 0 ≡ true). rw (a, is-low 0 a (omega arith)) (stone-order g bytes e.row e.column))
      (λ (n : eqb e.kind 0 ≡ false).
      ⊎_elim (λ (a : eqb e.kind 1 ≡ true). rw (n, a, is-low 1 a (omega arith), not_last 1 a (λ z. omega arith)) (pause-order g))
      (λ (o : eqb e.kind 1 ≡ false).
      ⊎_elim (λ (a : eqb e.kind 2 ≡ true). rw (n, o, a, is-low 2 a (omega arith), not_last 2 a (λ z. omega arith)) (pause-order g))
      (λ (p : eqb e.kind 2 ≡ false).
      ⊎_elim (λ (a : eqb e.kind 3 ≡ true). rw (n, o, p, a, is-low 3 a (omega arith), not_last 3 a (λ z. omega arith)) (pause-order g))
      (λ (q : eqb e.kind 3 ≡ false).
      ⊎_elim (λ (a : eqb e.kind 4 ≡ true). rw (n, o, p, q, a, is-low 4 a (omega arith)))
      (λ (r : eqb e.kind 4 ≡ false). rw (n, o, p, q, r, high n o p q r))
      (decided (eqb e.kind 4)))
      (decided (eqb e.kind 3)))
      (decided (eqb e.kind 2)))
      (decided (eqb e.kind 1)))
      (decided (eqb e.kind 0))
    where
      is-low : (k : ℕ) → eqb e.kind k ≡ true → k ≤ 4 → ltb 4 e.kind ≡ false
      is-low k a l = let same = eqb-true e.kind k a in le-ltb 4 e.kind (omega arith)

      not_last : (k : ℕ) → eqb e.kind k ≡ true → k ≢ 4 → eqb e.kind 4 ≡ false
      not_last k a n = ne_eqb e.kind 4 (λ z. n (sym (eqb-true e.kind k a) ∙ z))

      high : eqb e.kind 0 ≡ false → eqb e.kind 1 ≡ false → eqb e.kind 2 ≡ false → eqb e.kind 3 ≡ false → eqb e.kind 4 ≡ false → ltb 4 e.kind ≡ true
      high n o p q r =
          lt-ltb 4 e.kind
          (omega (arith, eqb-false e.kind 0 n, eqb-false e.kind 1 o, eqb-false e.kind 2 p, eqb-false e.kind 3 q, eqb-false e.kind 4 r))

pub question-order : (h w n : ℕ) (question : Question) → listing.list_answer h w n question ≡ first_of (question_rows h w n question)
unfolding listing.length_answer accepts number
question-order h w n questions.Stones = row_last BadLength _
question-order h w n (questions.Coloured c) = row_first BadLength _ refl (row_last BadColour _)
question-order h w n (questions.At r c local) = row_first OffBoard _ refl (row_last BadLength _)

pub length-order : (h w n : ℕ) → listing.length_answer h w n ≡ first_of (length_rows h w n)
unfolding listing.length_answer
length-order h w n = row_last BadLength _

pub picture-order : (h w : ℕ) (buffer : List ℕ) → picture_answer h w buffer ≡ first_of (picture_rows h w (length buffer))
unfolding picture_answer
picture-order h w buffer = row_last BadLength _

-- ---- A row of entries

-- what holds of all rows of two orders holds of all rows of the one that a test chooses, and of one after the other
all-chosen : {A : Type 0} (f : A → Bool) (t : Bool) (xs ys : List A) → all f xs ≡ true → all f ys ≡ true → all f (cond t xs ys) ≡ true
all-chosen f true xs ys a b = a
all-chosen f false xs ys a b = b

pub all_append : {A : Type 0} (f : A → Bool) (xs ys : List A) → all f xs ≡ true → all f ys ≡ true → all f (xs ++ ys) ≡ true
all_append f [] ys a b = b
all_append f (x ∷ xs) ys a b = and_both (and_left (f x) (all f xs) a) (all_append f xs ys (and_right (f x) (all f xs) a) b)

module _ (g : Game) (bytes : List ℕ) (e : Entry) where
  pub entry-all :
      (f : Row → Bool) → ((t : Bool) → f (row BadKind t) ≡ true) → all f (stone_rows g bytes e.row e.column) ≡ true → all f (pause_rows g) ≡ true →
      all f (entry_rows g bytes e) ≡ true
  entry-all f a b c =
      and_both (a (ltb 4 e.kind))
      (all-chosen f (eqb e.kind 0) (stone_rows g bytes e.row e.column) (cond (eqb e.kind 4) [] (pause_rows g)) b
      (all-chosen f (eqb e.kind 4) [] (pause_rows g) refl c))

  entry-refuses : Refusing (entry_rows g bytes e)
  unfolding accepts number
  entry-refuses = entry-all (λ r. not (accepts r.answer)) (λ t. refl) refl refl

pub replay-order : (es : List Entry) (k : ℕ) (g : Game) (bytes : List ℕ) → (replay_from k g bytes es).answer ≡ first_of (replay_rows g bytes es)
replay-order [] k g bytes = refl
replay-order (e ∷ es) k g bytes =
    let rest = replay_rows (entry_call g bytes e).game (entry_call g bytes e).bytes es in
    ⊎_elim
    (λ (y : accepts (entry_call g bytes e).answer ≡ true).
    ap (λ (r : Replayed). r.answer) (replay-on k g bytes e es y) ∙ replay-order es (suc k) (entry_call g bytes e).game (entry_call g bytes e).bytes
    ∙ sym (then-accepted (first_of (entry_rows g bytes e)) (first_of rest) (ap accepts (sym (entry-order g bytes e)) ∙ y))
    ∙ first-append (entry_rows g bytes e) rest (entry-refuses g bytes e))
    (λ (n : accepts (entry_call g bytes e).answer ≡ false).
    ap (λ (r : Replayed). r.answer) (replay-stop k g bytes e es n) ∙ entry-order g bytes e
    ∙ sym (then-refused (first_of (entry_rows g bytes e)) (first_of rest) (ap accepts (sym (entry-order g bytes e)) ∙ n))
    ∙ first-append (entry_rows g bytes e) rest (entry-refuses g bytes e))
    (decided (accepts (entry_call g bytes e).answer))

pub replay-accepted : (es : List Entry) (k : ℕ) (g : Game) (bytes : List ℕ) → (replay_from k g bytes es).entries ≡ k + accepted_of g bytes es
replay-accepted [] k g bytes = sym (add-zero k)
replay-accepted (e ∷ es) k g bytes =
    let more = accepted_of (entry_call g bytes e).game (entry_call g bytes e).bytes es in
    ⊎_elim
    (λ (y : accepts (entry_call g bytes e).answer ≡ true).
    ap (λ (r : Replayed). r.entries) (replay-on k g bytes e es y) ∙ replay-accepted es (suc k) (entry_call g bytes e).game (entry_call g bytes e).bytes
    ∙ suc-add k more ∙ sym (add-suc k more)
    ∙ ap (λ (t : Bool). k + cond t (suc more) 0) (sym (ap accepts (sym (entry-order g bytes e)) ∙ y)))
    (λ (n : accepts (entry_call g bytes e).answer ≡ false).
    ap (λ (r : Replayed). r.entries) (replay-stop k g bytes e es n) ∙ sym (add-zero k)
    ∙ ap (λ (t : Bool). k + cond t (suc more) 0) (sym (ap accepts (sym (entry-order g bytes e)) ∙ n)))
    (decided (accepts (entry_call g bytes e).answer))
