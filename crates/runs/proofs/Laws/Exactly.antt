-- Laws of answers: a call answers the number of the first row that holds, and 3 exactly if what it asks of the desk does not hold.
use Rattle.std.specs.Prelude.{◌≡◌, true, not, List, [], ◌∷◌, ◌++◌, ◌↔◌, ℕ, eqb, length}
use Rattle.std.proofs.Math.Path.{refl, ap}
use Rattle.std.proofs.Common.{sym, ◌∙◌, arith, eq-eqb}
use Rattle.std.proofs.Math.Nat.{zero-add}
use Rattle.rules.specs.Lists.{all}
use Rattle.rules.specs.Colours.{black}
use Rattle.rules.specs.Points.{index}
use Rattle.rules.specs.Move.{coloured}
use Rattle.rules.specs.Answers.{Answer, Damaged, NoLiberty, number}
use Rattle.rules.specs.Game.{Game}
use Rattle.rules.specs.Calls.{result, stone, pass, resign, resume, handicapped, Spot, choked, lay_black, Entry, entry_call, replay, check_answer, board_answer, list_answer}
use Rattle.rules.proofs.Laws.Lists.{and_left, and_right, not-both}
use Rattle.game.specs.View.{view_of}
use Rattle.rules.specs.Picture.{picture, picture_answer}
use Rattle.board.specs.declared.goban.Board.{Board}
use Rattle.board.specs.Board.{colours_of}
use Rattle.board.specs.True.{TrueBoard}
use Rattle.listing.specs.declared.list.Listed.{Listed}
use Rattle.viewing.specs.declared.shows.Question.{Question}
use Rattle.viewing.specs.declared.shows.Question.TheVariants as questions
use Rattle.listing.specs.Lists as listing
use Rattle.placing.specs.declared.place.Placed.{Placed}
use Rattle.making.specs.Making.{FromColours}
use Rattle.checking.specs.Promise.{Checked, Filled}
use Rattle.runs.specs.Runs as runs
use Rattle.runs.specs.Runs.{Call, Reply, Desk, Sound, Alone, Step}
use Rattle.runs.specs.Orders.{Row, row, first_of, First, clear, this, later, spot_rows, entry_rows, replay_rows, accepted_of, rows_of, Asks, check_rows, board_rows, list_rows, length_rows, question_rows, picture_rows}
use Rattle.runs.proofs.Laws.Orders.{first-exactly, new-order, stone-order, pause-order, handicap-order, entry-all, all_append, replay-order, replay-accepted, check-order, board-order, list-order, question-order, length-order, picture-order}

-- ---- No test is answered with 3

abbrev Undamaged : List Row → Type 0
Undamaged rows = all (λ r. not (eqb (number r.answer) (number Damaged))) rows ≡ true

undamaged-first : {n : ℕ} {rows : List Row} → n ≡ number Damaged → First n rows → ¬ Undamaged rows
unfolding number
undamaged-first three (clear e) u = omega arith
undamaged-first three (this {r} {rows} y e) u =
    not-both (and_left (not (eqb (number r.answer) (number Damaged))) _ u) (ap not (eq-eqb (number r.answer) (number Damaged) (e ∙ three)))
undamaged-first three (later {r} {rows} f o) u = undamaged-first three o (and_right (not (eqb (number r.answer) (number Damaged))) _ u)

spots-undamaged : (h w : ℕ) (cols : List ℕ) (spots : List Spot) (rest : List Row) → Undamaged rest → Undamaged (spot_rows h w cols spots ++ rest)
unfolding number
spots-undamaged h w cols [] rest u = u
spots-undamaged h w cols (s ∷ spots) rest u = spots-undamaged h w (coloured cols black (index w s.row s.column)) spots rest u

replay-undamaged : (es : List Entry) (g : Game) (bytes : List ℕ) → Undamaged (replay_rows g bytes es)
unfolding number
replay-undamaged [] g bytes = refl
replay-undamaged (e ∷ es) g bytes =
    all_append (λ r. not (eqb (number r.answer) (number Damaged))) (entry_rows g bytes e) (replay_rows (entry_call g bytes e).game (entry_call g bytes e).bytes es)
    (entry-all g bytes e (λ r. not (eqb (number r.answer) (number Damaged))) (λ t. refl) refl refl)
    (replay-undamaged es (entry_call g bytes e).game (entry_call g bytes e).bytes)

rows-undamaged : (call : Call) (d : Desk) → Undamaged (rows_of call d)
unfolding number
rows-undamaged (runs.new_game h w flags) d = refl
rows-undamaged (runs.handicap spots) d =
    let v = view_of d.game in
    spots-undamaged v.height v.width v.colours spots (row NoLiberty (choked v.height v.width (lay_black v.width v.colours spots)) ∷ []) refl
rows-undamaged (runs.stone r c) d = refl
rows-undamaged runs.pass d = refl
rows-undamaged (runs.resign player) d = refl
rows-undamaged runs.resume d = refl
rows-undamaged (runs.replay es) d = replay-undamaged es (view_of d.game) d.bytes

-- ---- The reply

module _ (d : Desk) (reply : Reply) (d' : Desk) where
  step-answer : (call : Call) → Asks call d → Step call d reply d' → reply.answer ≡ number (first_of (rows_of call d))
  unfolding Alone result handicapped stone pass resign resume replay
  step-answer (runs.new_game h w flags) is s = s.0.answered ∙ ap number (new-order h w flags)
  step-answer (runs.handicap spots) is s = s.0.answered is ∙ ap number (handicap-order (view_of d.game) spots)
  step-answer (runs.stone r c) is s = s.answered is ∙ ap number (stone-order (view_of d.game) d.bytes r c)
  step-answer runs.pass is s = s.0.answered is ∙ ap number (pause-order (view_of d.game))
  step-answer (runs.resign player) is s = s.0.answered is ∙ ap number (pause-order (view_of d.game))
  step-answer runs.resume is s = s.0.answered is
  step-answer (runs.replay es) is s = s.answered is ∙ ap number (replay-order es 0 (view_of d.game) d.bytes)

  pub step-exactly : (call : Call) → Asks call d → Step call d reply d' → (n : ℕ) → (reply.answer ≡ n) ↔ First n (rows_of call d)
  step-exactly call is s n = (
    λ e. (first-exactly n (rows_of call d)).0 (sym (step-answer call is s) ∙ e),
    λ o. step-answer call is s ∙ (first-exactly n (rows_of call d)).1 o,
  )

  step-refused : (call : Call) → Step call d reply d' → ¬ Asks call d → reply.answer ≡ number Damaged
  unfolding Alone
  step-refused (runs.new_game h w flags) s n = absurd (n tt)
  step-refused (runs.handicap spots) s n = (s.0.damaged n).0
  step-refused (runs.stone r c) s n = (s.damaged n).0
  step-refused runs.pass s n = (s.0.damaged n).0
  step-refused (runs.resign player) s n = (s.0.damaged n).0
  step-refused runs.resume s n = (s.0.damaged n).0
  step-refused (runs.replay es) s n = (s.damaged n).1

  pub step-damaged : (call : Call) → Step call d reply d' → (reply.answer ≡ number Damaged) ↔ (¬ Asks call d)
  step-damaged call s = (
    λ e is. undamaged-first refl ((step-exactly call is s (number Damaged)).0 e) (rows-undamaged call d),
    step-refused call s,
  )

  -- how many entries a replay accepts
  pub step-entries : (es : List Entry) → Sound d → Step (runs.replay es) d reply d' → reply.entries ≡ accepted_of (view_of d.game) d.bytes es
  unfolding replay
  step-entries es is s =
      s.counted is ∙ replay-accepted es 0 (view_of d.game) d.bytes ∙ zero-add (accepted_of (view_of d.game) d.bytes es)

-- what a sound desk gives every call
pub asks-sound : (call : Call) (d : Desk) → Sound d → Asks call d
unfolding Sound
asks-sound (runs.new_game h w flags) d is = tt
asks-sound (runs.handicap spots) d is = is.0
asks-sound (runs.stone r c) d is = is
asks-sound runs.pass d is = is.0
asks-sound (runs.resign player) d is = is.0
asks-sound runs.resume d is = is.0
asks-sound (runs.replay es) d is = is

-- ---- Calls that leave the state alone

-- an answer that is the first of its order
by_order : (a : Answer) (rows : List Row) → a ≡ first_of rows → (answer : ℕ) → answer ≡ number a → (n : ℕ) → (answer ≡ n) ↔ First n rows
by_order a rows e answer told n = (
  λ same. (first-exactly n rows).0 (sym (told ∙ ap number e) ∙ same),
  λ o. told ∙ ap number e ∙ (first-exactly n rows).1 o,
)

pub check-exactly :
    (is : Type 0) (g : Game) (bytes : List ℕ) (flags r c answer : ℕ) → Checked is (check_answer g bytes flags r c) answer → is → (n : ℕ) →
    (answer ≡ n) ↔ First n (check_rows g bytes flags r c)
check-exactly is g bytes flags r c answer checked t =
    by_order (check_answer g bytes flags r c) (check_rows g bytes flags r c) (check-order g bytes flags r c) answer (checked.answered t)

pub check-damaged :
    (is : Type 0) (g : Game) (bytes : List ℕ) (flags r c answer : ℕ) → Checked is (check_answer g bytes flags r c) answer → (answer ≡ number Damaged) ↔ (¬ is)
unfolding number
check-damaged is g bytes flags r c answer checked = (
  λ e t. undamaged-first refl ((check-exactly is g bytes flags r c answer checked t (number Damaged)).0 e) refl,
  checked.damaged,
)

pub list-exactly :
    (is : Type 0) (g : Game) (flags : ℕ) (places before after : List ℕ) (r : Listed) → Filled is (list_answer g flags before) places before r after → is →
    (n : ℕ) → (r.number ≡ n) ↔ First n (list_rows g flags before)
list-exactly is g flags places before after r filled t =
    by_order (list_answer g flags before) (list_rows g flags before) (list-order g flags before) r.number (filled.told t).answered

pub list-damaged :
    (is : Type 0) (g : Game) (flags : ℕ) (places before after : List ℕ) (r : Listed) → Filled is (list_answer g flags before) places before r after →
    (r.number ≡ number Damaged) ↔ (¬ is)
unfolding number
list-damaged is g flags places before after r filled = (
  λ e t. undamaged-first refl ((list-exactly is g flags places before after r filled t (number Damaged)).0 e) refl,
  λ n. (filled.damaged n).answered,
)

pub board-exactly : (h w : ℕ) (cols : List ℕ) (r : Placed) → FromColours h w cols r → (n : ℕ) → (r.answer ≡ n) ↔ First n (board_rows h w cols)
board-exactly h w cols r made = by_order (board_answer h w cols) (board_rows h w cols) (board-order h w cols) r.answer made.answered

-- ---- Queries that fill a lent buffer

module _ (b : Board) (before after : List ℕ) (r : Listed) where
  -- by the order of its answer
  filling-exactly :
      (a : Answer) (rows : List Row) (places : List ℕ) → a ≡ first_of rows → listing.Answered b a places before r after → TrueBoard b → (n : ℕ) →
      (r.number ≡ n) ↔ First n rows
  filling-exactly a rows places e p t = by_order a rows e r.number (p.told t).answered

  filling-damaged :
      (a : Answer) (rows : List Row) (places : List ℕ) → a ≡ first_of rows → Undamaged rows → listing.Answered b a places before r after →
      (r.number ≡ number Damaged) ↔ (¬ TrueBoard b)
  filling-damaged a rows places e u p = (
    λ same t. undamaged-first refl ((filling-exactly a rows places e p t (number Damaged)).0 same) u,
    λ n. (p.damaged n).answered,
  )

  -- every list of points
  pub question-exactly :
      (question : Question) → listing.Lists b question before r after → TrueBoard b → (n : ℕ) →
      (r.number ≡ n) ↔ First n (question_rows b.height b.width (length before) question)
  unfolding listing.Lists
  question-exactly question p = filling-exactly _ _ _ (question-order b.height b.width (length before) question) p

  question-undamaged : (h w n : ℕ) (question : Question) → Undamaged (question_rows h w n question)
  unfolding number
  question-undamaged h w n questions.Stones = refl
  question-undamaged h w n (questions.Coloured c) = refl
  question-undamaged h w n (questions.At row column local) = refl

  pub question-damaged : (question : Question) → listing.Lists b question before r after → (r.number ≡ number Damaged) ↔ (¬ TrueBoard b)
  unfolding listing.Lists
  question-damaged question p =
      filling-damaged _ (question_rows b.height b.width (length before) question) _ (question-order b.height b.width (length before) question)
      (question-undamaged b.height b.width (length before) question) p

  -- the colours as bytes
  abbrev Bytes : Type 0
  Bytes = listing.Answered b (listing.length_answer b.height b.width (length before)) (colours_of b) before r after

  pub colours-exactly : Bytes → TrueBoard b → (n : ℕ) → (r.number ≡ n) ↔ First n (length_rows b.height b.width (length before))
  colours-exactly p = filling-exactly _ (length_rows b.height b.width (length before)) _ (length-order b.height b.width (length before)) p

  pub colours-damaged : Bytes → (r.number ≡ number Damaged) ↔ (¬ TrueBoard b)
  unfolding number
  colours-damaged p =
      filling-damaged _ (length_rows b.height b.width (length before)) _ (length-order b.height b.width (length before)) refl p

  -- the picture
  abbrev Drawn : Type 0
  Drawn = listing.Answered b (picture_answer b.height b.width before) (picture b.height b.width (colours_of b)) before r after

  pub picture-exactly : Drawn → TrueBoard b → (n : ℕ) → (r.number ≡ n) ↔ First n (picture_rows b.height b.width (length before))
  picture-exactly p = filling-exactly _ (picture_rows b.height b.width (length before)) _ (picture-order b.height b.width before) p

  pub picture-damaged : Drawn → (r.number ≡ number Damaged) ↔ (¬ TrueBoard b)
  unfolding number
  picture-damaged p =
      filling-damaged _ (picture_rows b.height b.width (length before)) _ (picture-order b.height b.width before) refl p
