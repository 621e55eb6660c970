-- Laws of the state as text: what the facts and the colours that were read say of a true game.
use Rattle.std.specs.Prelude.{◌≡◌, refl, ℕ, zero, suc, ◌≤◌, ◌<◌, length}
use Rattle.std.proofs.Common.{sym, ◌∙◌, ⊎_elim, arith, le-ltb}
use Rattle.std.proofs.Math.Path.{ap, ap₂}
use mathlib.Core.List.{List, [], ◌∷◌, ◌++◌, append_assoc}
use Rattle.std.proofs.Math.ListN.{take, drop, get_or-append}
use Rattle.rules.specs.Sizes.{max_area}
use Rattle.rules.specs.Answers.{number, accepts, refuse}
use Rattle.rules.specs.Colours.{at}
use Rattle.rules.specs.Points.{area}
use Rattle.rules.specs.Calls.{filled}
use Rattle.rules.proofs.Laws.Lists.{below_or_not}
use Rattle.board.specs.Board.{colours_of}
use Rattle.board.specs.Laws.Board.{area-fits, length-colours}
use Rattle.listing.specs.declared.list.Listed.{Listed}
use Rattle.listing.specs.Lists.{length_answer, Answered}
use Rattle.game.specs.declared.state.Game.{Game}
use Rattle.game.specs.declared.asks.Facts.{Facts}
use Rattle.game.specs.Asks.{no_facts, Told, Asked}
use Rattle.game.specs.View.{view_of, TrueState}
use Rattle.spelling.specs.Text.{space}
use Rattle.writing.specs.Figures.{spaced}
use Rattle.wording.specs.Laws.Replies.{rows-taken}
use Rattle.wording.specs.Replies.{starts_row, point, rows_upto}
use Rattle.stating.specs.State.{facts, state}
use Rattle.stating.specs.Said.{told}

-- ---- The answer

-- an answer that is not 3 is of no damaged game
pub undamaged : (g : Game) (f : Facts) → Asked g f → f.answer ≡ 0 → ¬ ¬ TrueState g
unfolding no_facts number
undamaged g f asked e n = let z : ◌≡◌ {A = ℕ} 3 0 = sym (ap (λ (r : Facts). r.answer) (asked.damaged n)) ∙ e in omega arith

pub area-undamaged : (g : Game) (f : Facts) → Asked g f → f.answer ≡ 0 → area g.board.height g.board.width ≤ max_area
unfolding view_of
area-undamaged g f asked e =
    ⊎_elim (λ l. absurd (undamaged g f asked e (λ is. let fits = area-fits is.game.size in omega arith)))
    (λ l. l)
    (below_or_not max_area (area g.board.height g.board.width))

pub damaged-answer : (g : Game) (f : Facts) → Asked g f → ¬ TrueState g → f.answer ≡ no_facts.answer
damaged-answer g f asked n = ap (λ (r : Facts). r.answer) (asked.damaged n)

-- ---- The text

facts-told : (g : Game) (f : Facts) → Told g f
    → told f ≡ facts (view_of g).turn (view_of g).passes (view_of g).white_held (view_of g).black_held (view_of g).width (view_of g).ko_point (view_of g).outcome (view_of g).records
unfolding told
facts-told g f t i = facts (t.turn i) (t.passes i) (t.white_held i) (t.black_held i) (t.width i) (t.ko i) (t.outcome i) (t.records i)

-- only the colours of the points matter
rows_same : (w n : ℕ) (xs ys : List ℕ) → ((p : ℕ) → p < n → at xs p ≡ at ys p) → rows_upto w xs n ≡ rows_upto w ys n
rows_same w zero xs ys e = refl
rows_same w (suc n) xs ys e =
    ap₂ (λ (l m : List ℕ). l ++ m) (rows_same w n xs ys (λ p l. e p (omega arith))) (ap (point (starts_row w n)) (e n (omega arith)))

-- a buffer for the largest board has the colours at its front
colours-front : (h w : ℕ) (cols before : List ℕ) → area h w ≤ length before → filled (length_answer h w (length before)) cols before ≡ cols ++ drop (length cols) before
unfolding filled length_answer refuse accepts number
colours-front h w cols before l = rw (le-ltb (length before) (area h w) l)

module _ (g : Game) (f : Facts) (before colours : List ℕ) (r : Listed) (long : length before ≡ max_area) (is : TrueState g) (asked : Asked g f)
    (listed : Answered g.board (length_answer g.board.height g.board.width (length before)) (colours_of g.board) before r colours) where
  rows_true : rows_upto g.board.width colours (area g.board.height g.board.width) ≡ rows_upto g.board.width (colours_of g.board) (area g.board.height g.board.width)
  unfolding view_of at
  rows_true =
      let fits = area-fits is.game.size in
      let places : colours ≡ colours_of g.board ++ drop (length (colours_of g.board)) before =
      (listed.told is.board).buffer ∙ colours-front g.board.height g.board.width (colours_of g.board) before (omega arith) in
      rows_same g.board.width (area g.board.height g.board.width) colours (colours_of g.board)
      (λ p l.
      ap (λ (c : List ℕ). at c p) places
      ∙ get_or-append (colours_of g.board) (drop (length (colours_of g.board)) before) 0 p (omega (arith, length-colours g.board)))

  pub state-said : told f ++ (space ∷ []) ++ rows_upto g.board.width colours (area g.board.height g.board.width) ≡ state (view_of g)
  unfolding state spaced view_of
  state-said =
      append_assoc (told f) (space ∷ []) (rows_upto g.board.width colours (area g.board.height g.board.width))
      ∙ ap₂ (λ (a b : List ℕ). a ++ (space ∷ b)) (facts-told g f (asked.told is)) rows_true

  -- the same behind the text that was there before
  pub state-behind : (was : List ℕ) {facts-put space-put all-put : List ℕ} (n : ℕ) → facts-put ≡ was ++ told f → space-put ≡ facts-put ++ (space ∷ [])
      → all-put ≡ space-put ++ rows_upto g.board.width (take n colours) (length (take n colours)) → n ≡ area g.board.height g.board.width → n ≤ length colours
      → all-put ≡ was ++ state (view_of g)
  state-behind was n p q r e l =
      r
      ∙ ap₂ (λ (a b : List ℕ). a ++ b) (q ∙ ap (λ (t : List ℕ). t ++ (space ∷ [])) p) (rows-taken g.board.width colours n l ∙ ap (rows_upto g.board.width colours) e)
      ∙ simp append_assoc (ap (λ (t : List ℕ). was ++ t) (sym (append_assoc (told f) (space ∷ []) (rows_upto g.board.width colours (area g.board.height g.board.width))) ∙ state-said))
