-- Laws of the legal list's reply: the points that were filled in are those of the rules, or the number is the refusal's.
use Rattle.std.proofs.Math.Path.{◌≡◌, sym, ap, ap₂}
use Rattle.std.proofs.Common.{◌∙◌, ⊎_elim, le-ltb}
use Rattle.std.specs.Prelude.{Bool, ◌≢◌, ℕ, ◌≤◌, ltb, length}
use Rattle.std.proofs.Math.Bool.{true, false, cond}
use mathlib.Core.List.{List, [], ◌++◌}
use native.Mathlib.Omega.{arith}
use Rattle.std.proofs.Math.ListN.{take, drop}
use Rattle.std.proofs.Math.Seq.{take_at}
use Rattle.rules.specs.Sizes.{max_area, max_flags}
use Rattle.rules.specs.Points.{area}
use Rattle.rules.specs.Answers.{Answer, Damaged, number, accepts, ◌then◌, refuse}
use Rattle.rules.specs.Game as rules
use Rattle.rules.specs.Calls.{flags_answer, list_answer, legals, filled}
use Rattle.rules.specs.Lists.{pick, below}
use Rattle.rules.proofs.Laws.Lists.{decided, length-below}
use Rattle.rules.proofs.Laws.Counting.{length-pick, count_most}
use Rattle.rules.proofs.Laws.Answers.{accepts-zero, refuses-other}
use Rattle.board.specs.Laws.Board.{area-fits}
use Rattle.listing.specs.declared.list.Listed.{Listed}
use Rattle.game.specs.declared.state.Game.{Game}
use Rattle.game.specs.View.{view_of, TrueState, RoomIn}
use Rattle.checking.specs.Laws.State.{room-or-not}
use Rattle.checking.specs.Promise.{Filled}
use Rattle.writing.specs.Figures.{decimal, spaced}
use Rattle.wording.specs.Replies.{each, points}
use Rattle.acting.specs.Reply.{listed}

pick-few : (f : ℕ → Bool) (n : ℕ) → length (pick f (below n)) ≤ n
pick-few f n = omega (arith, length-pick f (below n), count_most f (below n), length-below n)

-- the buffer for the largest board is never too short
list-flags : (g : rules.Game) (flags : ℕ) (buffer : List ℕ) → area g.height g.width ≤ length buffer → list_answer g flags buffer ≡ flags_answer flags
unfolding list_answer flags_answer refuse ◌then◌ accepts number
list-flags g flags buffer l =
    rw (le-ltb (length buffer) (area g.height g.width) l) (⊎_elim (λ t. rw t) (λ t. rw t) (decided (ltb max_flags flags)))

legals-few : (g : rules.Game) (bytes : List ℕ) (flags : ℕ) → length (legals g bytes flags) ≤ area g.height g.width
unfolding legals
legals-few g bytes flags = pick-few _ (area g.height g.width)

module _ (g : Game) (bytes : List ℕ) (flags : ℕ) (before : List ℕ) (r : Listed) (after : List ℕ) (long : length before ≡ max_area)
    (f : Filled (TrueState g × RoomIn g (length bytes)) (list_answer (view_of g) flags before) (legals (view_of g) bytes flags) before r after) where
  abbrev is : Type 0
  is = TrueState g × RoomIn g (length bytes)

  abbrev answer : Answer
  answer = list_answer (view_of g) flags before

  abbrev ps : List ℕ
  ps = legals (view_of g) bytes flags

  fits : is → area (view_of g).height (view_of g).width ≤ max_area
  fits t = area-fits t.0.game.size

  answer-flags : is → answer ≡ flags_answer flags
  answer-flags t = list-flags (view_of g) flags before (let l = fits t in omega arith)

  -- accepted, as many as there are; refused, none
  count-accepted : is → accepts answer ≡ true → r.count ≡ length ps
  count-accepted t y = (f.told t).counted ∙ ap (λ (b : Bool). length (cond b ps [])) y

  count-refused : is → accepts answer ≡ false → r.count ≡ 0
  count-refused t n = (f.told t).counted ∙ ap (λ (b : Bool). length (cond b ps [])) n

  count-damaged : ¬ is → r.count ≡ 0
  unfolding accepts number
  count-damaged n = (f.damaged n).counted

  -- how many points there are
  pub listed-few : r.count ≤ max_area
  listed-few =
      ⊎_elim
      (λ t.
      ⊎_elim (λ y. let e = count-accepted t y in let l = fits t in let m = legals-few (view_of g) bytes flags in omega arith)
      (λ n. let e = count-refused t n in omega arith)
      (decided (accepts answer)))
      (λ n. let e = count-damaged n in omega arith)
      (room-or-not g (length bytes))

  -- ---- The text

  pub refused-text : r.number ≢ 0 → is → decimal r.number ≡ listed (flags_answer flags) ps
  unfolding listed
  refused-text n t =
      let same = (f.told t).answered ∙ ap number (answer-flags t) in
      let refused : accepts (flags_answer flags) ≡ false = refuses-other (flags_answer flags) (λ z. n (same ∙ z)) in
      ap decimal same ∙ sym (ap (λ (b : Bool). cond b (points ps) (decimal (number (flags_answer flags)))) refused)

  pub damaged-text : ¬ is → decimal r.number ≡ decimal (number Damaged)
  damaged-text n = ap decimal (f.damaged n).answered

  pub accepted-true : r.number ≡ 0 → ¬ ¬ is
  unfolding number
  accepted-true e n = let z : ◌≡◌ {A = ℕ} 3 0 = sym (f.damaged n).answered ∙ e in omega arith

  pub accepted-text : r.number ≡ 0 → is → decimal 0 ++ spaced (decimal r.count) ++ each (take r.count after) ≡ listed (flags_answer flags) ps
  unfolding listed points filled
  accepted-text e t =
      let yes' : accepts answer ≡ true = accepts-zero answer (sym (f.told t).answered ∙ e) in
      let counted = count-accepted t yes' in
      let buffer : after ≡ ps ++ drop (length ps) before = (f.told t).buffer ∙ ap (λ (b : Bool). cond b (ps ++ drop (length ps) before) before) yes' in
      let front : take r.count after ≡ ps = ap (take r.count) buffer ∙ take_at ps (drop (length ps) before) r.count (sym counted) in
      ap₂ (λ (k : ℕ) (l : List ℕ). decimal 0 ++ spaced (decimal k) ++ each l) counted front
      ∙ sym (ap (λ (b : Bool). cond b (points ps) (decimal (number (flags_answer flags)))) (ap accepts (sym (answer-flags t)) ∙ yes'))
