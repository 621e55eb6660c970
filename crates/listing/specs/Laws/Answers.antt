-- Laws of a query's answer: what an accepted query tells, and what a query leaves.
use Rattle.std.proofs.Math.Path.{◌≡◌, refl, sym}
use Rattle.std.proofs.Common.{ap, ◌∙◌, arith, ltb-false, leb-false}
use Rattle.std.specs.Prelude.{Bool, ◌||◌, List, [], ◌++◌, ◌≢◌, ℕ, ◌≤◌, ltb, leb}
use Rattle.std.proofs.Math.Bool.{true, false, cond}
use Rattle.std.proofs.Math.ListN.{length, drop}
use Rattle.rules.specs.Points.{area}
use Rattle.rules.specs.Answers.{Answer, Damaged, OffBoard, BadLength, number, accepts}
use Rattle.rules.specs.Calls.{filled}
use Rattle.rules.proofs.Laws.Lists.{or-none-left, or-none-right}
use Rattle.rules.proofs.Laws.Answers.{accepts-zero, refuses-other}
use Rattle.rules.proofs.Laws.Calls.{then-first, then-second, refuse-not}
use Rattle.board.specs.declared.goban.Board.{Board}
use Rattle.board.specs.True.{TrueBoard}
use Rattle.listing.specs.declared.list.Listed.{Listed}
use Rattle.viewing.specs.declared.shows.Question as asks
use Rattle.viewing.specs.declared.shows.Question.TheVariants as questions
use Rattle.viewing.specs.Front.{over, Front}
use Rattle.viewing.specs.Seen.{OnBoard}
use Rattle.listing.specs.Lists.{length_answer, list_answer, Left, Answered}

-- ---- What an accepted query tells

pub length-enough : (h w n : ℕ) → accepts (length_answer h w n) ≡ true → area h w ≤ n
unfolding length_answer accepts number
length-enough h w n e = ltb-false n (area h w) (refuse-not BadLength (ltb n (area h w)) refl e)

pub accepted-list : (h w n : ℕ) (question : asks.Question) → accepts (list_answer h w n question) ≡ true → OnBoard h w question × (area h w ≤ n)
unfolding accepts number
accepted-list h w n questions.Stones e = (tt, length-enough h w n e)
accepted-list h w n (questions.Coloured c) e = (tt, length-enough h w n (then-first _ _ e))
accepted-list h w n (questions.At r c local) e =
    let off = refuse-not OffBoard (leb h r || leb w c) refl (then-first _ _ e) in
    ((leb-false h r (or-none-left _ _ off), leb-false w c (or-none-right (leb h r) _ off)), length-enough h w n (then-second _ _ e))

-- ---- What a query leaves

module _ (a : Answer) (places before : List ℕ) where
  pub left-refused : (n : ℕ) → n ≡ number a → n ≢ 0 → Left a places before (record { number = n; count = 0 }) before
  unfolding filled
  left-refused n e refused =
      let no-places : accepts a ≡ false = refuses-other a (λ z. refused (e ∙ z)) in
      record {
        answered = e;
        counted = sym (ap (λ (t : Bool). length (cond t places [])) no-places);
        buffer = sym (ap (λ (t : Bool). cond t (places ++ drop (length places) before) before) no-places);
      }

  pub left-filled : {count : ℕ} {after : List ℕ} → number a ≡ 0 → Front places before count after
      → Left a places before (record { number = 0; count = count }) after
  unfolding filled over
  left-filled {count} {after} e f =
      let all-places : accepts a ≡ true = accepts-zero a e in
      record {
        answered = sym e;
        counted = f.counted ∙ sym (ap (λ (t : Bool). length (cond t places [])) all-places);
        buffer = f.buffer ∙ sym (ap (λ (t : Bool). cond t (places ++ drop (length places) before) before) all-places);
      }

-- ---- By what the judge says

module _ (b : Board) (a : Answer) (places before : List ℕ) where
  pub answered-damaged : ¬ TrueBoard b → Answered b a places before (record { number = 3; count = 0 }) before
  unfolding number
  answered-damaged n =
      record { told = λ is. absurd (n is); damaged = λ _. left-refused Damaged places before 3 refl (λ (z : ◌≡◌ {A = ℕ} 3 0). omega arith) }

  pub answered-true : {r : Listed} {after : List ℕ} → TrueBoard b → Left a places before r after → Answered b a places before r after
  answered-true is l = record { told = λ _. l; damaged = λ n. absurd (n is) }
