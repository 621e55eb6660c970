-- Laws of Promise: what a call on a true state promises is what a call on any state does, once it is judged; it keeps its promise by
-- changing nothing where the rules refuse, and by doing what they say where they accept.
use Rattle.std.specs.Prelude.{◌≡◌, refl, Bool, true, false, List, ℕ}
use Rattle.std.proofs.Math.Path.{sym, ap}
use Rattle.std.proofs.Common.{◌∙◌, eqb-true}
use Rattle.std.proofs.Math.Bool.{cond}
use Rattle.std.proofs.Math.ListN.{length}
use Rattle.rules.specs.Answers.{Answer, Damaged, number, accepts}
use Rattle.rules.specs.Game as rules
use Rattle.rules.specs.Calls.{Result, result}
use Rattle.game.specs.declared.state.Game.{Game}
use Rattle.game.specs.View.{view_of, TrueState, RoomIn}
use Rattle.game.specs.Promise.{Called}
use Rattle.playing.specs.Promise.{CalledTrue}

-- ---- By the judge

module _ {P : Type 0} {call : Result} {g : Game} {bytes : List ℕ} where
  pub called-damaged : ¬ P → Called P call g bytes (number Damaged) g bytes
  called-damaged not =
      record {
        damaged = λ n. (refl, refl, refl);
        answered = λ is. absurd (not is);
        shown = λ is. absurd (not is);
        lent = λ is. absurd (not is);
        kept = λ is. absurd (not is);
        refused = λ n. (refl, refl);
      }

  pub called-true : {answer : ℕ} {g' : Game} {bytes' : List ℕ} → P → CalledTrue call g bytes answer g' bytes' → Called P call g bytes answer g' bytes'
  called-true is done =
      record {
        damaged = λ n. absurd (n is);
        answered = λ t. done.answered;
        shown = λ t. done.shown;
        lent = λ t. done.lent;
        kept = λ t. done.kept;
        refused = done.refused;
      }

-- ---- By the rules' answer

module _ (g : Game) (bytes : List ℕ) (is : TrueState g) (room : RoomIn g (length bytes)) (a : Answer) (new : rules.Game) (new_bytes : List ℕ) where
  pub true-refused : accepts a ≡ false → {answer : ℕ} → answer ≡ number a → CalledTrue (result a (view_of g) bytes new new_bytes) g bytes answer g bytes
  unfolding result
  true-refused no' e =
      record {
        answered = e;
        shown = ap (λ (b : Bool). cond b new (view_of g)) (sym no');
        lent = ap (λ (b : Bool). cond b new_bytes bytes) (sym no');
        kept = is;
        long = refl;
        room = room;
        refused = λ n. (refl, refl);
      }

  pub true-accepted :
      {g' : Game} {bytes' : List ℕ} → accepts a ≡ true → view_of g' ≡ new → bytes' ≡ new_bytes → TrueState g' → length new_bytes ≡ length bytes →
      RoomIn g' (length bytes) → CalledTrue (result a (view_of g) bytes new new_bytes) g bytes 0 g' bytes'
  unfolding result accepts
  true-accepted yes' shown written kept long again =
      record {
        answered = sym (eqb-true (number a) 0 yes');
        shown = shown ∙ ap (λ (b : Bool). cond b new (view_of g)) (sym yes');
        lent = written ∙ ap (λ (b : Bool). cond b new_bytes bytes) (sym yes');
        kept = kept;
        long = ap length written ∙ long;
        room = again;
        refused = λ n. absurd (n refl);
      }
