-- Laws of Answered: a query refuses or tells by its answer's number, and two results that meet its promise are equal.
use Rattle.std.specs.Prelude.{◌≡◌, refl, Bool, true, false, not, ◌&&◌, ◌||◌, ℕ, ◌<◌, cond, eqb, ltb, leb, Result, Ok, Err}
use Rattle.std.proofs.Common.{sym, ap, ◌∙◌, ⊎_elim, leb-false}
use Rattle.rules.specs.Points.{area, index}
use Rattle.rules.specs.Answers.{number}
use Rattle.points.specs.Reason.{reason, answer_of}
use Rattle.points.specs.declared.answers.Refusal.{Refusal}
use Rattle.points.specs.declared.answers.Refusal.TheVariants.{Damaged, OffBoard}
use Rattle.rules.proofs.Laws.Lists.{decided, not-both, or-none-left, or-none-right}
use Rattle.rules.proofs.Laws.Calls.{off-not-on}
use Rattle.rules.proofs.Laws.Points.{index_on}
use Rattle.board.specs.declared.goban.Board.{Board}
use Rattle.board.specs.True.{TrueBoard}
use Rattle.board.specs.Laws.Judge.{true-or-not}
use Rattle.vetting.specs.Answered.{off_board, Judged, Answered}

-- ---- The answer alone

module _ {b : Board} {off : Bool} where
  pub judged-damaged : ¬ TrueBoard b → Judged b off (Err Damaged)
  judged-damaged f =
      record {
        damaged = λ _. refl;
        beyond = λ t _. absurd (f t);
        accepted = λ t _. absurd (f t);
        sound = λ e. cc;
      }

  pub judged-beyond : TrueBoard b → off ≡ true → Judged b off (Err OffBoard)
  judged-beyond t e =
      record {
        damaged = λ f. absurd (f t);
        beyond = λ _ _. refl;
        accepted = λ _ e'. absurd (not-both e e');
        sound = λ z. cc;
      }

  pub judged-accepted : TrueBoard b → off ≡ false → Judged b off (Ok tt)
  judged-accepted t e =
      record {
        damaged = λ f. absurd (f t);
        beyond = λ _ e'. absurd (not-both e' e);
        accepted = λ _ _. refl;
        sound = λ _. (t, e);
      }

-- what is refused is not accepted
pub refused-so : {r : Refusal} → ◌≡◌ {A = Result Unit Refusal} (Err r) (Ok tt) → ⊥
refused-so e = cc

-- what was refused without looking at another point stays refused
pub judged-kept : {b : Board} (off more : Bool) {r : Refusal} → Judged b off (Err r) → Judged b (off || more) (Err r)
judged-kept off more j =
    record {
      damaged = j.damaged;
      beyond = λ t _. ⊎_elim (j.beyond t) (λ e. absurd (refused-so (j.accepted t e))) (decided off);
      accepted = λ t e. absurd (refused-so (j.accepted t (or-none-left off more e)));
      sound = λ e. absurd (refused-so e);
    }

-- ---- The whole result

module _ {R : Type 0} {b : Board} {off : Bool} (refused : ℕ → R) (said : R) where
  pub answered-refused : {r : Refusal} → Judged b off (Err r) → {x : R} → x ≡ refused (number (reason r)) → Answered b off refused said x
  answered-refused j q =
      record {
        damaged = λ f. q ∙ ap (λ (a : Result Unit Refusal). refused (number (answer_of a))) (j.damaged f);
        beyond = λ t e. q ∙ ap (λ (a : Result Unit Refusal). refused (number (answer_of a))) (j.beyond t e);
        accepted = λ t e. absurd (refused-so (j.accepted t e));
      }

  pub answered-told : TrueBoard b × (off ≡ false) → {r : R} → r ≡ said → Answered b off refused said r
  answered-told (t, e) q = record { damaged = λ f. absurd (f t); beyond = λ _ e'. absurd (not-both e' e); accepted = λ _ _. q }

-- the answer alone is a whole result too: the refusal that the number stands for, or nothing
abbrev pub refused_by : ℕ → Result Unit Refusal
refused_by n = cond (eqb n 3) (Err Damaged) (Err OffBoard)

pub judged-answered : {b : Board} {off : Bool} {a : Result Unit Refusal} → Judged b off a → Answered b off refused_by (Ok tt) a
unfolding number
judged-answered j = record { damaged = j.damaged; beyond = j.beyond; accepted = j.accepted }

-- a board is a true one or it is not, so a promise leaves nothing free
pub answered-unique :
    {R : Type 0} {b : Board} {off : Bool} {refused : ℕ → R} {said r r' : R} → Answered b off refused said r → Answered b off refused said r' → r ≡ r'
answered-unique {b} {off} a a' =
    ⊎_elim
    (λ t. ⊎_elim (λ e. a.beyond t e ∙ sym (a'.beyond t e)) (λ e. a.accepted t e ∙ sym (a'.accepted t e)) (decided off))
    (λ f. a.damaged f ∙ sym (a'.damaged f))
    (true-or-not b)

-- ---- The test of a point's row and column

module _ (b : Board) (r c : ℕ) where
  off_board-valid : off_board b r c ≡ not (ltb r b.height && ltb c b.width)
  unfolding off_board
  off_board-valid = off-not-on b.height b.width r c

  -- what the test of a coordinate says of it
  pub valid-says : {valid t : Bool} → valid ≡ ltb r b.height && ltb c b.width → not valid ≡ t → off_board b r c ≡ t
  valid-says e n = off_board-valid ∙ ap not (sym e) ∙ n

  pub off_board-on : off_board b r c ≡ false → index b.width r c < area b.height b.width
  unfolding off_board
  off_board-on e = index_on (leb-false b.height r (or-none-left _ _ e)) (leb-false b.width c (or-none-right (leb b.height r) _ e))
