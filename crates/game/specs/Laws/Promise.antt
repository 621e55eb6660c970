-- Laws of Promise: a new game is the fresh one, of the size asked for or of 1 × 1, by the order of its tests; a call with no history keeps what it promises where the state is damaged, where the rules refuse, and where they accept.
use Rattle.std.specs.Prelude.{◌≡◌, Bool, true, false, [], ℕ, ◌≤◌, ◌<◌}
use Rattle.std.proofs.Math.Path.{refl, sym, ap, subst}
use Rattle.std.proofs.Common.{◌∙◌, arith, ⊎_elim}
use Rattle.std.proofs.Math.Bool.{cond}
use Rattle.std.proofs.lemmas.Bool.{cases_lt}
use borrow.Author.Tests.{eqb-true, lt-ltb, le-ltb}
use Rattle.rules.specs.Sizes.{max_flags}
use Rattle.rules.specs.Answers.{Answer, Accepted, BadSize, BadFlags, Damaged, number, accepts, refuse, ◌then◌}
use Rattle.rules.specs.Game as rules
use Rattle.rules.specs.Game.{TrueSize}
use Rattle.rules.specs.Calls.{Result, result, side_ok, size_answer, flags_answer, new_answer, new_game}
use Rattle.rules.proofs.Laws.Lists.{and_both, decided}
use Rattle.rules.proofs.Laws.Calls.{size-true}
use Rattle.game.specs.declared.state.Game.{Game}
use Rattle.game.specs.View.{view_of, TrueState, fresh_state}
use Rattle.game.specs.Promise.{Made, CalledAlone}
use Rattle.game.specs.Laws.View.{fresh-view, fresh-true}

-- ---- A new game

module _ (h w flags : ℕ) where
  new-by-answer : {a : Answer} → new_answer h w flags ≡ a → new_game h w flags ≡ cond (accepts a) (rules.fresh_game h w flags) (rules.fresh_game 1 1 0)
  unfolding new_game
  new-by-answer e = ap (λ (a : Answer). cond (accepts a) (rules.fresh_game h w flags) (rules.fresh_game 1 1 0)) e

  pub made-refused : (a : Answer) → accepts a ≡ false → new_answer h w flags ≡ a → {answer : ℕ} {g' : Game} → answer ≡ number a → g' ≡ fresh_state 1 1 0 → Made h w flags answer g'
  made-refused a no' e told same =
      record {
        answered = told ∙ ap number (sym e);
        shown =
            ap view_of same ∙ fresh-view 1 1 0
            ∙ sym (new-by-answer e ∙ ap (λ (b : Bool). cond b (rules.fresh_game h w flags) (rules.fresh_game 1 1 0)) no');
        kept = subst TrueState (sym same) (fresh-true 1 1 0 (record { tall = omega arith; low = omega arith; wide = omega arith; narrow = omega arith }) (omega arith));
      }

  -- in the order of the tests
  pub too_low : side_ok h ≡ false → new_answer h w flags ≡ BadSize
  unfolding new_answer size_answer refuse ◌then◌ accepts number
  too_low bad = rw bad

  pub too_narrow : side_ok h ≡ true → side_ok w ≡ false → new_answer h w flags ≡ BadSize
  unfolding new_answer size_answer refuse ◌then◌ accepts number
  too_narrow tall bad = rw (tall, bad)

  pub unflagged : side_ok h ≡ true → side_ok w ≡ true → max_flags < flags → new_answer h w flags ≡ BadFlags
  unfolding new_answer size_answer flags_answer refuse ◌then◌ accepts number
  unflagged tall wide bad = rw (tall, wide, lt-ltb max_flags flags bad)

  pub can_begin : side_ok h ≡ true → side_ok w ≡ true → flags ≤ max_flags → new_answer h w flags ≡ Accepted
  unfolding new_answer size_answer flags_answer refuse ◌then◌ accepts number
  can_begin tall wide fits = rw (tall, wide, le-ltb max_flags flags fits)

  -- what is accepted passes every test
  begins : new_answer h w flags ≡ Accepted → (side_ok h ≡ true) × (side_ok w ≡ true) × (flags ≤ max_flags)
  begins e =
      ⊎_elim (λ (tall : side_ok h ≡ true).
      ⊎_elim (λ (wide : side_ok w ≡ true).
      ⊎_elim (λ (over : max_flags < flags). let bad : BadFlags ≡ Accepted = sym (unflagged tall wide over) ∙ e in cc)
      (λ (fits : flags ≤ max_flags). (tall, wide, fits))
      (cases_lt max_flags flags))
      (λ (narrow : side_ok w ≡ false). let bad : BadSize ≡ Accepted = sym (too_narrow tall narrow) ∙ e in cc)
      (decided (side_ok w)))
      (λ (low : side_ok h ≡ false). let bad : BadSize ≡ Accepted = sym (too_low low) ∙ e in cc)
      (decided (side_ok h))

  pub made-fresh : new_answer h w flags ≡ Accepted → {answer : ℕ} {g' : Game} → answer ≡ number Accepted → g' ≡ fresh_state h w flags → Made h w flags answer g'
  unfolding accepts number
  made-fresh e told same =
      let (tall, wide, fits) = begins e in
      record {
        answered = told ∙ ap number (sym e);
        shown = ap view_of same ∙ fresh-view h w flags ∙ sym (new-by-answer e);
        kept = subst TrueState (sym same) (fresh-true h w flags (size-true h w (and_both tall wide)) fits);
      }

-- ---- A call with no history

module _ (g : Game) where
  pub alone-damaged : (call : Result) → ¬ TrueState g → CalledAlone call g (number Damaged) g
  alone-damaged call not =
      record {
        damaged = λ n. (refl, refl);
        answered = λ is. absurd (not is);
        shown = λ is. absurd (not is);
        kept = λ is. absurd (not is);
        refused = λ n. refl;
      }

  module _ (is : TrueState g) (a : Answer) (new : rules.Game) where
    pub alone-refused : accepts a ≡ false → {answer : ℕ} → answer ≡ number a → CalledAlone (result a (view_of g) [] new []) g answer g
    unfolding result
    alone-refused no' e =
        record {
          damaged = λ n. absurd (n is);
          answered = λ t. e;
          shown = λ t. ap (λ (b : Bool). cond b new (view_of g)) (sym no');
          kept = λ t. is;
          refused = λ n. refl;
        }

    pub alone-accepted : {g' : Game} → accepts a ≡ true → view_of g' ≡ new → TrueState g' → CalledAlone (result a (view_of g) [] new []) g 0 g'
    unfolding result accepts
    alone-accepted {g'} yes' shown kept =
        record {
          damaged = λ n. absurd (n is);
          answered = λ t. sym (eqb-true (number a) 0 yes');
          shown = λ t. shown ∙ ap (λ (b : Bool). cond b new (view_of g)) (sym yes');
          kept = λ t. kept;
          refused = λ n. absurd (n refl);
        }
