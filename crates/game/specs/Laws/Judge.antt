-- Laws of Judge: a state is true exactly if its board is, its numbers are in range, its sums hold, and without the mark it is untouched.
use Rattle.std.specs.Prelude.{◌≡◌, refl, Bool, true, false, ℕ, ◌+◌, ◌≤◌, ◌<◌, eqb, Some}
use Rattle.std.proofs.Common.{sym, ◌∙◌, true≢false, inl, inr, ⊎_elim, arith, eqb-true, eq-eqb}
use Rattle.std.proofs.Math.Path.{ap, subst}
use Rattle.std.proofs.Math.Bool.{not}
use Rattle.std.proofs.lemmas.Option.{none-some, same_Some}
use Rattle.std.proofs.lemmas.Bool.{not-false}
use Rattle.rules.specs.Sizes.{max_stones}
use Rattle.rules.specs.Points.{area}
use Rattle.rules.specs.Colours.{black, white}
use Rattle.rules.specs.Game.{Player}
use Rattle.rules.proofs.Laws.Lists.{decided}
use Rattle.board.specs.declared.judge.Stones.{Stones}
use Rattle.board.specs.Board.{colours_of}
use Rattle.board.specs.True.{TrueBoard}
use Rattle.board.specs.Laws.Chains.{true-colours}
use Rattle.game.specs.declared.state.Game.{Game}
use Rattle.game.specs.View.{outcome_of, begun_of, view_of, TrueState}
use Rattle.board.specs.Verdict.{Counted}
use Rattle.game.specs.Judge.{Decides, InRange, Summed, Untouched}
use Rattle.board.specs.Laws.NewBoard.{no-stones}
use Rattle.game.specs.Laws.View.{turn-player}

-- ---- An answer

pub decides-yes : {P : Type 0} → P → Decides true P
decides-yes is = record { sound = λ e. is; complete = λ p. refl }

pub decides-no : {P : Type 0} → ¬ P → Decides false P
decides-no not = record { sound = λ e. absurd (true≢false (sym e)); complete = λ p. absurd (not p) }

-- the player whom an outcome names
outcome-player : (x c : ℕ) → outcome_of x ≡ Some c → Player c
unfolding outcome_of Player
outcome-player x c e =
    ⊎_elim (λ (b : eqb x black ≡ true). inl (sym (same_Some black c (rw b at e))))
    (λ (n : eqb x black ≡ false).
    ⊎_elim (λ (w : eqb x white ≡ true). inr (sym (same_Some white c (rw (n, w) at e))))
    (λ (m : eqb x white ≡ false). absurd (none-some c (rw (n, m) at e)))
    (decided (eqb x white)))
    (decided (eqb x black))

-- what two clauses promise
pub two_ways : {r : Bool} {P : Type 0} → Decides r P → (r ≡ true → P) × (P → r ≡ true)
two_ways d = (d.sound, d.complete)

module _ (g : Game) where
  abbrev Ranged : ℕ → Type 0
  Ranged end = InRange end g.flags g.passes g.ko g.handicap

  abbrev Sums : Stones → Type 0
  Sums on = Summed on g.held g.put g.handicap g.accepted

  abbrev Start : Type 0
  Start = Untouched g.put g.records g.passes g.outcome

  -- ---- A true state passes every test

  module _ (is : TrueState g) where
    pub true-ranged : (end : ℕ) → end ≡ area g.board.height g.board.width → Ranged end
    unfolding view_of
    true-ranged end e =
        record {
          flagged = is.game.flagged;
          pauses = is.game.pauses;
          handicapped = is.game.handicapped;
          ko_on = λ k stands. subst (λ (n : ℕ). k < n) (sym e) (is.game.ko_on k stands);
        }

    pub true-sums : (on : Stones) → Counted g.board on → Sums on
    unfolding view_of
    true-sums on counted =
        record {
          black_kept = is.game.black_kept ∙ ap (λ (n : ℕ). n + g.held.black) (sym counted.blacks);
          white_kept = is.game.white_kept ∙ ap (λ (n : ℕ). n + g.held.white) (sym counted.whites);
          both_put = is.game.both_put;
        }

    pub true-start : g.begun ≡ 0 → Start
    unfolding view_of begun_of
    true-start e =
        let u = is.game.unbegun (ap not (eq-eqb g.begun 0 e)) in
        record { unput = u.unput; unrecorded = u.unrecorded; unpassed = u.unpassed; undecided = u.undecided }

  -- ---- And what passes every test is a true state

  pub made-true :
      TrueBoard g.board → g.accepted ≤ max_stones → (end : ℕ) → end ≡ area g.board.height g.board.width → Ranged end →
      (on : Stones) → Counted g.board on → Sums on → (g.begun ≡ 0 → Start) → TrueState g
  unfolding view_of begun_of
  made-true board limited end e ranged on counted sums start =
      let colours = true-colours g.board board in
      let blacks = counted.blacks in
      let whites = counted.whites in
      record {
        board = board;
        game =
            record {
              size = board.table.size;
              flagged = ranged.flagged;
              board = colours;
              mover = turn-player g.turn;
              pauses = ranged.pauses;
              ko_on = λ k stands. subst (λ (n : ℕ). k < n) e (ranged.ko_on k stands);
              named = outcome-player g.outcome;
              limited = limited;
              handicapped = ranged.handicapped;
              black_kept = sums.black_kept ∙ ap (λ (n : ℕ). n + g.held.black) blacks;
              white_kept = sums.white_kept ∙ ap (λ (n : ℕ). n + g.held.white) whites;
              both_put = sums.both_put;
              unbegun =
                  λ n.
                  let u = start (eqb-true g.begun 0 (not-false (eqb g.begun 0) n)) in
                  record {
                    bare = no-stones _ _ (colours_of g.board) colours (omega (arith, u.unput, sums.black_kept)) (omega (arith, u.unput, sums.white_kept));
                    unput = u.unput;
                    unrecorded = u.unrecorded;
                    unpassed = u.unpassed;
                    undecided = u.undecided;
                  };
            };
      }
