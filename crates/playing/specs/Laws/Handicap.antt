-- Laws of a handicap: it is refused after the start, the board of a game that has not begun is bare, and the state that the code makes
-- shows what the rules say and is true again.
use Rattle.std.specs.Prelude.{◌≡◌, true, false, ◌≢◌, ℕ, suc, ◌+◌, ◌≤◌}
use Rattle.std.proofs.Math.Path.{refl, ap, subst}
use Rattle.std.proofs.Common.{sym, ◌∙◌, eq-eqb, ne_eqb}
use Rattle.std.proofs.Math.Bool.{not}
use mathlib.Core.List.{List, [], ◌∷◌}
use Rattle.std.proofs.Math.ListN.{length}
use Rattle.rules.specs.Sizes.{max_area}
use Rattle.rules.specs.Colours.{white}
use Rattle.rules.specs.Answers.{Answer, number, accepts, NotAtStart}
use Rattle.rules.specs.Game as rules
use Rattle.rules.specs.Calls.{Spot, lay_black, lay_answer, handicap_answer, handicap_game, handicapped}
use Rattle.rules.proofs.Laws.Keep.{handicap-keeps}
use Rattle.board.specs.Board.{colours_of}
use Rattle.placing.specs.declared.place.Placed.{Placed}
use Rattle.placing.specs.Placing.{Stands, Bare, spots_of, Handicapped}
use Rattle.rules.proofs.Laws.Answers.{test-refuses, test-passes, zero-accepts, other-refuses}
use Rattle.game.specs.declared.state.Game.{Game}
use Rattle.game.specs.View.{turn_of, ko_of, outcome_of, begun_of, view_of, TrueState}
use Rattle.game.specs.Promise.{CalledAlone}
use Rattle.game.specs.Laws.Promise.{alone-refused, alone-accepted}
use Rattle.playing.specs.After.{handicap_given}

pub spots-length : (ns : List ℕ) → length (spots_of ns) ≡ length ns
spots-length [] = refl
spots-length (n ∷ ns) = ap suc (spots-length ns)

-- ---- Before the start

module _ (g : Game) (is : TrueState g) (start : g.begun ≡ 0) where
  unbegun : begun_of g.begun ≡ false
  unfolding begun_of
  unbegun = ap not (eq-eqb g.begun 0 start)

  pub start-bare : Bare g.board
  unfolding view_of
  start-bare = record { is_true = is.board; bare = (is.game.unbegun unbegun).bare }

-- ---- The answer and the state

module _ (g : Game) (is : TrueState g) (spots : List Spot) where
  refused-by : (a : Answer) → handicap_answer (view_of g) spots ≡ a → accepts a ≡ false → {answer : ℕ} → answer ≡ number a → CalledAlone (handicapped (view_of g) [] spots) g answer g
  unfolding handicapped
  refused-by a e no' told = alone-refused g is (handicap_answer (view_of g) spots) _ (ap accepts e ∙ no') (told ∙ ap number (sym e))

  pub handicap-late : g.begun ≢ 0 → CalledAlone (handicapped (view_of g) [] spots) g (number NotAtStart) g
  unfolding view_of begun_of handicap_answer accepts number
  handicap-late n = refused-by NotAtStart (test-refuses NotAtStart _ refl (ap not (ne_eqb g.begun 0 n))) refl refl

  module _ (start : g.begun ≡ 0) where
    module _ (placed : Placed) (out : Handicapped g.board spots placed) where
      abbrev laid : Answer
      laid = lay_answer g.board.height g.board.width (colours_of g.board) spots

      by-laying : handicap_answer (view_of g) spots ≡ laid
      unfolding view_of handicap_answer
      by-laying = test-passes NotAtStart laid (unbegun g is start)

      pub handicap-refused : placed.answer ≢ 0 → CalledAlone (handicapped (view_of g) [] spots) g placed.answer g
      handicap-refused n = refused-by laid by-laying (other-refuses laid placed.answer out.answered n) out.answered

      module _ (zero' : placed.answer ≡ 0) where
        ok : accepts laid ≡ true
        ok = zero-accepts laid placed.answer out.answered zero'

        stands : Stands g.board.height g.board.width (lay_black g.board.width (colours_of g.board) spots) placed.board
        stands = out.placed ok

        kept : rules.TrueGame (handicap_game (view_of g) spots)
        kept = handicap-keeps (view_of g) spots is.game (ap accepts by-laying ∙ ok)

        pub spots-few : length spots ≤ max_area
        unfolding handicap_game
        spots-few = kept.handicapped

        shown : view_of (handicap_given g placed.board (length spots)) ≡ handicap_game (view_of g) spots
        unfolding view_of handicap_given handicap_game turn_of begun_of
        shown =
            λ i.
            record {
              height = stands.tall i;
              width = stands.wide i;
              flags = g.flags;
              colours = stands.colours i;
              turn = white;
              passes = g.passes;
              white_held = g.held.white;
              black_held = g.held.black;
              ko_point = ko_of g.ko;
              outcome = outcome_of g.outcome;
              handicap = length spots;
              accepted = g.accepted;
              black_put = g.put.black + length spots;
              white_put = g.put.white;
              records = g.records;
              begun = true;
            }

        pub handicap-laid : {n : ℕ} → length spots ≡ n → CalledAlone (handicapped (view_of g) [] spots) g 0 (handicap_given g placed.board n)
        unfolding handicapped handicap_given
        handicap-laid e =
            subst (λ (n : ℕ). CalledAlone (handicapped (view_of g) [] spots) g 0 (handicap_given g placed.board n)) e
            (alone-accepted g is (handicap_answer (view_of g) spots) (handicap_game (view_of g) spots) (ap accepts by-laying ∙ ok) shown
            (record { board = stands.is_true; game = subst rules.TrueGame (sym shown) kept }))
