-- The tests of 01 for a board from colours, and placing them on a new board.
use Rattle.std.specs.Prelude.{◌≡◌, Bool, true, false, List, ◌≢◌, ℕ, ltb, length}
use Rattle.std.proofs.Math.Path.{refl}
use Rattle.std.proofs.Common.{sym, ap, ap₂, ◌∙◌, subst, eq-eqb, ne_eqb, true≢false}
use Rattle.std.proofs.Math.Bool.{not}
use Rattle.rules.specs.Lists.{any}
use Rattle.rules.specs.Colours.{white}
use Rattle.rules.specs.Points.{area}
use Rattle.rules.specs.Game.{empty_board}
use Rattle.rules.specs.Calls.{choked, size_answer, board_answer}
use Rattle.rules.specs.Answers.{Answer, NoLiberty, BadLength, BadColour, number, accepts, ◌then◌, refuse}
use Rattle.rules.proofs.Laws.Answers.{then-refused, then-accepted, test-refuses, test-passes}
use Rattle.board.specs.declared.goban.Board.{Board}
use Rattle.placing.specs.declared.place.Placed.{Placed}
use Rattle.placing.specs.Placing.{Stands, Outcome, Placing, PlacedOn}
use Rattle.placing.specs.Laws.Colours.{known-colours}

-- ---- The tests, in order

module _ (h w : ℕ) (cols : List ℕ) where
  pub board-size : accepts (size_answer h w) ≡ false → board_answer h w cols ≡ size_answer h w
  unfolding board_answer
  board-size bad = then-refused (size_answer h w) _ bad

  module _ (sized : accepts (size_answer h w) ≡ true) where
    pub board-length : length cols ≢ area h w → board_answer h w cols ≡ BadLength
    unfolding board_answer accepts number
    board-length n = then-accepted (size_answer h w) _ sized ∙ test-refuses BadLength _ refl (ap not (ne_eqb (length cols) (area h w) n))

    module _ (covers : length cols ≡ area h w) where
      after-length : board_answer h w cols ≡ (refuse BadColour (any (ltb white) cols) then refuse NoLiberty (choked h w cols))
      unfolding board_answer
      after-length = then-accepted (size_answer h w) _ sized ∙ test-passes BadLength _ (ap not (eq-eqb (length cols) (area h w) covers))

      pub board-colour : any (ltb white) cols ≡ true → board_answer h w cols ≡ BadColour
      unfolding accepts number
      board-colour y = after-length ∙ test-refuses BadColour _ refl y

      pub board-choked : any (ltb white) cols ≡ false → board_answer h w cols ≡ refuse NoLiberty (choked h w cols)
      board-choked n = after-length ∙ test-passes BadColour _ n

-- a test that refuses gives its own answer
pub refused-as : (a : Answer) (t : Bool) → accepts (refuse a t) ≡ false → refuse a t ≡ a
unfolding accepts number refuse
refused-as a true bad = refl
refused-as a false bad = absurd (true≢false bad)

-- ---- Placing on a new board

module _ (h w : ℕ) (b : Board) (is : Stands h w (empty_board h w) b) where
  pub stands-placing : (cols : List ℕ) → length cols ≡ area h w → any (ltb white) cols ≡ false → Placing b cols
  stands-placing cols covers known =
      record {
        onto = record { is_true = is.is_true; bare = is.colours ∙ sym (ap₂ empty_board is.tall is.wide) };
        covers = covers ∙ sym (ap₂ area is.tall is.wide);
        known = known-colours cols known;
      }

  pub placed-sized :
      (cols : List ℕ) (r : Placed) →
      PlacedOn b cols r →
      Outcome (refuse NoLiberty (choked h w cols)) h w cols b r
  placed-sized cols r o =
      subst (λ (x : ℕ). Outcome (refuse NoLiberty (choked h x cols)) h x cols b r) is.wide
      (subst (λ (x : ℕ). Outcome (refuse NoLiberty (choked x b.width cols)) x b.width cols b r) is.tall o)
