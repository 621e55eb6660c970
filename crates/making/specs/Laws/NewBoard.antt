-- A new board of a size that 01 allows is true, and every point of it is empty.
use Rattle.std.specs.Prelude.{◌≡◌, refl, true, false, ◌&&◌, List, ℕ}
use Rattle.std.proofs.Common.{sym, ◌∙◌, subst, ⊎_elim, arith}
use Rattle.std.proofs.Math.Path.{ap}
use Rattle.std.proofs.Math.Bool.{not}
use Rattle.rules.specs.Answers.{Accepted, BadSize, number, accepts}
use Rattle.rules.specs.Calls.{side_ok, size_answer, board_answer, board_from}
use Rattle.rules.specs.Game.{TrueSize, empty_board}
use Rattle.rules.proofs.Laws.Lists.{decided, not-both}
use Rattle.rules.proofs.Laws.Calls.{size-true}
use Rattle.board.specs.Board.{new_board}
use Rattle.board.specs.Laws.NewBoard.{new-colours, new_true}
use Rattle.rules.proofs.Laws.Answers.{refuses, passes}
use Rattle.placing.specs.declared.place.Placed.{Placed}
use Rattle.placing.specs.Placing.{Stands}
use Rattle.placing.specs.Laws.Answers.{outcome-refused, outcome-accepted}
use Rattle.making.specs.Making.{NewBoard, FromColours}

module _ (h w : ℕ) where
  pub new-stands : TrueSize h w → Stands h w (empty_board h w) (new_board h w)
  unfolding new_board
  new-stands size = record { is_true = new_true h w size; tall = refl; wide = refl; colours = new-colours h w }

module _ (h w : ℕ) (r : Placed) where
  pub size-made : side_ok h && side_ok w ≡ true → r.answer ≡ 0 → r.board ≡ new_board h w → NewBoard h w r
  unfolding size_answer accepts number
  size-made ok e same =
      let a : size_answer h w ≡ Accepted = passes BadSize (ap not ok) in
      record {
        outcome = outcome-accepted (e ∙ ap number (sym a)) (ap accepts a) (subst (Stands h w (empty_board h w)) (sym same) (new-stands h w (size-true h w ok)));
        made = λ y. same;
      }

  pub size-refused : side_ok h && side_ok w ≡ false → r.answer ≡ 1 → r.board ≡ new_board 1 1 → NewBoard h w r
  unfolding size_answer accepts number
  size-refused bad e same =
      let a : size_answer h w ≡ BadSize = refuses BadSize (ap not bad) in
      record { outcome = outcome-refused (e ∙ ap number (sym a)) (ap accepts a) same; made = λ y. absurd (not-both y (ap accepts a)) }

-- a board from colours is true in either case, and is what 01 gives back
pub from-stands :
    (h w : ℕ) (cols : List ℕ) (r : Placed) → FromColours h w cols r →
    Stands (board_from h w cols).height (board_from h w cols).width (board_from h w cols).colours r.board
unfolding board_from
from-stands h w cols r o =
    ⊎_elim
    (λ y. rw y (o.placed y))
    (λ n. rw n (subst (Stands 1 1 (empty_board 1 1)) (sym (o.refused n)) (new-stands 1 1 (record { tall = omega arith; low = omega arith; wide = omega arith; narrow = omega arith }))))
    (decided (accepts (board_answer h w cols)))
