-- `picture_true`: refused, or drawn by the view's colours, which are the board's.
use mathlib.Core.Path.{◌≡◌, sym, subst}
use mathlib.Core.List.{List}
use Prim.Native.Nat.{ℕ, ◌≤◌}
use native.Mathlib.Omega.{arith}
use lib.ListN.{length}
use Rattle.rules.specs.Picture.{picture, picture_bytes}
use Rattle.board.specs.Board.{colours_of}
use Rattle.viewing.specs.declared.view.View.{View}
use Rattle.viewing.specs.View.{view_of}
use Rattle.viewing.specs.Front.{Front}
use Rattle.viewing.specs.Laws.View.{view-paints}
use Rattle.drawing.specs.Laws.Picture.{picture-same, picture-short, picture-fits}
use Rattle.listing.specs.Laws.Answers.{left-refused, left-filled}
use Rattle.drawing.proofs.draw.picture_true.Goals.{After-view_of-view}
use Rattle.drawing.proofs.draw.picture_true.Goals as goal

enough : (c : After-view_of-view) → let a = c.args in picture_bytes a.board.height a.board.width ≤ length a.buffer.now
enough c = omega (arith, c.picture_bytes.ensures, c.if-buffer-picture_bytes.false)

pub returns-then-buffer-picture_bytes : goal.returns-then-buffer-picture_bytes
returns-then-buffer-picture_bytes c =
    let a = c.args in
    left-refused _ _ _ 14 (sym (picture-short a.board.height a.board.width a.buffer.now (omega (arith, c.picture_bytes.ensures))))
    (λ (z : ◌≡◌ {A = ℕ} 14 0). omega arith)

pub draw-requires : goal.draw-requires
draw-requires c = enough (goal.at.draw-requires c).After-view_of-view

pub returns : goal.returns
returns c =
    let b = c.args.board in
    let same : picture b.height b.width c.view_of-view.result.colours ≡ picture b.height b.width (colours_of b) =
    subst (λ (v : View). picture b.height b.width v.colours ≡ picture b.height b.width (colours_of b)) (sym c.view_of-view.ensures)
    (picture-same b.height b.width (view_of b).colours (colours_of b) (view-paints b c.requires)) in
    left-filled _ _ _ (picture-fits _ _ _ (enough (goal.at.returns c).After-view_of-view))
    (subst (λ (xs : List ℕ). Front xs c.args.buffer.now c.draw.result c.draw.new.buffer) same
    c.draw.ensures)
