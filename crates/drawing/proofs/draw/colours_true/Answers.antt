-- `colours_true`: refused, or the view's colours, which are the board's.
use mathlib.Core.Path.{◌≡◌, sym, ◌∙◌, subst, ap}
use mathlib.Core.List.{List}
use Prim.Native.Nat.{ℕ}
use native.Mathlib.Omega.{arith}
use lib.ListN.{get_or}
use Rattle.rules.specs.Lists.{tabulate}
use Rattle.rules.specs.Points.{area}
use Rattle.rules.specs.Answers.{number}
use Rattle.board.specs.Board.{colours_of}
use Rattle.viewing.specs.declared.view.View.{View}
use Rattle.viewing.specs.Front.{Front}
use Rattle.viewing.specs.Laws.View.{view-colours}
use Rattle.board.specs.Laws.Board.{area-fits}
use Rattle.rules.proofs.Laws.Lists.{not-both}
use Rattle.rules.proofs.Laws.Answers.{accepts-zero}
use Rattle.listing.specs.Laws.Answers.{length-enough, left-refused, left-filled}
use Rattle.points.proofs.Reasons.{refused-so, refused-not, accepted-so, accepted-zero}
use Rattle.drawing.proofs.draw.colours_true.Goals as goal

pub returns-in-Err : goal.returns-in-Err
returns-in-Err c =
    let said = c.length_refusal.ensures in
    let its = c.number.ensures ∙ ap number (sym (refused-so said c.in-Err.is)) in
    left-refused _ _ _ c.number.result its (λ z. not-both (accepts-zero _ (sym its ∙ z)) (refused-not said c.in-Err.is))

pub copy_colours-requires : goal.copy_colours-requires
copy_colours-requires c =
    let enough = length-enough _ _ _ (accepted-so c.length_refusal.ensures c.in_default.is) in
    (omega (arith, c.area-end.ensures, area-fits c.requires.table.size), omega (arith, c.area-end.ensures, enough))

pub returns : goal.returns
returns c =
    let b = c.args.board in
    let end = c.area-end in
    let same : tabulate (λ i. get_or c.view_of-view.result.colours i 0) 0 end.result ≡ colours_of b =
    ap (tabulate (λ i. get_or c.view_of-view.result.colours i 0) 0) end.ensures
    ∙ subst (λ (v : View). tabulate (λ i. get_or v.colours i 0) 0 (area b.height b.width) ≡ colours_of b) (sym c.view_of-view.ensures)
    (view-colours b c.requires) in
    left-filled _ _ _ (accepted-zero c.length_refusal.ensures c.in_default.is)
    (subst (λ (xs : List ℕ). Front xs c.args.buffer.now end.result c.copy_colours.new.buffer) same
    c.copy_colours.ensures)
