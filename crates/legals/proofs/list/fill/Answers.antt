-- `fill`: what the code finds of a point is what the rules say of it.
use mathlib.Core.Path.{◌≡◌, sym, ◌∙◌, subst}
use Prim.Native.Nat.{ℕ, ◌<◌}
use native.Mathlib.Omega.{arith}
use lib.ListN.{length}
use Rattle.rules.specs.Lists.{pick, below}
use Rattle.rules.specs.Points.{area}
use Rattle.rules.specs.Calls.{legals}
use Rattle.board.specs.Laws.Board.{area-fits}
use Rattle.viewing.specs.Front.{Front}
use Rattle.viewing.specs.Laws.Front.{front-pick-none, front-pick, front-skip}
use Rattle.game.specs.View.{view_of}
use Rattle.legals.specs.Laws.Legals.{legal-settled, legal-repeating}
use Rattle.legals.proofs.list.fill.Invariants.{legal-at}
use Rattle.legals.proofs.list.fill.Goals.{In-loop-point, After-is_legal}
use Rattle.legals.proofs.list.fill.Goals.{then-is_legal, else-is_legal}
use Rattle.legals.proofs.list.fill.Goals as goal

on-board : (c : In-loop-point) → let b = c.args.game.now.board in c.loop-point.point < area b.height b.width
on-board c = omega (arith, c.area-point-end.ensures, c.loop-point-test.true)

-- what the code finds is what the rules say of the point
found : (c : After-is_legal) → c.is_legal.result ≡ legal-at c.args.game.now c.args.history.now c.args.flags c.loop-point.point
found c =
    c.is_legal.ensures
    ∙ legal-settled c.args.game.now c.requires.state.board c.args.flags _ (omega (arith, c.area-point-end.ensures, c.loop-point-test.true)) _ c.seen_of-seen.ensures
    _ c.player_of-colour.ensures _ c.told_at-told.ensures c.args.history.now

pub loop-point-init : goal.loop-point-init
loop-point-init c = (omega arith, front-pick-none _ _)

pub is_legal-requires : goal.is_legal-requires
is_legal-requires c = λ e.
    legal-repeating c.args.game.now c.requires.state.board c.args.flags _ (on-board (goal.at.is_legal-requires c).In-loop-point) _ c.seen_of-seen.ensures
    _ c.player_of-colour.ensures _ c.told_at-told.ensures _ c.requires.state c.requires.room e

pub overflow_cast-buffer : goal.overflow_cast-buffer
overflow_cast-buffer c = omega (arith, c.area-point-end.ensures, c.loop-point-test.true, area-fits c.requires.state.board.table.size)

pub loop-point-preserved : goal.loop-point-preserved
loop-point-preserved c =
    let same = found (goal.at.loop-point-preserved c).After-is_legal in
    let (few, front) = c.loop-point.invariant in
    let room : c.loop-point.count < length c.args.buffer.now = omega (arith, c.requires.enough, c.area-point-end.ensures, c.loop-point-test.true) in
    elim c.if-is_legal.branch [
      | then-is_legal w ↦ rw (w.count-is, w.buffer-is) (omega arith, front-pick _ front (sym same ∙ w.if-is_legal.true) room)
      | else-is_legal w ↦ rw (w.count-is, w.buffer-is) (omega arith, front-skip _ front (sym same ∙ w.if-is_legal.false))
    ]

pub returns : goal.returns
unfolding legals view_of
returns c =
    let a = c.args in
    let b = a.game.now.board in
    let all : c.loop-point.point ≡ area b.height b.width = omega (arith, c.area-point-end.ensures, c.loop-point-test.false) in
    subst (λ (n : ℕ). Front (pick (legal-at a.game.now a.history.now a.flags) (below n)) a.buffer.now c.loop-point.count c.loop-point.buffer) all c.loop-point.invariant.1
