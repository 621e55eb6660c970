use Rattle.std.proofs.Common.{◌≡◌, ◌<◌, ◌≤◌, ◌∙◌, Bool, cond, ap, length, subst, arith}
use Rattle.std.proofs.lemmas.List.{drop_all}
use borrow.Author.Tests.{lt-ltb}
use Rattle.rules.specs.Sizes.{max_area, slots}
use Rattle.rules.specs.Lists.{present}
use Rattle.rules.specs.Points.{sides, neighbours}
use Rattle.rules.specs.Hash.{stone_hash}
use Rattle.chains.specs.Group.{new_chain}
use Rattle.steps.specs.Laws.Put.{point-fits}
use Rattle.steps.proofs.Sides.{next-none, next-some}
use Rattle.laying.proofs.Alone.{Passing, passing-none, passing-cast, passing-long, passing-same, passing-owned, passing-unowned, passing-all}
use Rattle.laying.proofs.lay.put.Goals.{At-loop-side, Start, in-Some+then-owner-lt-SLOTS, in-Some+else-owner-lt-SLOTS, in_default}
use Rattle.laying.proofs.lay.put.Goals as goal

low : (c : Start) → c.args.point < max_area
low c = point-fits c.requires

long : (c : At-loop-side) → length c.loop-side.board.chains ≡ slots
long c = passing-long _ _ _ _ c.loop-side.invariant ∙ c.requires.table.shape.chains

pub overflow_cast-point : goal.overflow_cast-point
overflow_cast-point c = let l = low (goal.at.overflow_cast-point c).Start in record { fits = omega arith }

pub loop-side-init : goal.loop-side-init
loop-side-init c = passing-none _ _ _ _ _ (c.new_chain-stone.ensures ∙ ap (new_chain c.args.colour c.args.point) c.empty_liberties.ensures)

pub loop-side-preserved : goal.loop-side-preserved
unfolding sides
loop-side-preserved c =
    let on : c.loop-side.side-index < length c.sides-side-items.result = rw c.sides-side-items.ensures c.loop-side-test.true in
    let wide = long (goal.at.loop-side-preserved c).At-loop-side in
    elim c.match-side.branch [
      | in-Some+then-owner-lt-SLOTS w ↦
          passing-cast _ _ _ _ w.board-is w.stone-is
          (passing-owned _ _ _ _ _ _ _ _ c.loop-side.invariant _ _ (next-some _ _ _ on _ w.in-Some.is) w.owner_at-owner.ensures _ w.opened-stone.ensures
          _ _ (omega arith) w.without.ensures)
      | in-Some+else-owner-lt-SLOTS w ↦
          passing-cast _ _ _ _ w.board-is w.stone-is
          (passing-unowned _ _ _ _ _ _ _ _ c.loop-side.invariant _ _ (next-some _ _ _ on _ w.in-Some.is) w.owner_at-owner.ensures _ w.opened-stone.ensures
          (omega arith))
      | in_default w ↦
          passing-cast _ _ _ _ w.board-is w.stone-is (passing-same _ _ _ _ _ _ _ _ c.loop-side.invariant (next-none _ _ _ on w.in_default.is))
    ]

pub offset_bounds-board-point : goal.offset_bounds-board-point
offset_bounds-board-point c = let l = low (goal.at.offset_bounds-board-point c).Start in omega arith

pub bounds-board-point : goal.bounds-board-point
bounds-board-point c = low (goal.at.bounds-board-point c).Start

pub overflow_cast-board-2 : goal.overflow_cast-board-2
overflow_cast-board-2 c = let l = low (goal.at.overflow_cast-board-2 c).Start in record { fits = omega arith }

pub offset_bounds-board-point-2 : goal.offset_bounds-board-point-2
offset_bounds-board-point-2 c = let l = low (goal.at.offset_bounds-board-point-2 c).Start in omega arith

pub bounds-board-point-2 : goal.bounds-board-point-2
bounds-board-point-2 c = low (goal.at.bounds-board-point-2 c).Start

pub returns : goal.returns
unfolding sides neighbours
returns c =
    let b = c.args.board.now in
    let few : length c.sides-side-items.result ≤ c.loop-side.side-index = rw c.sides-side-items.ensures c.loop-side-test.false in
    let done =
    subst (λ os. Passing b c.args.point c.args.colour (present c.sides-side-items.result) (present os) c.loop-side.board c.loop-side.stone)
    (drop_all c.loop-side.side-index c.sides-side-items.result few) c.loop-side.invariant in
    passing-all _ _ _ _ _ _ done (ap present c.sides-side-items.ensures) _ _
    (c.stone_hash.ensures
    ∙ ap (λ (t : Bool). cond t (stone_hash c.args.point c.args.colour) 0) (lt-ltb c.args.point max_area (low (goal.at.returns c).Start)))
