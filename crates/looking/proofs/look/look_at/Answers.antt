use Rattle.std.proofs.Common.{refl, arith, rules, ◌∙◌, ◌<◌}
use lib.ListN.{get_or-eq_default}
use Rattle.rules.specs.Sizes.{max_area}
use Rattle.rules.specs.Points.{sides}
use Rattle.rules.specs.Colours.{at}
use Rattle.board.specs.Board.{colours_of}
use Rattle.board.specs.Laws.Board.{area-fits, length-colours}
use Rattle.history.specs.Packing.{on_largest}
use Rattle.legality.specs.Near.{near_of}
use Rattle.looking.specs.Laws.Sight.{one-read}
use Rattle.looking.specs.Laws.Table.{shade-read, colour-told}
use Rattle.looking.proofs.Points.{whole}
use Rattle.looking.proofs.look.look_at.Goals.{In-loop-p}
use Rattle.looking.proofs.look.look_at.Goals as goal

-- a point of the board has its place
place : (c : In-loop-p) → c.loop-p.p < max_area
place c =
    omega (arith, c.loop-p-test.true, c.area-p-end.ensures, area-fits c.requires.true_board.table.size)

pub offset_bounds-board-p : goal.offset_bounds-board-p
offset_bounds-board-p c = omega (arith, place (goal.at.offset_bounds-board-p c).In-loop-p)

pub bounds-board-p : goal.bounds-board-p
bounds-board-p c = place (goal.at.bounds-board-p c).In-loop-p

pub bounds-colours-p : goal.bounds-colours-p
bounds-colours-p c = place (goal.at.bounds-colours-p c).In-loop-p

pub loop-p-preserved : goal.loop-p-preserved
loop-p-preserved c =
    let b = c.args.board.now in
    let is = c.requires.true_board in
    let p = c.loop-p.p in
    let low = place (goal.at.loop-p-preserved c).In-loop-p in
    one-read b _ p _ c.loop-p.invariant low (omega (arith, c.loop-p-test.true, c.area-p-end.ensures))
    (c.shade.ensures ∙ shade-read b is p low _ c.from-owner.ensures _ c.readable-slot.ensures _ ∙ colour-told b is p)

pub returns : goal.returns
unfolding near_of on_largest at sides
returns c =
    let b = c.args.board.now in
    record {
      height = refl;
      width = refl;
      hash = refl;
      point = c.two_to_1dim-point.ensures;
      near = search rules;
      colours =
          whole (at (colours_of b)) _ _
          (record {
            long = c.loop-p.invariant.long;
            read = c.loop-p.invariant.read;
            rest = λ k beyond. c.loop-p.invariant.rest k (omega (arith, c.area-p-end.ensures, c.loop-p-test.false, beyond));
          })
          (λ k beyond low.
          get_or-eq_default (colours_of b) 0 {n = k} (omega (arith, length-colours b, c.area-p-end.ensures, c.loop-p-test.false)));
    }
