use Rattle.std.proofs.Common.{arith, sym, ◌∙◌}
use Rattle.viewing.specs.Laws.Front.{front-pick-none, front-pick, front-skip}
use Rattle.listing.proofs.list.fill.Goals.{then-shows, else-shows}
use Rattle.listing.proofs.list.fill.Goals as goal

pub loop-point-init : goal.loop-point-init
loop-point-init c = (omega arith, front-pick-none _ _)

pub loop-point-preserved : goal.loop-point-preserved
loop-point-preserved c =
    let loop = c.loop-point in
    elim c.if-shows.branch [
      | then-shows w ↦
          rw (w.count-is, w.buffer-is)
          (omega arith, front-pick _ loop.invariant.1 (sym c.shows.ensures ∙ w.if-shows.true) (omega (arith, c.area-point-end.ensures, c.requires.1)))
      | else-shows w ↦ rw (w.count-is, w.buffer-is) (omega arith, front-skip _ loop.invariant.1 (sym c.shows.ensures ∙ w.if-shows.false))
    ]
