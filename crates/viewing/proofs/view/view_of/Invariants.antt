-- `view_of`: the first places show the first points.
use lib.ListN.{replicate}
use Rattle.rules.specs.Sizes.{max_area}
use Rattle.rules.specs.Lists.{tabulate}
use Rattle.board.specs.Board.{colour_at}
use Rattle.viewing.specs.View.{lead_at}
use Rattle.viewing.specs.Front.{Front}
use Rattle.viewing.proofs.view.view_of.Given as goal

abbrev pub invariant-loop-point : goal.invariant-loop-point
invariant-loop-point l = Front (tabulate (colour_at l.board) 0 l.point) (replicate max_area 0) l.point l.colours
    × Front (tabulate (lead_at l.board) 0 l.point) (replicate max_area max_area) l.point l.leads
