-- `looking::look::seen_of`: the first places hold what the first points show.
use Rattle.rules.specs.Colours.{at}
use Rattle.board.specs.Board.{colours_of}
use Rattle.looking.specs.Laws.Table.{liberties_at, stones_at}
use Rattle.looking.proofs.Points.{Upto}
use Rattle.looking.proofs.look.seen_of.Given as goal

abbrev pub invariant-loop-point : goal.invariant-loop-point
invariant-loop-point l = record {
  colours : Upto (at (colours_of l.board)) l.colours l.point;
  liberties : Upto (liberties_at l.board) l.liberties l.point;
  stones : Upto (stones_at l.board) l.stones l.point;
}
