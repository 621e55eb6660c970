-- `draw`: the buffer holds the picture up to the row and the column.
use Rattle.drawing.specs.Picture.{Drawing}
use Rattle.drawing.proofs.draw.draw.Given as goal

abbrev pub invariant-loop-row : goal.invariant-loop-row
invariant-loop-row l = Drawing l.height l.width l.colours l.fn.buffer l.row 0 l.at l.buffer

abbrev pub invariant-loop-column : goal.invariant-loop-column
invariant-loop-column l = Drawing l.height l.width l.colours l.fn.buffer l.row l.column l.at l.buffer
