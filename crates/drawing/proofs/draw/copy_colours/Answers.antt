-- `copy_colours`: what is copied is the table of the first colours.
use Rattle.std.proofs.Common.{arith}
use Rattle.drawing.specs.Laws.Picture.{front_copied}
use Rattle.drawing.proofs.draw.copy_colours.Goals as goal

pub returns : goal.returns
returns c = front_copied c.args.colours.now c.args.buffer.now _ c.args.end (omega arith) (cc)
