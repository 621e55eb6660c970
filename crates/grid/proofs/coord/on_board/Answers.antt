-- `on_board` meets its contract: the code and the definition make the same test. Assumes nothing.
use Rattle.grid.proofs.coord.on_board.Goals as goal

pub returns : goal.returns
returns c = rw c.area.ensures
