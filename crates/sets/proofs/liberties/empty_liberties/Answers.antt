-- `sets::liberties::empty_liberties`: zeros are the set of no point.
use Rattle.sets.specs.Laws.Liberties.{none-zeros}
use Rattle.sets.proofs.liberties.empty_liberties.Goals as goal

pub returns : goal.returns
returns c = none-zeros
