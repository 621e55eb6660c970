-- `told_by`: what is told of the spot is told of every board that looks so.
use Rattle.checking.specs.Laws.Asking.{told-seen}
use Rattle.checking.proofs.point.told_by.Goals as goal

pub returns : goal.returns
returns c b is sees =
    let a = c.args in
    told-seen b a.clock a.flags a.row a.column is a.colours.now a.sight sees _ c.spot_of.ensures _ c.player_of.ensures _ c.told_of.ensures
