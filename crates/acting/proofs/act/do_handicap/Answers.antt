-- `do_handicap`: the number that the call answered.
use Rattle.telling.specs.Told.{Unlent}
use Rattle.telling.specs.Laws.Told.{told-calls}
use Rattle.acting.proofs.act.do_handicap.Goals as goal

pub returns : goal.returns
unfolding Unlent
returns g c = told-calls c.tell.ensures c.handicap.ensures
