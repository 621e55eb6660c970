-- `do_new`: the number that the call answered.
use Rattle.telling.specs.Told.{Unlent}
use Rattle.telling.specs.Laws.Told.{told-starts}
use Rattle.acting.proofs.act.do_new.Goals as goal

pub returns : goal.returns
unfolding Unlent
returns g c = told-starts c.tell.ensures c.args.lent c.new_game.ensures
