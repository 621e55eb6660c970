-- `do_check`: the number of the check; nothing else changes.
use Rattle.std.proofs.Common.{refl}
use Rattle.telling.specs.Laws.Told.{told-checks}
use Rattle.acting.proofs.act.do_check.Goals as goal

pub returns : goal.returns
returns g c = told-checks c.tell.ensures c.check_point_by-answer.ensures refl
