-- A resume is always accepted.
use Rattle.rules.specs.Answers.{number}
use Rattle.game.specs.After.{resumed}
use Rattle.game.specs.Laws.After.{resume-ticks}
use Rattle.game.proofs.calls.resumed.Goals as goal

pub returns : goal.returns
unfolding resumed number
returns c = resume-ticks _
