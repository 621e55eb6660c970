-- Each way out is one of the promise's laws: two passes stand, or the call is accepted.
use Rattle.rules.specs.Answers.{number}
use Rattle.rules.specs.Calls.{resign_game, resign}
use Rattle.game.specs.View.{turn_of, view_of}
use Rattle.game.specs.After.{resigned}
use Rattle.game.specs.Laws.After.{paused-refused, resign-ticks}
use Rattle.game.proofs.calls.resigned.Goals as goal

pub returns-then-clock-ge2 : goal.returns-then-clock-ge2
unfolding number resign
returns-then-clock-ge2 c = paused-refused _ (λ g. resign_game (view_of g) (turn_of c.args.player)) c.if-clock-ge2.true

pub returns : goal.returns
unfolding resigned number
returns c = resign-ticks _ c.if-clock-ge2.false _ _ c.player_of.ensures
