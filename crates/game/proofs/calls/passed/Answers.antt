-- Each way out is one of the promise's laws: two passes stand, or the call is accepted.
use mathlib.Core.Path.{ap, ◌∙◌}
use Rattle.rules.specs.Colours.{other}
use Rattle.rules.specs.Answers.{number}
use Rattle.rules.specs.Calls.{pass_game, pass}
use Rattle.game.specs.View.{view_of}
use Rattle.game.specs.After.{passed}
use Rattle.game.specs.Laws.After.{paused-refused, pass-ticks}
use Rattle.game.proofs.calls.passed.Goals as goal

pub returns-then-clock-ge2 : goal.returns-then-clock-ge2
unfolding number pass
returns-then-clock-ge2 c = paused-refused _ (λ g. pass_game (view_of g)) c.if-clock-ge2.true

pub returns : goal.returns
unfolding passed number
returns c = pass-ticks _ c.if-clock-ge2.false _ (c.other-next.ensures ∙ ap other c.player_of-mover.ensures)
