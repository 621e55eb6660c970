-- The fields are the definition's.
use mathlib.Core.Path.{refl}
use Rattle.game.specs.Clock.{game_of}
use Rattle.game.proofs.clock.game_of.Goals as goal

pub returns : goal.returns
unfolding game_of
returns c = refl
