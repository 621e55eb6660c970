-- The fields are the definition's.
use mathlib.Core.Path.{refl}
use Rattle.game.specs.Clock.{clock_of}
use Rattle.game.proofs.clock.clock_of.Goals as goal

pub returns : goal.returns
unfolding clock_of
returns c = refl
