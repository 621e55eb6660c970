-- White's number names White, and any other Black.
use borrow.Author.Tests.{eq-eqb, ne_eqb}
use Rattle.game.specs.View.{turn_of}
use Rattle.game.proofs.calls.player_of.Goals as goal

pub returns-then-byte-eq-WHITE : goal.returns-then-byte-eq-WHITE
unfolding turn_of
returns-then-byte-eq-WHITE c = rw (eq-eqb _ _ c.if-byte-eq-WHITE.true)

pub returns-else-byte-eq-WHITE : goal.returns-else-byte-eq-WHITE
unfolding turn_of
returns-else-byte-eq-WHITE c = rw (ne_eqb _ _ c.if-byte-eq-WHITE.false)
