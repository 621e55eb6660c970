-- `is_player` meets its contract: the code and the definition make the same tests.
use borrow.Author.Tests.{eq-eqb, ne_eqb}
use Rattle.board.specs.Judge.{player}
use Rattle.board.proofs.slot.is_player.Goals as goal

pub returns-then-colour-eq-BLACK : goal.returns-then-colour-eq-BLACK
unfolding player
returns-then-colour-eq-BLACK c = simp (eq-eqb _ _ c.if-colour-eq-BLACK.true)

pub returns-else-colour-eq-BLACK : goal.returns-else-colour-eq-BLACK
unfolding player
returns-else-colour-eq-BLACK c = simp (ne_eqb _ _ c.if-colour-eq-BLACK.false)
