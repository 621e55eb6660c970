-- `other` meets its contract: the code and the definition make the same test. Assumes nothing.
use borrow.Author.Tests.{eq-eqb, ne_eqb}
use Rattle.rules.specs.Colours.{other}
use Rattle.points.proofs.stones.other.Goals as goal

pub returns-then-colour-eq-BLACK : goal.returns-then-colour-eq-BLACK
unfolding other
returns-then-colour-eq-BLACK c = simp (eq-eqb _ _ c.if-colour-eq-BLACK.true)

pub returns-else-colour-eq-BLACK : goal.returns-else-colour-eq-BLACK
unfolding other
returns-else-colour-eq-BLACK c = simp (ne_eqb _ _ c.if-colour-eq-BLACK.false)
