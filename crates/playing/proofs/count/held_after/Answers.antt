-- The mover's own stones are those lost, the others those taken.
use borrow.Author.Tests.{eq-eqb, ne_eqb}
use Rattle.playing.specs.After.{black_gone, white_gone}
use Rattle.playing.proofs.count.held_after.Goals as goal

pub returns-then-mover-eq-BLACK : goal.returns-then-mover-eq-BLACK
unfolding black_gone white_gone
returns-then-mover-eq-BLACK c = let own = eq-eqb _ _ c.if-mover-eq-BLACK.true in record { blacks = rw own; whites = rw own }

pub returns : goal.returns
unfolding black_gone white_gone
returns c = let foe = ne_eqb _ _ c.if-mover-eq-BLACK.false in record { blacks = rw foe; whites = rw foe }
