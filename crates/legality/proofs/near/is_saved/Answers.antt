-- `legality::near::is_saved`: an own chain, which is not empty.
use Rattle.std.proofs.Common.{sym}
use Rattle.legality.specs.Laws.Near.{saves-own}
use Rattle.legality.proofs.near.is_saved.Goals as goal

pub returns-then-beside-colour : goal.returns-then-beside-colour
returns-then-beside-colour c = let own = saves-own c.args.colour c.args.beside c.if-beside-eq-EMPTY.false c.if-beside-colour.true in sym own
