-- `sets::liberties::add_liberty`: one byte is stored, or nothing.
use Rattle.std.proofs.Common.{rules}
use Rattle.sets.specs.Liberties.{LibertySet}
use Rattle.sets.proofs.Arrays.{array-set}
use Rattle.sets.proofs.Store.{add-stored, add-beyond}
use Rattle.sets.proofs.liberties.add_liberty.Goals.{Start}
use Rattle.sets.proofs.liberties.add_liberty.Goals as goal

-- the array that came in is a liberty set
came : (c : Start) → LibertySet c.args.set
came c = array-set c.args.set (search rules) (λ i. search rules)

pub returns-then-point-lt-MAX_AREA : goal.returns-then-point-lt-MAX_AREA
returns-then-point-lt-MAX_AREA c =
    add-stored c.args.set c.args.point (came (goal.at.returns-then-point-lt-MAX_AREA c).Start) c.mask.result c.mask.ensures c.if-point-lt-MAX_AREA.true

pub returns-else-point-lt-MAX_AREA : goal.returns-else-point-lt-MAX_AREA
returns-else-point-lt-MAX_AREA c =
    add-beyond c.args.set c.args.point (came (goal.at.returns-else-point-lt-MAX_AREA c).Start) c.if-point-lt-MAX_AREA.false
