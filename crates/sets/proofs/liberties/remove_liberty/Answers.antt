-- `sets::liberties::remove_liberty`: one byte is stored, or nothing.
use borrow.Author.Rules.{rules}
use Rattle.sets.specs.Liberties.{LibertySet}
use Rattle.sets.proofs.Arrays.{array-set}
use Rattle.sets.proofs.Store.{remove-stored, remove-beyond}
use Rattle.sets.proofs.liberties.remove_liberty.Goals.{Start}
use Rattle.sets.proofs.liberties.remove_liberty.Goals as goal

-- the array that came in is a liberty set
came : (c : Start) → LibertySet c.args.set
came c = array-set c.args.set (search rules) (λ i. search rules)

pub returns-then-i-lt-LIBERTY_BYTES : goal.returns-then-i-lt-LIBERTY_BYTES
returns-then-i-lt-LIBERTY_BYTES c =
    remove-stored c.args.set c.args.point (came (goal.at.returns-then-i-lt-LIBERTY_BYTES c).Start) c.mask.result c.mask.ensures c.if-i-lt-LIBERTY_BYTES.true

pub returns-else-i-lt-LIBERTY_BYTES : goal.returns-else-i-lt-LIBERTY_BYTES
returns-else-i-lt-LIBERTY_BYTES c = remove-beyond c.args.set c.args.point (came (goal.at.returns-else-i-lt-LIBERTY_BYTES c).Start) c.if-i-lt-LIBERTY_BYTES.false
