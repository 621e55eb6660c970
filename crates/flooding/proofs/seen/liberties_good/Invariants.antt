-- `liberties_good` meets its contract: the words passed are equal, and what was gathered of them says whether they are 0.
use Rattle.flooding.specs.Laws.Seen.{Compared}
use Rattle.flooding.proofs.seen.liberties_good.Given as goal

abbrev pub invariant-loop-i : goal.invariant-loop-i
invariant-loop-i l = Compared l.kept l.seen l.i l.some
