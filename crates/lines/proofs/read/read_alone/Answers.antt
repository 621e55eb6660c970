-- `read_alone`: the call, if no word is left.
use Rattle.std.proofs.Common.{sym}
use Rattle.lines.specs.Laws.Calls.{alone-ended, alone-more}
use Rattle.lines.proofs.read.read_alone.Goals as goal

pub returns-then-at_end : goal.returns-then-at_end
returns-then-at_end c = λ command p. alone-ended command _ _ (sym c.if-at_end.ensures) p

pub returns-else-at_end : goal.returns-else-at_end
returns-else-at_end c = λ command p. alone-more command _ (sym c.if-at_end.ensures)
