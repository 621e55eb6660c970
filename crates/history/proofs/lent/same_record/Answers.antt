-- `history::lent::same_record`: the library's comparison is the definition's.
use Rattle.history.proofs.Laws.Lists.{same-pointwise}
use Rattle.history.proofs.lent.same_record.Goals as goal

pub returns : goal.returns
returns c = let same = same-pointwise c.args.stored.now c.args.bytes.now in cc
