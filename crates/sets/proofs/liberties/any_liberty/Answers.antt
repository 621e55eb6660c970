-- `sets::liberties::any_liberty`: a set that is not the empty one has a point, and the empty one has none.
use Rattle.std.proofs.Common.{◌∙◌, rules}
use Rattle.sets.proofs.Arrays.{array-set}
use Rattle.sets.proofs.Store.{some-not-none}
use Rattle.sets.proofs.liberties.any_liberty.Goals.{Start}
use Rattle.sets.proofs.liberties.any_liberty.Goals as goal

pub returns : goal.returns
returns c = c.ne.ensures ∙ some-not-none c.args.set (array-set c.args.set (search rules) (λ i. search rules)) c.empty_liberties.result c.empty_liberties.ensures
