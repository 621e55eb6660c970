-- `steps::remove::remove_chain`: what the stones that are left give to the chains now is what all stones gave to them at first, and
-- nothing else of the board changes.
use Rattle.std.proofs.Common.{drop}
use Rattle.steps.proofs.Growing.{Growing}
use Rattle.steps.proofs.remove.remove_chain.Given as goal

abbrev pub invariant-loop-stone : goal.invariant-loop-stone
invariant-loop-stone l = Growing l.initial.board l.board l.slot l.stones (drop l.stone-index l.stones)
