-- `steps::remove::unhash`: what the stones that are left make of the hash now is what all stones made of it at first.
use Rattle.std.proofs.Common.{◌≡◌, drop}
use Rattle.steps.specs.Steps.{unhashed}
use Rattle.steps.proofs.remove.unhash.Given as goal

abbrev pub invariant-loop-stone : goal.invariant-loop-stone
invariant-loop-stone l = unhashed l.colour (drop l.stone-index l.stones) l.result ≡ unhashed l.colour l.stones l.hash
