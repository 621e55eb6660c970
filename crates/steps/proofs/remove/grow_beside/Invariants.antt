-- `steps::remove::grow_beside`: what the sides that are left give to the chains now is what all sides gave to them at first.
use Rattle.std.proofs.Common.{◌≡◌, drop}
use Rattle.rules.specs.Lists.{present}
use Rattle.owning.specs.Owners.{owner_in}
use Rattle.steps.specs.Steps.{gaining}
use Rattle.steps.proofs.remove.grow_beside.Given as goal

abbrev pub invariant-loop-side : goal.invariant-loop-side
invariant-loop-side l =
    gaining (owner_in l.owners) l.slot l.point (present (drop l.side-index l.side-items)) l.chains
    ≡ gaining (owner_in l.owners) l.slot l.point (present l.side-items) l.initial.chains
