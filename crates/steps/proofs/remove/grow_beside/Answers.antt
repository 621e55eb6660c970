use Rattle.std.proofs.Common.{◌≡◌, ◌<◌, ◌∙◌, ap, length, length-set, List, drop, arith, ◌+◌}
use Rattle.rules.specs.Lists.{present}
use Rattle.rules.specs.Points.{sides, neighbours}
use Rattle.chains.specs.declared.group.Chain.{Chain}
use Rattle.owning.specs.Owners.{owner_in}
use Rattle.steps.specs.Steps.{gaining}
use Rattle.steps.proofs.Growing.{none-there, same-there, nobody-there, chain-there}
use Rattle.steps.proofs.remove.grow_beside.Goals.{in-Some+then-owner-slot+then-owner-lt-SLOTS, in-Some+else-owner-slot, else-owner-slot-via-then-owner-slot+else-owner-lt-SLOTS, else-owner-slot-via-else-owner-slot, in_default}
use Rattle.steps.proofs.remove.grow_beside.Goals as goal

pub loop-side-preserved : goal.loop-side-preserved
unfolding sides
loop-side-preserved c =
    let on : c.loop-side.side-index < length c.sides-side-items.result = rw c.sides-side-items.ensures c.loop-side-test.true in
    let left = λ (cs : List Chain). gaining (owner_in c.args.owners.now) c.args.slot c.args.point (present (drop (c.loop-side.side-index + 1) c.sides-side-items.result)) cs in
    elim c.match-side.branch [
      | in-Some+then-owner-slot+then-owner-lt-SLOTS w ↦
          ap left w.chains-is ∙ chain-there _ _ _ _ _ _ _ on _ _ w.in-Some.is w.owner_at-owner.ensures _ _ w.if-owner-slot.true (omega (arith, ap length w.chains-is, length-set {A = Chain})) w.gain.ensures ∙ c.loop-side.invariant
      | in-Some+else-owner-slot w ↦ elim w.else-owner-slot.branch [
        | else-owner-slot-via-then-owner-slot+else-owner-lt-SLOTS w' ↦
            ap left w.chains-is ∙ nobody-there _ _ _ _ _ _ _ on _ _ w.in-Some.is w.owner_at-owner.ensures w'.if-owner-slot.true (omega (arith, ap length w.chains-is)) ∙ c.loop-side.invariant
        | else-owner-slot-via-else-owner-slot w' ↦
            ap left w.chains-is ∙ same-there _ _ _ _ _ _ _ on _ _ w.in-Some.is w.owner_at-owner.ensures w'.if-owner-slot.false ∙ c.loop-side.invariant
      ]
      | in_default w ↦ ap left w.chains-is ∙ none-there _ _ _ _ _ _ _ on w.in_default.is ∙ c.loop-side.invariant
    ]

pub returns : goal.returns
unfolding sides neighbours
returns c = let k : c.loop-side.side-index ≡ 4 = omega arith in let h = c.loop-side.invariant in rw (k, c.sides-side-items.ensures) at h
