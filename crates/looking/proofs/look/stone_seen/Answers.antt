-- `looking::look::stone_seen`: at the first point or later, what is seen is the same.
use mathlib.Core.Path.{ap, ◌∙◌}
use Prim.Native.Nat.{ℕ, ◌<◌}
use native.Mathlib.Omega.{arith}
use lib.ListN.{get_or}
use Rattle.looking.specs.Seen.{chain_seen}
use Rattle.looking.proofs.look.stone_seen.Goals as goal

pub returns-then-origin-point : goal.returns-then-origin-point
unfolding chain_seen
returns-then-origin-point c =
    let own = c.args.chain in
    let its = c.from-origin.ensures in
    let before : own.origin < c.args.point = omega (arith, c.if-origin-point.true, its) in
    let there = ap (λ (o : ℕ). get_or c.args.liberties.now o 0) its ∙ c.requires.first before in
    λ i. record { colour = own.colour; liberties = there i; stones = own.count }
