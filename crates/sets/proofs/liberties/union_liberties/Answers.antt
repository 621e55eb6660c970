use Rattle.std.proofs.Common.{◌≡◌, ◌∙◌, ℕ, ap, arith, rules}
use Rattle.rules.specs.Sizes.{liberty_bytes}
use Rattle.sets.specs.Liberties.{LibertySet}
use Rattle.sets.proofs.Arrays.{array-set}
use Rattle.sets.proofs.Merge.{merged, merged-none, merged-more, merged-is}
use Rattle.sets.proofs.liberties.union_liberties.Goals.{Start}
use Rattle.sets.proofs.liberties.union_liberties.Goals as goal

-- the arrays that came in are liberty sets
first : (c : Start) → LibertySet c.args.a
first c = array-set c.args.a (search rules) (λ i. search rules)

second : (c : Start) → LibertySet c.args.b
second c = array-set c.args.b (search rules) (λ i. search rules)

pub loop-i-init : goal.loop-i-init
loop-i-init c = merged-none c.args.a c.args.b

pub loop-i-preserved : goal.loop-i-preserved
loop-i-preserved c =
    merged-more c.loop-i.i c.args.a c.args.b _ (omega (arith, (first (goal.at.loop-i-preserved c).Start).long))
    (omega (arith, (second (goal.at.loop-i-preserved c).Start).long)) c.loop-i.invariant

pub returns : goal.returns
returns c =
    let past : c.loop-i.i ≡ liberty_bytes = omega arith in
    c.loop-i.invariant ∙ ap (λ (i : ℕ). merged i c.args.a c.args.b) past
    ∙ merged-is c.args.a c.args.b (first (goal.at.returns c).Start) (second (goal.at.returns c).Start)
