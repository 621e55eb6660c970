use mathlib.Core.Path.{◌≡◌, sym, ap, ap₂, ◌∙◌}
use mathlib.Core.Bool.{Bool, true, ◌&&◌, ◌||◌}
use mathlib.Core.Logic.{◌≢◌}
use Prim.Native.Nat.{ℕ, ◌+◌, ◌<◌, ◌-◌}
use native.Mathlib.Numerals.{add-one}
use native.Mathlib.Omega.{arith}
use lib.Dec.{eqb, ltb}
use lib.ListN.{get_or}
use borrow.Author.Count.{below_more}
use borrow.Author.Tests.{eqb-true, eq-eqb, ne_eqb}
use Rattle.rules.specs.Sizes.{max_area, slots}
use Rattle.rules.specs.Lists.{all, below}
use Rattle.rules.proofs.Laws.Lists.{and_left, get_or-within}
use Rattle.chains.specs.Walk.{stepped}
use Rattle.owning.specs.Owners.{owner_in, on_ring, ring}
use Rattle.owning.specs.Laws.Lists.{all-below, all-fails-below, and-fails, then-fails}
use Rattle.owning.proofs.ring.ring_good.Goals.{After-loop-links, After-on_ring, Else-not-on_ring}
use Rattle.owning.proofs.ring.ring_good.Goals as goal

back : (n : ℕ) → n ≡ n + 1 - 1
back n = omega arith

-- what the code tested is the definition's test
tested : (c : After-on_ring)
    → let a = c.args in
    on_ring (owner_in a.owners.now) a.next.now a.slot a.chain c.loop-links.links ≡ c.on_ring.result
unfolding on_ring
tested c =
    let a = c.args in
    ap₂ (λ (p o : ℕ). eqb (owner_in a.owners.now p) a.slot && (eqb c.loop-links.links 0 || ltb o p))
    (sym c.loop-links.invariant.at)
    (sym c.index-origin.ensures)
    ∙ sym c.on_ring.ensures

-- a stone of the slot has a place in the arrays
inside : (c : Else-not-on_ring) → c.loop-links.point < max_area
unfolding owner_in
inside c =
    let a = c.args in
    let p = c.loop-links.point in
    let e : owner_in a.owners.now p ≡ a.slot =
    eqb-true _ _ (and_left (eqb (owner_in a.owners.now p) a.slot) _ (sym c.on_ring.ensures ∙ c.if-not-on_ring.false)) in
    let n : owner_in a.owners.now p ≢ slots = λ z. omega (arith, c.requires) in
    omega (arith, get_or-within a.owners.now p slots n)

-- ---- After as many links as the chain has stones

done : (c : After-loop-links) → c.loop-links.links ≡ c.args.chain.count
done c = omega arith

came-by : (c : After-loop-links)
    → let a = c.args in
    c.loop-links.previous ≡ stepped a.next.now a.chain.origin (a.chain.count - 1)
came-by c =
    let a = c.args in
    c.loop-links.invariant.before ∙ ap (λ (n : ℕ). stepped a.next.now a.chain.origin (n - 1)) (done c)

came-to : (c : After-loop-links)
    → let a = c.args in
    c.loop-links.point ≡ stepped a.next.now a.chain.origin a.chain.count
came-to c =
    let a = c.args in
    c.loop-links.invariant.at ∙ ap (stepped a.next.now a.chain.origin) (done c)

went-round : (c : After-loop-links)
    → let a = c.args in
    all (on_ring (owner_in a.owners.now) a.next.now a.slot a.chain) (below a.chain.count) ≡ true
went-round c = all-below _ _ (λ k l. c.loop-links.invariant.on k (omega (arith, done c)))

pub returns-then-not-on_ring : goal.returns-then-not-on_ring
unfolding ring
returns-then-not-on_ring c =
    sym (and-fails _ (all-fails-below _ _ c.loop-links.links (omega arith) (tested (goal.at.returns-then-not-on_ring c).After-on_ring ∙ c.if-not-on_ring.true)))

pub bounds-next-point : goal.bounds-next-point
bounds-next-point c = inside (goal.at.bounds-next-point c).Else-not-on_ring

pub loop-links-preserved : goal.loop-links-preserved
loop-links-preserved c =
    let a = c.args in
    let was = c.loop-links.invariant in
    record {
      at = rw add-one (c.index-point.ensures ∙ ap (λ (p : ℕ). get_or a.next.now p 0) was.at);
      before = was.at ∙ ap (stepped a.next.now a.chain.origin) (back c.loop-links.links);
      on = below_more _ _ was.on (tested (goal.at.loop-links-preserved c).After-on_ring ∙ c.if-not-on_ring.false);
    }

pub returns-then-previous-index : goal.returns-then-previous-index
unfolding ring
returns-then-previous-index c =
    let last = came-by (goal.at.returns-then-previous-index c).After-loop-links in
    let a = c.args in
    ap₂ eqb (came-to (goal.at.returns-then-previous-index c).After-loop-links) c.index-origin.ensures
    ∙ sym
    (ap₂ (λ (t u : Bool). t && (u && eqb (stepped a.next.now a.chain.origin a.chain.count) a.chain.origin))
    (went-round (goal.at.returns-then-previous-index c).After-loop-links)
    (eq-eqb _ _ (sym last ∙ c.if-previous-index.true ∙ c.index.ensures)))

pub returns-else-previous-index : goal.returns-else-previous-index
unfolding ring
returns-else-previous-index c =
    let last = came-by (goal.at.returns-else-previous-index c).After-loop-links in
    let a = c.args in
    ne_eqb _ _ c.if-previous-index.false
    ∙ sym
    (then-fails (all (on_ring (owner_in a.owners.now) a.next.now a.slot a.chain) (below a.chain.count))
    (and-fails (eqb (stepped a.next.now a.chain.origin a.chain.count) a.chain.origin)
    (ne_eqb (stepped a.next.now a.chain.origin (a.chain.count - 1)) a.chain.last (λ e. c.if-previous-index.false (last ∙ e ∙ sym c.index.ensures)))))
