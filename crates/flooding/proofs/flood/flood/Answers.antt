use mathlib.Core.Path.{ap, ◌∙◌}
use mathlib.Core.List.{List}
use Prim.Native.Nat.{ℕ, ◌<◌}
use native.Mathlib.Omega.{arith}
use lib.ListN.{length, length-replicate}
use Rattle.rules.specs.Points.{area}
use Rattle.owning.specs.Owners.{owner_in}
use Rattle.flooding.specs.Flood.{seen_words, sees}
use Rattle.flooding.specs.Laws.Found.{found-says, found-on}
use Rattle.flooding.specs.Laws.Looked.{looked-pushed}
use Rattle.flooding.specs.Laws.Seen.{none_seen}
use Rattle.flooding.specs.Laws.Flooding.{Flooding, flooding-begin, flooding-next, flooding-end}
use Rattle.flooding.proofs.flood.flood.Goals.{After-index-point, At-loop-head}
use Rattle.flooding.proofs.flood.flood.Goals as goal

-- the flood so far
flooding : (c : At-loop-head)
    → let a = c.args in
    Flooding a.ground.now.height a.ground.now.width a.ground.now.slot a.ground.now.colour a.origin a.notes.now c.loop-head.notes c.loop-head.queue c.loop-head.seen c.loop-head.tail c.loop-head.hash c.loop-head.head
flooding c =
    let a = c.args in
    c.loop-head.invariant a.notes.now
    (flooding-begin a.ground.now.height a.ground.now.width a.ground.now.slot a.ground.now.colour a.origin a.notes.now c.requires.4 (λ q. ap (λ (xs : List ℕ). sees xs q) c.requires.2 ∙ none_seen seen_words q)
    (looked-pushed a.seen.now (ap length c.requires.2 ∙ length-replicate {A = ℕ} seen_words 0) c.requires.1 c.requires.3 c.requires.4 c.push-tail.ensures))

-- what stands in the queue is on the board
on : (c : After-index-point) → let a = c.args in c.index-point.result < area a.ground.now.height a.ground.now.width
on c = let flooding_here : let a = c.args in Flooding a.ground.now.height a.ground.now.width a.ground.now.slot a.ground.now.colour a.origin a.notes.now c.loop-head.notes c.loop-head.queue c.loop-head.seen c.loop-head.tail c.loop-head.hash c.loop-head.head = let a = c.args in c.loop-head.invariant a.notes.now (flooding-begin a.ground.now.height a.ground.now.width a.ground.now.slot a.ground.now.colour a.origin a.notes.now c.requires.4 (λ q. ap (λ (xs : List ℕ). sees xs q) c.requires.2 ∙ none_seen seen_words q) (looked-pushed a.seen.now (ap length c.requires.2 ∙ length-replicate {A = ℕ} seen_words 0) c.requires.1 c.requires.3 c.requires.4 c.push-tail.ensures)) in
    let a = c.args in
    found-on a.ground.now.height a.ground.now.width (owner_in a.notes.now) a.ground.now.slot a.origin c.index-point.result
    ((found-says a.ground.now.height a.ground.now.width (owner_in a.notes.now) a.ground.now.slot a.origin c.index-point.result).1
    (c.requires.3, rw c.index-point.ensures ((flooding_here).reached c.loop-head.head c.loop-head-test.true)))

pub push-tail-requires : goal.push-tail-requires
push-tail-requires c =
    (omega arith, omega (arith, c.requires.3, c.requires.1.fits))

pub loop-head-init : goal.loop-head-init
loop-head-init c = λ before is. is

pub offset_bounds-queue-head : goal.offset_bounds-queue-head
offset_bounds-queue-head c = omega (arith, (flooding (goal.at.offset_bounds-queue-head c).At-loop-head).ready.room)

pub bounds-queue-head : goal.bounds-queue-head
bounds-queue-head c = omega (arith, (flooding (goal.at.bounds-queue-head c).At-loop-head).ready.room)

pub look_around-tail-requires : goal.look_around-tail-requires
look_around-tail-requires c =
    (c.requires.0, (flooding (goal.at.look_around-tail-requires c).At-loop-head).ready, on (goal.at.look_around-tail-requires c).After-index-point)

pub overflow_add-head : goal.overflow_add-head
overflow_add-head c = omega (arith, (flooding (goal.at.overflow_add-head c).At-loop-head).ready.room)

pub loop-head-smaller : goal.loop-head-smaller
loop-head-smaller c = omega (arith, (flooding (goal.at.loop-head-smaller c).At-loop-head).ready.room)

pub loop-head-preserved : goal.loop-head-preserved
loop-head-preserved c =
    λ before is.
    flooding-next _ _ _ _ _ before (c.loop-head.invariant before is) c.loop-head-test.true c.index-point.ensures c.look_around-tail.ensures

pub returns : goal.returns
returns c =
    flooding-end _ _ _ _ _ _ c.requires.3 (flooding (goal.at.returns c).At-loop-head) c.loop-head-test.false
