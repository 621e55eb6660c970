use mathlib.Core.Path.{◌≡◌, ap, ◌∙◌}
use Prim.Native.Nat.{ℕ, ◌≤◌, ◌<◌}
use native.Mathlib.Omega.{arith}
use borrow.Author.Rules.{rules}
use mathlib.Core.List.{[]}
use lib.ListN.{length, get_or, replicate, length-replicate}
use Rattle.rules.specs.Sizes.{max_area, slots}
use Rattle.rules.specs.Lists.{tabulate}
use Rattle.chains.specs.declared.group.Chain.{Chain}
use Rattle.board.specs.Board.{colour_at}
use Rattle.viewing.specs.View.{lead_at, view_of}
use Rattle.viewing.specs.Laws.View.{view-chained, view-free}
use Rattle.viewing.specs.Laws.Front.{front-none, front-tabulate, front-whole}
use Rattle.viewing.proofs.view.view_of.Goals.{Joined-owner-lt-SLOTS, then-owner-lt-SLOTS, else-owner-lt-SLOTS}
use Rattle.viewing.proofs.view.view_of.Goals as goal

pub loop-point-init : goal.loop-point-init
loop-point-init c = (front-none (replicate max_area 0), front-none (replicate max_area max_area))

zeros : length {A = ℕ} (replicate max_area 0) ≡ max_area
zeros = length-replicate {A = ℕ} max_area 0

nowhere : length (replicate max_area max_area) ≡ max_area
nowhere = length-replicate {A = ℕ} max_area max_area

-- what is read past the end of an array of chains
abbrev past : Chain
past = record { liberties = []; colour = 0; origin = 0; last = 0; count = 0 }

seen : (c : Joined-owner-lt-SLOTS) → let b = c.args.board in
    let q = c.loop-point.point in
    (c.if-owner-lt-SLOTS.colour.0 ≡ colour_at b q) × (c.if-owner-lt-SLOTS.colour.1 ≡ lead_at b q)
seen c =
    let b = c.args.board in
    let q = c.loop-point.point in
    let read : c.from-owner.result ≡ get_or b.owners q 0 = c.from-owner.ensures in
    let owners : length b.owners ≡ max_area = search rules in
    let on : q < length b.owners = omega arith in
    let long : length b.chains ≡ slots = search rules in
    elim c.if-owner-lt-SLOTS.branch [
      | then-owner-lt-SLOTS w ↦ let s = view-chained b q c.from-owner.result read on long past w.if-owner-lt-SLOTS.true in (ap (λ (x : ℕ × ℕ). x.0) w.colour-is ∙ s.0, ap (λ (x : ℕ × ℕ). x.1) w.colour-is ∙ s.1)
      | else-owner-lt-SLOTS w ↦ let s = view-free b q c.from-owner.result read on long w.if-owner-lt-SLOTS.false in (ap (λ (x : ℕ × ℕ). x.0) w.colour-is ∙ s.0, ap (λ (x : ℕ × ℕ). x.1) w.colour-is ∙ s.1)
    ]

pub loop-point-preserved : goal.loop-point-preserved
loop-point-preserved c =
    let loop = c.loop-point in
    let s = seen (goal.at.loop-point-preserved c).Joined-owner-lt-SLOTS in
    let short : loop.point < max_area = c.loop-point-test.true in (
      front-tabulate (colour_at _) loop.invariant.0 (rw zeros short) s.0,
      front-tabulate (lead_at _) loop.invariant.1 (rw nowhere short) s.1,
    )

pub returns : goal.returns
unfolding view_of
returns c =
    let loop = c.loop-point in
    let whole : max_area ≤ loop.point = c.loop-point-test.false in
    let b = c.args.board in
    let all : loop.point ≡ max_area = omega arith in
    let colours : loop.colours ≡ tabulate (colour_at b) 0 max_area = front-whole loop.invariant.0 (rw zeros whole) ∙ ap (tabulate (colour_at b) 0) all in
    let leads : loop.leads ≡ tabulate (lead_at b) 0 max_area = front-whole loop.invariant.1 (rw nowhere whole) ∙ ap (tabulate (lead_at b) 0) all in
    λ i. record { colours = colours i; leads = leads i }
