use Rattle.std.proofs.Common.{◌≡◌, ◌<◌, ◌+◌, ◌/◌, ◌%◌, ◌&&◌, true, ltb, get_or, set, sym, ap, ◌∙◌, subst, arith, ℕ}
use Rattle.rules.specs.Colours.{black}
use Rattle.rules.specs.Points.{area}
use Rattle.board.specs.Laws.Board.{area-fits}
use Rattle.placing.specs.Laws.Spots.{Marking, marking-none, marking-off, marking-on, marking-repeat, marking-next, not-inside, marked_refused, marked_all}
use Rattle.placing.proofs.handicap.mark.Goals.{After-two_to_1dim-point, Else-not-is_coord_valid}
use Rattle.placing.proofs.handicap.mark.Goals as goal

-- the spot is on the board
valid :
    (c : Else-not-is_coord_valid) →
    let a = c.args in
    let spot = get_or a.spots.now c.loop-spot.spot-index 0 in
    ltb (spot / 256) a.height && ltb (spot % 256) a.width ≡ true
valid c = sym c.is_coord_valid.ensures ∙ c.if-not-is_coord_valid.false

-- and its point
on-board : (c : After-two_to_1dim-point) → let a = c.args in c.two_to_1dim-point.result < area a.height a.width
on-board c =
    let l = c.loop-spot in
    let on = marking-on _ _ c.requires _ l.colours l.spot-index l.invariant c.loop-spot-test.true (sym c.is_coord_valid.ensures ∙ c.if-not-is_coord_valid.false) in
    omega (arith, c.two_to_1dim-point.ensures, on)

pub loop-spot-init : goal.loop-spot-init
loop-spot-init c = marking-none _ _ c.requires _

pub returns-then-not-is_coord_valid : goal.returns-then-not-is_coord_valid
returns-then-not-is_coord_valid c =
    let l = c.loop-spot in
    marked_refused _ _ c.requires c.args.spots.now
    (marking-off _ _ c.requires _ l.colours l.spot-index l.invariant c.loop-spot-test.true
    (not-inside _ _ _ _ (sym c.is_coord_valid.ensures ∙ c.if-not-is_coord_valid.true)))

pub bounds-colours-point : goal.bounds-colours-point
bounds-colours-point c = omega (arith, on-board (goal.at.bounds-colours-point c).After-two_to_1dim-point, area-fits c.requires)

pub returns-then-colours-point-ne-EMPTY : goal.returns-then-colours-point-ne-EMPTY
returns-then-colours-point-ne-EMPTY c =
    let l = c.loop-spot in
    marked_refused _ _ c.requires c.args.spots.now
    (marking-repeat _ _ c.requires _ l.colours l.spot-index l.invariant c.loop-spot-test.true (valid (goal.at.returns-then-colours-point-ne-EMPTY c).Else-not-is_coord_valid)
    (λ z. c.if-colours-point-ne-EMPTY.true (ap (λ (p : ℕ). get_or l.colours p 0) c.two_to_1dim-point.ensures ∙ z)))

pub bounds-colours-point-in-loop-spot : goal.bounds-colours-point-in-loop-spot
bounds-colours-point-in-loop-spot c = omega (arith, on-board (goal.at.bounds-colours-point-in-loop-spot c).After-two_to_1dim-point, area-fits c.requires)

pub loop-spot-preserved : goal.loop-spot-preserved
loop-spot-preserved c =
    let l = c.loop-spot in
    let point = c.two_to_1dim-point.ensures in
    subst (λ (p : ℕ). Marking c.args.height c.args.width c.args.spots.now (set l.colours p black) (l.spot-index + 1)) (sym point)
    (marking-next _ _ c.requires _ l.colours l.spot-index l.invariant c.loop-spot-test.true (valid (goal.at.loop-spot-preserved c).Else-not-is_coord_valid)
    (ap (λ (p : ℕ). get_or l.colours p 0) (sym point) ∙ c.if-colours-point-ne-EMPTY.false))

pub returns : goal.returns
returns c = marked_all _ _ c.requires c.args.spots.now _ _ c.loop-spot.invariant c.loop-spot-test.false
