-- `making::make::from_colours`: the tests in the order of 01, each with what the ones before it told.
use mathlib.Core.Path.{◌≡◌, refl, sym, ap, ◌∙◌}
use mathlib.Core.Bool.{true, false}
use lib.Dec.{ltb}
use lib.ListN.{length}
use Rattle.rules.specs.Points.{area}
use Rattle.rules.specs.Lists.{any}
use Rattle.rules.specs.Colours.{white}
use Rattle.rules.specs.Game.{empty_board}
use Rattle.rules.specs.Answers.{NoLiberty, number, accepts, refuse}
use Rattle.rules.specs.Calls.{choked, size_answer, board_answer}
use Rattle.placing.specs.Placing.{Stands, Outcome}
use Rattle.making.specs.Laws.FromColours.{stands-placing, placed-sized}
use Rattle.rules.proofs.Laws.Answers.{zero-accepts, other-refuses}
use Rattle.placing.specs.Laws.Answers.{outcome-refused, outcome-accepted, outcome-as}
use Rattle.making.specs.Laws.FromColours.{board-size, board-length, board-colour, board-choked, refused-as}
use Rattle.making.proofs.make.from_colours.Goals.{After-place-placed, Else-any_unknown, Else-colours-area, Else-new-ne-ACCEPTED}
use Rattle.making.proofs.make.from_colours.Goals as goal

-- the size was accepted
sized : (c : Else-new-ne-ACCEPTED) → accepts (size_answer c.args.height c.args.width) ≡ true
sized c = zero-accepts _ _ c.new_board-new.ensures.outcome.answered c.if-new-ne-ACCEPTED.false

-- the colours cover it
covers :
    (c : Else-colours-area) →
    let a = c.args in
    length a.colours.now ≡ area a.height a.width
covers c = c.if-colours-area.false ∙ c.area.ensures

-- and players have them
known : (c : Else-any_unknown) → any (ltb white) c.args.colours.now ≡ false
known c = sym c.any_unknown.ensures ∙ c.if-any_unknown.false

-- so what is left is whether a chain is choked
all_tested :
    (c : Else-any_unknown) →
    let a = c.args in
    board_answer a.height a.width a.colours.now ≡ refuse NoLiberty (choked a.height a.width a.colours.now)
all_tested c =
    let sized-here = zero-accepts _ _ c.new_board-new.ensures.outcome.answered c.if-new-ne-ACCEPTED.false in
    board-choked _ _ _ sized-here (c.if-colours-area.false ∙ c.area.ensures) (known c)

-- the new board
made :
    (c : Else-new-ne-ACCEPTED) →
    let a = c.args in
    Stands a.height a.width (empty_board a.height a.width) c.new_board-new.result.board
made c = c.new_board-new.ensures.outcome.placed (sized c)

-- what the placement gave
laid :
    (c : After-place-placed) →
    let a = c.args in
    Outcome (refuse NoLiberty (choked a.height a.width a.colours.now)) a.height a.width a.colours.now
    c.new_board-new.result.board c.place-placed.result
laid c =
    let new = c.new_board-new.ensures.outcome in
    placed-sized _ _ _ (new.placed (zero-accepts _ _ new.answered c.if-new-ne-ACCEPTED.false)) _ _ c.place-placed.ensures

pub returns-then-new-ne-ACCEPTED : goal.returns-then-new-ne-ACCEPTED
returns-then-new-ne-ACCEPTED c =
    let new = c.new_board-new.ensures.outcome in
    let bad = other-refuses _ _ new.answered c.if-new-ne-ACCEPTED.true in
    outcome-as (sym (board-size _ _ _ bad)) (outcome-refused new.answered bad (new.refused bad))

pub returns-then-colours-area : goal.returns-then-colours-area
unfolding accepts number
returns-then-colours-area c =
    outcome-as
    (sym (board-length _ _ _ (sized (goal.at.returns-then-colours-area c).Else-new-ne-ACCEPTED) (λ z. c.if-colours-area.true (z ∙ sym c.area.ensures))))
    (outcome-refused c.refused.ensures.0 refl c.refused.ensures.1)

pub returns-then-any_unknown : goal.returns-then-any_unknown
unfolding accepts number
returns-then-any_unknown c =
    outcome-as
    (sym (board-colour _ _ _ (sized (goal.at.returns-then-any_unknown c).Else-new-ne-ACCEPTED) (covers (goal.at.returns-then-any_unknown c).Else-colours-area)
    (sym c.any_unknown.ensures ∙ c.if-any_unknown.true)))
    (outcome-refused c.refused-then-any_unknown.ensures.0 refl c.refused-then-any_unknown.ensures.1)

pub place-placed-requires : goal.place-placed-requires
place-placed-requires c =
    let at = goal.at.place-placed-requires c in
    stands-placing _ _ _ (made at.Else-new-ne-ACCEPTED) _ (covers at.Else-colours-area) (known at.Else-any_unknown)

pub returns-then-placed-ne-ACCEPTED : goal.returns-then-placed-ne-ACCEPTED
returns-then-placed-ne-ACCEPTED c =
    let o = laid (goal.at.returns-then-placed-ne-ACCEPTED c).After-place-placed in
    let bad = other-refuses _ _ o.answered c.if-placed-ne-ACCEPTED.true in
    let its = refused-as NoLiberty _ bad in
    outcome-as (sym (all_tested (goal.at.returns-then-placed-ne-ACCEPTED c).Else-any_unknown))
    (outcome-refused (c.refused-then-placed-ne-ACCEPTED.ensures.0 ∙ ap number (sym its)) bad c.refused-then-placed-ne-ACCEPTED.ensures.1)

pub returns : goal.returns
returns c =
    let o = laid (goal.at.returns c).After-place-placed in
    let ok = zero-accepts _ _ o.answered c.if-placed-ne-ACCEPTED.false in
    outcome-as (sym (all_tested (goal.at.returns c).Else-any_unknown)) (outcome-accepted o.answered ok (o.placed ok))
