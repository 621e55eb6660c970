-- Each way out is one of the promise's laws: the state is damaged, the game has begun, laying the stones refuses, or they are laid.
use native.Mathlib.Omega.{arith}
use Prim.Native.Nat.{◌≤◌}
use lib.ListN.{length}
use Rattle.rules.specs.Sizes.{max_area}
use Rattle.rules.specs.Answers.{number}
use Rattle.rules.proofs.Laws.Lists.{not-both}
use Rattle.placing.specs.Placing.{spots_of}
use Rattle.game.specs.View.{TrueState}
use Rattle.game.specs.Laws.Promise.{alone-damaged}
use Rattle.playing.specs.After.{handicap_given}
use Rattle.playing.specs.Laws.Count.{true-few}
use Rattle.playing.specs.Laws.Handicap.{spots-length, handicap-late, start-bare, handicap-refused, spots-few, handicap-laid}
use Rattle.playing.proofs.handicap.handicap.Goals.{Else-not-judge_state, Else-placed-ne-ACCEPTED}
use Rattle.playing.proofs.handicap.handicap.Goals as goal

good : (c : Else-not-judge_state) → TrueState c.args.game
good c = c.judge_state.ensures.sound c.if-not-judge_state.false

-- the board took them all, so they are no more than its points
few : (c : Else-placed-ne-ACCEPTED) → length c.args.spots.now ≤ max_area
few c =
    let spots = c.args.spots.now in
    omega (
      arith,
      spots-few _ (c.judge_state.ensures.sound c.if-not-judge_state.false) (spots_of spots) c.if-answered-ne0.false c.lay_handicap-placed.result c.lay_handicap-placed.ensures c.if-placed-ne-ACCEPTED.false,
      spots-length spots,
    )

pub returns-then-not-judge_state : goal.returns-then-not-judge_state
unfolding number
returns-then-not-judge_state c = alone-damaged _ _ (λ is. not-both (c.judge_state.ensures.complete is) c.if-not-judge_state.true)

pub returns-then-answered-ne0 : goal.returns-then-answered-ne0
unfolding number
returns-then-answered-ne0 c = handicap-late _ (good (goal.at.returns-then-answered-ne0 c).Else-not-judge_state) _ c.if-answered-ne0.true

pub lay_handicap-placed-requires : goal.lay_handicap-placed-requires
lay_handicap-placed-requires c = start-bare _ (good (goal.at.lay_handicap-placed-requires c).Else-not-judge_state) c.if-answered-ne0.false

pub returns-then-placed-ne-ACCEPTED : goal.returns-then-placed-ne-ACCEPTED
returns-then-placed-ne-ACCEPTED c =
    handicap-refused _ (good (goal.at.returns-then-placed-ne-ACCEPTED c).Else-not-judge_state) _ c.if-answered-ne0.false c.lay_handicap-placed.result c.lay_handicap-placed.ensures c.if-placed-ne-ACCEPTED.true

pub overflow_cast-count : goal.overflow_cast-count
overflow_cast-count c = let most = few (goal.at.overflow_cast-count c).Else-placed-ne-ACCEPTED in record { fits = omega arith }

pub overflow_cast-put : goal.overflow_cast-put
overflow_cast-put c = let most = few (goal.at.overflow_cast-put c).Else-placed-ne-ACCEPTED in record { fits = omega arith }

pub overflow_add-put : goal.overflow_add-put
overflow_add-put c =
    let most = few (goal.at.overflow_add-put c).Else-placed-ne-ACCEPTED in
    let put = (true-few _ (good (goal.at.overflow_add-put c).Else-not-judge_state)).1 in
    record { fits = omega (arith, put.blacks) }

pub returns : goal.returns
unfolding handicap_given
returns c =
    let spots = c.args.spots.now in
    handicap-laid _ (good (goal.at.returns c).Else-not-judge_state) (spots_of spots) c.if-answered-ne0.false c.lay_handicap-placed.result c.lay_handicap-placed.ensures c.if-placed-ne-ACCEPTED.false
    (spots-length spots)
