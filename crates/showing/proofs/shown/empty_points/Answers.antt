-- `empty_points`: the judge, then the board's own list.
use Rattle.rules.proofs.Laws.Lists.{not-both}
use Rattle.listing.specs.Lists.{Lists}
use Rattle.checking.specs.Laws.Promise.{filled-damaged, filled-told}
use Rattle.showing.proofs.shown.empty_points.Goals as goal

pub returns-then-not-judge_state : goal.returns-then-not-judge_state
returns-then-not-judge_state c = filled-damaged (λ is. not-both (c.judge_state.ensures.complete is) c.if-not-judge_state.true)

pub returns : goal.returns
unfolding Lists
returns c =
    let is = c.judge_state.ensures.sound c.if-not-judge_state.false in
    filled-told is (c.get_empty_coords.ensures.told is.board)
