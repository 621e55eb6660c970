-- `board_of`: the judge says which of the two it is.
use Rattle.rules.proofs.Laws.Lists.{not-both}
use Rattle.showing.specs.Laws.Promise.{shown-damaged, shown-told}
use Rattle.showing.proofs.shown.board_of.Goals as goal

pub returns-then-not-judge_state : goal.returns-then-not-judge_state
returns-then-not-judge_state c = shown-damaged _ (λ is. not-both (c.judge_state.ensures.complete is) c.if-not-judge_state.true) _ c.empty_board.ensures

pub returns : goal.returns
returns c = shown-told _ (c.judge_state.ensures.sound c.if-not-judge_state.false)
