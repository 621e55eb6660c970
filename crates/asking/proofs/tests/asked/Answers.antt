-- `asked`: the judge, then the spot by what is seen of the board, then the test.
use mathlib.Core.Path.{◌≡◌, ◌∙◌}
use Rattle.rules.proofs.Laws.Lists.{not-both}
use Rattle.board.specs.Board.{colours_of}
use Rattle.looking.specs.Laws.Sight.{unread}
use Rattle.checking.specs.Spot.{spot_of}
use Rattle.asking.specs.Tests.{tested_at}
use Rattle.asking.specs.Laws.Tests.{tested-damaged, tested-off, tested-stone, tested-empty, spot-seen, near-tested}
use Rattle.asking.proofs.tests.asked.Goals.{After-spot_of}
use Rattle.asking.proofs.tests.asked.Goals as goal

-- the spot is that of the board
found : (c : After-spot_of)
    → let g = c.args.game.now in
    c.spot_of.result ≡ spot_of g.board.height g.board.width (colours_of g.board) c.args.row c.args.column
found c =
    let a = c.args in
    spot-seen a.game.now a.row a.column (c.judge_state.ensures.sound c.if-not-judge_state.false).board _ _ c.look_at-sight.ensures _ c.spot_of.ensures

pub returns-then-not-judge_state : goal.returns-then-not-judge_state
returns-then-not-judge_state c = tested-damaged (λ is. not-both (c.judge_state.ensures.complete is) c.if-not-judge_state.true)

pub look_at-sight-requires : goal.look_at-sight-requires
look_at-sight-requires c = record { true_board = (c.judge_state.ensures.sound c.if-not-judge_state.false).board; partly = unread _ }

pub returns-in-Off : goal.returns-in-Off
unfolding tested_at
returns-in-Off c =
    tested-off (c.judge_state.ensures.sound c.if-not-judge_state.false) _ _ _ _ _ (found (goal.at.returns-in-Off c).After-spot_of) c.in-Off.is

pub returns-in-Stone : goal.returns-in-Stone
unfolding tested_at
returns-in-Stone c =
    tested-stone (c.judge_state.ensures.sound c.if-not-judge_state.false) _ _ _ _ _ (found (goal.at.returns-in-Stone c).After-spot_of) c.in-Stone.is

pub returns-in-Empty : goal.returns-in-Empty
unfolding tested_at
returns-in-Empty c =
    let a = c.args in
    let is = c.judge_state.ensures.sound c.if-not-judge_state.false in
    tested-empty is _ _ _ _ _ (found (goal.at.returns-in-Empty c).After-spot_of) _ c.in-Empty.is _
    (c.holds.ensures
    ∙ near-tested a.game.now a.row a.column is.board _ _ c.look_at-sight.ensures _ c.spot_of.ensures _ c.in-Empty.is
    _ c.player_of.ensures a.test)
