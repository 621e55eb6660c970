-- `is_superko_at`: the judge, then the spot by what is seen of the board, then the test, by the records where they decide.
use mathlib.Core.Path.{◌≡◌, sym, ap, ◌∙◌}
use mathlib.Core.Bool.{not}
use Rattle.std.specs.Prelude.{Ok}
use Rattle.rules.specs.Answers.{number, accepts}
use lib.ListN.{length}
use Rattle.rules.proofs.Laws.Lists.{not-both}
use Rattle.board.specs.Board.{colours_of}
use Rattle.legality.specs.Near.{near_of}
use Rattle.looking.specs.Laws.Sight.{unread}
use Rattle.game.specs.View.{TrueState, RoomIn}
use Rattle.points.proofs.Reasons.{refuses}
use Rattle.checking.specs.Spot.{spot_of}
use Rattle.checking.specs.Told.{told_as}
use Rattle.checking.specs.Laws.Asking.{empty-asking}
use Rattle.asking.specs.Tests.{superko_at}
use Rattle.asking.specs.Laws.Tests.{
  tested-damaged,
  tested-off,
  tested-stone,
  tested-empty,
  spot-seen,
  near-seen,
  superko-known,
  superko-again,
  superko-repeating,
}
use Rattle.asking.proofs.superko.is_superko_at.Goals.{After-spot_of, After-superko_told-told}
use Rattle.asking.proofs.superko.is_superko_at.Goals as goal

-- the spot is that of the board
found : (c : After-spot_of)
    → let a = c.args in
    c.spot_of.result ≡ spot_of a.game.board.height a.game.board.width (colours_of a.game.board) a.row a.column
found c =
    let a = c.args in
    spot-seen a.game a.row a.column (c.judge_with.ensures.sound c.if-not-judge_with.false).0.board _ _ c.look_at-sight.ensures _ c.spot_of.ensures

-- what is seen beside an empty point
beside : (c : After-superko_told-told)
    → let b = c.args.game.board in
    c.look_at-sight.result.near ≡ near_of b.height b.width (colours_of b) c.in-Empty.point
beside c =
    let a = c.args in
    near-seen a.game a.row a.column (c.judge_with.ensures.sound c.if-not-judge_with.false).0.board _ _ c.look_at-sight.ensures _ c.spot_of.ensures
    _ c.in-Empty.is

-- ---- The needs

pub returns-then-not-judge_with : goal.returns-then-not-judge_with
returns-then-not-judge_with c = tested-damaged (λ is. not-both (c.judge_with.ensures.complete is) c.if-not-judge_with.true)

pub look_at-sight-requires : goal.look_at-sight-requires
look_at-sight-requires c = record { true_board = (c.judge_with.ensures.sound c.if-not-judge_with.false).0.board; partly = unread _ }

pub returns-in-Off : goal.returns-in-Off
unfolding superko_at
returns-in-Off c =
    tested-off (c.judge_with.ensures.sound c.if-not-judge_with.false) _ _ _ _ _ (found (goal.at.returns-in-Off c).After-spot_of) c.in-Off.is

pub returns-in-Stone : goal.returns-in-Stone
unfolding superko_at
returns-in-Stone c =
    tested-stone (c.judge_with.ensures.sound c.if-not-judge_with.false) _ _ _ _ _ (found (goal.at.returns-in-Stone c).After-spot_of) c.in-Stone.is

pub returns-in-Free : goal.returns-in-Free
unfolding superko_at number
returns-in-Free c =
    let a = c.args in
    tested-empty (c.judge_with.ensures.sound c.if-not-judge_with.false) _ _ _ _ _ (found (goal.at.returns-in-Free c).After-spot_of) _ c.in-Empty.is _
    (superko-known a.game _ _ (beside (goal.at.returns-in-Free c).After-superko_told-told) _ c.player_of.ensures _ c.is_ko_point.ensures
    _ c.superko_told-told.ensures a.history.now _ (ap told_as (c.in-Ok.is ∙ ap Ok c.in-Free.is)))

pub repeats-requires : goal.repeats-requires
repeats-requires c =
    let a = c.args in
    let is = c.judge_with.ensures.sound c.if-not-judge_with.false in
    superko-repeating a.game _ _ (beside (goal.at.repeats-requires c).After-superko_told-told) _ c.player_of.ensures _ c.is_ko_point.ensures _ c.superko_told-told.ensures
    _ (empty-asking a.game a.history.now a.game.flags _ _ _ (found (goal.at.repeats-requires c).After-spot_of) _ c.in-Empty.is _ is.0 is.1)
    (ap told_as (c.in-Ok.is ∙ ap Ok c.in-IfNew.is))

pub returns-in-IfNew : goal.returns-in-IfNew
unfolding superko_at
returns-in-IfNew c =
    let a = c.args in
    tested-empty (c.judge_with.ensures.sound c.if-not-judge_with.false) _ _ _ _ _ (found (goal.at.returns-in-IfNew c).After-spot_of) _ c.in-Empty.is _
    (c.repeats.ensures
    ∙ superko-again a.game _ _ (beside (goal.at.returns-in-IfNew c).After-superko_told-told) _ c.player_of.ensures _ c.is_ko_point.ensures
    _ c.superko_told-told.ensures a.history.now (ap told_as (c.in-Ok.is ∙ ap Ok c.in-IfNew.is)))

pub returns-in-Err : goal.returns-in-Err
unfolding superko_at accepts
returns-in-Err c =
    let a = c.args in
    tested-empty (c.judge_with.ensures.sound c.if-not-judge_with.false) _ _ _ _ _ (found (goal.at.returns-in-Err c).After-spot_of) _ c.in-Empty.is _
    (sym (ap not (refuses c.in-Err.field-0))
    ∙ superko-known a.game _ _ (beside (goal.at.returns-in-Err c).After-superko_told-told) _ c.player_of.ensures _ c.is_ko_point.ensures
    _ c.superko_told-told.ensures a.history.now _ (ap told_as c.in-Err.is))
