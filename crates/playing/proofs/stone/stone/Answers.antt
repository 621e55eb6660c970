-- The state is damaged, the tests refuse, or the stone is laid and the numbers are changed.
use mathlib.Core.List.{List}
use mathlib.Core.Path.{◌≡◌, refl, sym, ap, ◌∙◌, subst}
use Prim.Native.Nat.{ℕ}
use lib.ListN.{length}
use Rattle.std.specs.Prelude.{Result, Ok, Err}
use Rattle.rules.specs.Answers.{number}
use Rattle.rules.specs.Calls.{stone}
use Rattle.rules.proofs.Laws.Lists.{not-both}
use Rattle.points.specs.declared.answers.Refusal.{Refusal}
use Rattle.looking.specs.Laws.Sight.{unread}
use Rattle.game.specs.declared.state.Game.{Game}
use Rattle.game.specs.declared.clock.Clock.{Clock}
use Rattle.game.specs.Clock.{game_of}
use Rattle.game.specs.View.{view_of, TrueState, RoomIn}
use Rattle.game.specs.Laws.View.{game-whole}
use Rattle.playing.specs.declared.stone.Turn.{Turn}
use Rattle.playing.specs.Promise.{CalledTrue}
use Rattle.playing.specs.Turn.{Tested}
use Rattle.playing.specs.After.{Moving, Moved}
use Rattle.playing.specs.Laws.Promise.{called-damaged, called-true}
use Rattle.playing.specs.Laws.Stone.{stone-moving, stone-called}
use Rattle.playing.proofs.stone.stone.Goals.{After-all_tested-granted, Else-not-judge_with}
use Rattle.playing.proofs.stone.stone.Goals as goal

true-state : (c : Else-not-judge_with) → let a = c.args in TrueState a.game × RoomIn a.game (length a.history.now)
true-state c = c.judge_with.ensures.sound c.if-not-judge_with.false

pub returns-then-not-judge_with : goal.returns-then-not-judge_with
unfolding number
returns-then-not-judge_with c = called-damaged (λ is. not-both (c.judge_with.ensures.complete is) c.if-not-judge_with.true)

pub look_at-sight-requires : goal.look_at-sight-requires
look_at-sight-requires c = record { true_board = (true-state (goal.at.look_at-sight-requires c).Else-not-judge_with).0.board; partly = unread _ }

-- board and numbers are the game, and what is seen is seen of its board
pub all_tested-granted-requires : goal.all_tested-granted-requires
all_tested-granted-requires c =
    let a = c.args in
    let whole = game-whole a.game a.game.board c.clock_of-clock.result refl c.clock_of-clock.ensures in
    let is = subst (λ (g : Game). TrueState g × RoomIn g (length a.history.now)) (sym whole) (true-state (goal.at.all_tested-granted-requires c).Else-not-judge_with) in
    record { state = is.0; room = is.1; sees = c.look_at-sight.ensures }

-- what the tests promise, by what they answered
tests : (c : After-all_tested-granted) (r : Result Turn Refusal) → c.all_tested-granted.result ≡ r →
    let a = c.args in Tested a.game a.history.now a.row a.column r c.all_tested-granted.new.history
tests c r e =
    let a = c.args in
    subst (λ (x : Result Turn Refusal). Tested a.game a.history.now a.row a.column x c.all_tested-granted.new.history) e
    (subst (λ (g : Game). Tested g a.history.now a.row a.column c.all_tested-granted.result c.all_tested-granted.new.history)
    (game-whole a.game a.game.board c.clock_of-clock.result refl c.clock_of-clock.ensures) c.all_tested-granted.ensures)

pub returns-in-Err : goal.returns-in-Err
returns-in-Err c =
    let a = c.args in
    called-true (true-state (goal.at.returns-in-Err c).Else-not-judge_with)
    (subst (λ (n : ℕ). CalledTrue (stone (view_of a.game) a.history.now a.row a.column) a.game a.history.now n a.game c.all_tested-granted.new.history)
    (sym c.number.ensures) (tests (goal.at.returns-in-Err c).After-all_tested-granted _ c.in-Err.is))

pub lay-laid-requires : goal.lay-laid-requires
lay-laid-requires c =
    (tests (goal.at.lay-laid-requires c).After-all_tested-granted _ c.in-Ok.is).laying

pub moved-after-requires : goal.moved-after-requires
moved-after-requires c =
    subst (λ (k : Clock). Moving k c.lay-laid.result.ko) (sym c.clock_of-clock.ensures)
    (stone-moving _ _ _ _ (true-state (goal.at.moved-after-requires c).Else-not-judge_with).0 _ _
    (tests (goal.at.moved-after-requires c).After-all_tested-granted _ c.in-Ok.is) c.lay-laid.result c.lay-laid.ensures)

pub returns-in-Ok : goal.returns-in-Ok
returns-in-Ok c =
    let a = c.args in
    let is = true-state (goal.at.returns-in-Ok c).Else-not-judge_with in
    let laid = c.lay-laid.result in
    let moved = subst (λ (k : Clock). Moved k c.in-Ok.turn.records laid.taken laid.lost laid.ko c.moved-after.result) c.clock_of-clock.ensures c.moved-after.ensures in
    let Is : Game → Type 0 = λ g. CalledTrue (stone (view_of a.game) a.history.now a.row a.column) a.game a.history.now 0 g c.all_tested-granted.new.history in
    called-true is
    (subst Is (sym c.game_of-answered.ensures)
    (stone-called _ _ _ _ is.0 _ _ (tests (goal.at.returns-in-Ok c).After-all_tested-granted _ c.in-Ok.is) laid c.lay-laid.ensures c.moved-after.result moved is.1))
