-- The numbers beside what the board's judge found, for the game's own board.
use mathlib.Core.Path.{refl, subst}
use Rattle.game.specs.View.{TrueState}
use Rattle.game.specs.Judge.{Decides}
use Rattle.game.specs.Laws.View.{game-whole}
use Rattle.game.specs.declared.state.Game.{Game}
use Rattle.game.proofs.judge.judge_state.Goals as goal

pub returns : goal.returns
returns c =
    let g = c.args.game.now in
    let fits = c.numbers_fit.ensures g.board refl refl c.judged-found.ensures in
    let told = subst (λ (x : Game). Decides c.numbers_fit.result (TrueState x)) (game-whole g g.board c.clock_of.result refl c.clock_of.ensures) fits in
    record { sound = told.sound; complete = told.complete }
