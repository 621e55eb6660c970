-- A game as its board and its numbers: taken apart and put together.
use Rattle.board.specs.declared.goban.Board.{Board}
use Rattle.game.specs.declared.state.Game.{Game}
use Rattle.game.specs.declared.clock.Clock.{Clock}

unfoldable pub clock_of : Game → Clock
clock_of g =
    record {
      flags = g.flags;
      turn = g.turn;
      passes = g.passes;
      outcome = g.outcome;
      begun = g.begun;
      ko = g.ko;
      handicap = g.handicap;
      accepted = g.accepted;
      held = g.held;
      put = g.put;
      records = g.records;
    }

unfoldable pub game_of : Board → Clock → Game
game_of b c =
    record {
      board = b;
      flags = c.flags;
      turn = c.turn;
      passes = c.passes;
      outcome = c.outcome;
      begun = c.begun;
      ko = c.ko;
      handicap = c.handicap;
      accepted = c.accepted;
      held = c.held;
      put = c.put;
      records = c.records;
    }
