-- The numbers after an accepted pass, resignation and resume, as the code leaves them.
use Rattle.std.specs.Prelude.{ℕ, ◌+◌}
use Rattle.game.specs.declared.clock.Clock.{Clock}
use Rattle.game.specs.View.{no_point}

-- it is the turn of the player whom the byte names
unfoldable pub passed : Clock → ℕ → Clock
passed c turn =
    record {
      flags = c.flags;
      turn = turn;
      passes = c.passes + 1;
      outcome = c.outcome;
      begun = 1;
      ko = no_point;
      handicap = c.handicap;
      accepted = c.accepted;
      held = c.held;
      put = c.put;
      records = c.records;
    }

unfoldable pub resigned : Clock → ℕ → Clock
resigned c player =
    record {
      flags = c.flags;
      turn = c.turn;
      passes = c.passes;
      outcome = player;
      begun = 1;
      ko = c.ko;
      handicap = c.handicap;
      accepted = c.accepted;
      held = c.held;
      put = c.put;
      records = c.records;
    }

unfoldable pub resumed : Clock → Clock
resumed c =
    record {
      flags = c.flags;
      turn = c.turn;
      passes = 0;
      outcome = c.outcome;
      begun = c.begun;
      ko = c.ko;
      handicap = c.handicap;
      accepted = c.accepted;
      held = c.held;
      put = c.put;
      records = c.records;
    }
