-- The fields are the definition's, the board by what `empty_board` ensures.
use Rattle.rules.specs.Colours.{black}
use Rattle.game.specs.View.{no_point, fresh_state}
use Rattle.game.proofs.calls.fresh.Goals as goal

pub returns : goal.returns
unfolding fresh_state
returns c =
    λ i.
    record {
      board = c.empty_board.ensures i;
      flags = c.args.flags;
      turn = black;
      passes = 0;
      outcome = 0;
      begun = 0;
      ko = no_point;
      handicap = 0;
      accepted = 0;
      held = record { black = 0; white = 0 };
      put = record { black = 0; white = 0 };
      records = 0;
    }
