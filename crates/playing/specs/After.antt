-- The numbers that a stone leaves and the state that a handicap does, as the code makes them.
use Rattle.std.specs.Prelude.{◌≡◌, cond, ℕ, ◌+◌, ◌≤◌, ◌<◌, eqb, Option}
use Rattle.rules.specs.Sizes.{max_area, max_stones}
use Rattle.rules.specs.Colours.{black, white, other}
use Rattle.rules.specs.Calls.{one_if}
use Rattle.points.specs.Place.{Within}
use Rattle.board.specs.declared.goban.Board.{Board}
use Rattle.game.specs.declared.state.Game.{Game}
use Rattle.game.specs.declared.state.Tally.{Tally}
use Rattle.game.specs.declared.clock.Clock.{Clock}
use Rattle.game.specs.View.{no_point, turn_of, ko_of}

-- no more than a game can put down
pub record Few (t : Tally) : Type 0 where
  pub blacks : t.black ≤ max_area + max_stones
  pub whites : t.white ≤ max_area + max_stones

-- how many stones of each colour a stone removed that took so many of the opponent's and lost so many of the mover's own
unfoldable pub black_gone : ℕ → ℕ → ℕ → ℕ
black_gone mover taken lost = cond (eqb mover black) lost taken

unfoldable pub white_gone : ℕ → ℕ → ℕ → ℕ
white_gone mover taken lost = cond (eqb mover black) taken lost

-- the prisoners
pub record HeldAfter (held : Tally) (mover taken lost : ℕ) (r : Tally) : Type 0 where
  pub blacks : r.black ≡ held.black + black_gone mover taken lost
  pub whites : r.white ≡ held.white + white_gone mover taken lost

-- the stones put down
pub record PutAfter (put : Tally) (mover : ℕ) (r : Tally) : Type 0 where
  pub blacks : r.black ≡ put.black + one_if mover black
  pub whites : r.white ≡ put.white + one_if mover white

-- ---- The numbers after a stone

-- what it is to change cannot grow out of its type, and the ko point is a number of its own
pub record Moving (c : Clock) (place : Option ℕ) : Type 0 where
  pub held : Few c.held
  pub put : Few c.put
  pub more : c.accepted < max_stones
  pub within : Within no_point place

unfoldable pub stoned : Clock → ℕ → ℕ → Tally → Tally → ℕ → Clock
stoned c turn ko held put records =
    record {
      flags = c.flags;
      turn = turn;
      passes = 0;
      outcome = c.outcome;
      begun = 1;
      ko = ko;
      handicap = c.handicap;
      accepted = c.accepted + 1;
      held = held;
      put = put;
      records = records;
    }

pub record Moved (c : Clock) (records taken lost : ℕ) (place : Option ℕ) (r : Clock) : Type 0 where
  pub ko : ko_of r.ko ≡ place
  pub held : HeldAfter c.held (turn_of c.turn) taken lost r.held
  pub put : PutAfter c.put (turn_of c.turn) r.put
  -- and the rest
  pub clock : r ≡ stoned c (other (turn_of c.turn)) r.ko r.held r.put records

-- ---- The state after a handicap

unfoldable pub handicap_given : Game → Board → ℕ → Game
handicap_given g board count =
    record {
      board = board;
      flags = g.flags;
      turn = white;
      passes = g.passes;
      outcome = g.outcome;
      begun = 1;
      ko = g.ko;
      handicap = count;
      accepted = g.accepted;
      held = g.held;
      put = record { black = g.put.black + count; white = g.put.white };
      records = g.records;
    }
