-- What a game's state shows its players, and when it is true.
use Rattle.std.specs.Prelude.{Bool, cond, not, ℕ, ◌-◌, ◌^◌, ◌/◌, ◌≤◌, eqb, Option, None, Some}
use Rattle.rules.specs.Sizes.{record_bytes}
use Rattle.rules.specs.Colours.{black, white}
use Rattle.rules.specs.Game as rules
use Rattle.board.specs.Board.{colours_of, new_board}
use Rattle.board.specs.True.{TrueBoard}
use Rattle.game.specs.declared.state.Game.{Game}

-- every byte names a player
unfoldable pub turn_of : ℕ → ℕ
turn_of x = cond (eqb x white) white black

unfoldable pub outcome_of : ℕ → Option ℕ
outcome_of x = cond (eqb x black) (Some black) (cond (eqb x white) (Some white) None)

-- the number that means no point
abbrev pub no_point : ℕ
no_point = 2 ^ 16 - 1

unfoldable pub ko_of : ℕ → Option ℕ
ko_of x = cond (eqb x no_point) None (Some x)

unfoldable pub begun_of : ℕ → Bool
begun_of x = not (eqb x 0)

unfoldable pub view_of : Game → rules.Game
view_of g =
    record {
      height = g.board.height;
      width = g.board.width;
      flags = g.flags;
      colours = colours_of g.board;
      turn = turn_of g.turn;
      passes = g.passes;
      white_held = g.held.white;
      black_held = g.held.black;
      ko_point = ko_of g.ko;
      outcome = outcome_of g.outcome;
      handicap = g.handicap;
      accepted = g.accepted;
      black_put = g.put.black;
      white_put = g.put.white;
      records = g.records;
      begun = begun_of g.begun;
    }

-- a true state: a true board, and a game of which all holds that 01 asks
pub record TrueState (g : Game) : Type 0 where
  pub board : TrueBoard g.board
  pub game : rules.TrueGame (view_of g)

-- a history of n bytes has room for so many records
abbrev pub RoomFor : ℕ → ℕ → Type 0
RoomFor records n = records ≤ n / record_bytes

-- and for those that the state counts
unfoldable pub RoomIn : Game → ℕ → Type 0
RoomIn g n = RoomFor g.records n

-- the state of a game in which nothing has happened yet
unfoldable pub fresh_state : ℕ → ℕ → ℕ → Game
fresh_state h w flags =
    record {
      board = new_board h w;
      flags = flags;
      turn = black;
      passes = 0;
      outcome = 0;
      begun = 0;
      ko = no_point;
      handicap = 0;
      accepted = 0;
      held = record { black = 0; white = 0 };
      put = record { black = 0; white = 0 };
      records = 0;
    }
