-- A game as its players see it, and what makes it true: what 01 says of a true state, but for the chain table and the hash.
use Rattle.std.specs.Prelude.{◌≡◌, Bool, false, List, ◌⊎◌, ◌≢◌, ℕ, ◌+◌, ◌≤◌, ◌<◌, eqb, length, replicate, Option, None, Some}
use Rattle.rules.specs.Sizes.{max_side, max_area, max_stones, max_flags}
use Rattle.rules.specs.Lists.{count}
use Rattle.rules.specs.Colours.{empty, black, white, at}
use Rattle.rules.specs.Points.{area, neighbours}
use Rattle.rules.specs.Reach.{Reaches}
use Rattle.rules.specs.Records.{capacity}

pub record Game : Type 0 where
  pub height : ℕ
  pub width : ℕ
  pub flags : ℕ
  -- the colours of the points, by index
  pub colours : List ℕ
  -- the colour of the player to move
  pub turn : ℕ
  pub passes : ℕ
  -- prisoners: the first number counts White stones removed, the second Black
  pub white_held : ℕ
  pub black_held : ℕ
  pub ko_point : Option ℕ
  -- the player that an accepted resignation named
  pub outcome : Option ℕ
  pub handicap : ℕ
  -- stones accepted, handicap not counted
  pub accepted : ℕ
  -- stones put down, handicap counted
  pub black_put : ℕ
  pub white_put : ℕ
  -- how many records the history holds
  pub records : ℕ
  -- the mark of a begun game: set by an accepted handicap, stone, pass or resignation
  pub begun : Bool

unfoldable pub empty_board : ℕ → ℕ → List ℕ
empty_board h w = replicate (area h w) empty

-- a game in which nothing has happened yet
unfoldable pub fresh_game : ℕ → ℕ → ℕ → Game
fresh_game h w flags =
    record {
      height = h;
      width = w;
      flags = flags;
      colours = empty_board h w;
      turn = black;
      passes = 0;
      white_held = 0;
      black_held = 0;
      ko_point = None;
      outcome = None;
      handicap = 0;
      accepted = 0;
      black_put = 0;
      white_put = 0;
      records = 0;
      begun = false;
    }

-- the number of stones of a colour on the board
unfoldable pub stones : List ℕ → ℕ → ℕ
stones cols c = count (eqb c) cols

unfoldable pub Player : ℕ → Type 0
Player c = (c ≡ black) ⊎ (c ≡ white)

pub record TrueSize (h w : ℕ) : Type 0 where
  pub tall : 0 < h
  pub low : h ≤ max_side
  pub wide : 0 < w
  pub narrow : w ≤ max_side

-- the colours of a board on which every chain has at least one liberty
pub record TrueColours (h w : ℕ) (cols : List ℕ) : Type 0 where
  pub covers : length cols ≡ area h w
  pub known : (p : ℕ) → at cols p ≢ empty → Player (at cols p)
  pub breathes : (p : ℕ) → at cols p ≢ empty → Reaches (neighbours h w) (at cols) p empty

-- without the mark the board is empty, nothing was put or recorded, no pass or outcome stands
pub record Unbegun (g : Game) : Type 0 where
  pub bare : g.colours ≡ empty_board g.height g.width
  pub unput : g.black_put + g.white_put ≡ 0
  pub unrecorded : g.records ≡ 0
  pub unpassed : g.passes ≡ 0
  pub undecided : g.outcome ≡ None

pub record TrueGame (g : Game) : Type 0 where
  pub size : TrueSize g.height g.width
  pub flagged : g.flags ≤ max_flags
  pub board : TrueColours g.height g.width g.colours
  pub mover : Player g.turn
  pub pauses : g.passes ≤ 2
  pub ko_on : (k : ℕ) → g.ko_point ≡ Some k → k < area g.height g.width
  pub named : (c : ℕ) → g.outcome ≡ Some c → Player c
  pub limited : g.accepted ≤ max_stones
  pub handicapped : g.handicap ≤ max_area
  pub black_kept : g.black_put ≡ stones g.colours black + g.black_held
  pub white_kept : g.white_put ≡ stones g.colours white + g.white_held
  pub both_put : g.black_put + g.white_put ≡ g.handicap + g.accepted
  pub unbegun : g.begun ≡ false → Unbegun g

-- in calls that lend history: the history count is within the capacity
unfoldable pub TrueHistory : Game → List ℕ → Type 0
TrueHistory g bytes = g.records ≤ capacity bytes
