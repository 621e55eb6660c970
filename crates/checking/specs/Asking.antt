-- What the tests ask of a state: it is true, with room in the history, and the point is an empty one of the board.
use Rattle.std.specs.Prelude.{true, List, ◌≡◌, ℕ, ◌<◌}
use Rattle.rules.specs.Points.{area, index}
use Rattle.rules.specs.Colours as colours
use Rattle.rules.specs.Colours.{at}
use Rattle.rules.specs.Tests as tests
use Rattle.rules.specs.Records.{recorded}
use Rattle.rules.specs.Answers.{number}
use Rattle.rules.specs.Calls.{resulting, point_answer}
use Rattle.board.specs.Board.{colours_of}
use Rattle.game.specs.declared.state.Game.{Game}
use Rattle.game.specs.View.{turn_of, view_of, TrueState, RoomIn}
use Rattle.checking.specs.Told.{Told, settled, undecided}

-- n is the length of the lent history
pub record Asking (g : Game) (n p : ℕ) : Type 0 where
  pub state : TrueState g
  pub room : RoomIn g n
  pub on : p < area g.board.height g.board.width
  pub empty : at (colours_of g.board) p ≡ colours.empty

-- and a stone there captures, so that it may be laid whatever the flags forbid
pub record Repeating (g : Game) (n p : ℕ) : Type 0 where
  pub asking : Asking g n p
  pub captures : tests.captures g.board.height g.board.width (colours_of g.board) (turn_of g.turn) p ≡ true

-- ---- What is told before the stone is laid

-- of a row and a column: it settles to the answer of the rules by any bytes, and the records decide only at an empty point of the board
-- where the stone captures
pub record ToldAt (g : Game) (flags r c : ℕ) (t : Told) : Type 0 where
  pub settles :
      (bytes : List ℕ)
      → settled t (recorded bytes g.records (resulting (view_of g) (index g.board.width r c))) ≡ number (point_answer (view_of g) bytes flags r c)
  pub repeating : undecided t ≡ true → (n : ℕ) → TrueState g → RoomIn g n → Repeating g n (index g.board.width r c)
