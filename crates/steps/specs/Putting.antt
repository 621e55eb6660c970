-- When a stone may be put as a chain of its own.
use Rattle.std.specs.Prelude.{◌≡◌, false, ℕ, ◌<◌}
use Rattle.rules.specs.Sizes.{slots}
use Rattle.rules.specs.Points.{area}
use Rattle.rules.specs.Game.{Player}
use Rattle.chains.specs.Group.{used}
use Rattle.board.specs.declared.goban.Board.{Board}
use Rattle.board.specs.Board.{owner, chain_in}
use Rattle.board.specs.True.{ExactTable}

-- a stone of colour c on the point p, in the slot s: the point is empty, and the slot is free
pub record Putting (b : Board) (p c s : ℕ) : Type 0 where
  pub table : ExactTable b
  pub on : p < area b.height b.width
  pub vacant : owner b p ≡ slots
  pub player : Player c
  pub within : s < slots
  pub free : used (chain_in b s) ≡ false
