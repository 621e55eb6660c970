-- When the chain of a slot may be removed, and what the functions that remove it are given.
use Rattle.std.specs.Prelude.{true, List, ◌≡◌, ℕ, ◌<◌, length, get_or}
use Rattle.rules.specs.Sizes.{max_area, slots}
use Rattle.chains.specs.Group.{used}
use Rattle.board.specs.declared.goban.Board.{Board}
use Rattle.board.specs.Board.{chain_in}
use Rattle.board.specs.True.{ExactTable}

-- s is a used slot of an exact table
pub record Removing (b : Board) (s : ℕ) : Type 0 where
  pub table : ExactTable b
  pub low : s < slots
  pub is-used : used (chain_in b s) ≡ true

-- the list holds points
pub record Points (stones : List ℕ) : Type 0 where
  pub each : (k : ℕ) → k < length stones → get_or stones k 0 < max_area
