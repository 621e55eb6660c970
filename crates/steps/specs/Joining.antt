-- When the chain of one slot may be joined to that of another, and when the two make one chain.
use Rattle.std.specs.Prelude.{true, ◌≡◌, ◌≢◌, ℕ, ◌<◌}
use mathlib.Core.List.{Memᴰ}
use Rattle.rules.specs.Sizes.{slots}
use Rattle.rules.specs.Points.{neighbours}
use Rattle.chains.specs.Group.{used}
use Rattle.board.specs.declared.goban.Board.{Board}
use Rattle.board.specs.Board.{owner, chain_in}
use Rattle.board.specs.True.{ExactTable}

-- t and f are two used slots of an exact table
pub record Joining (b : Board) (t f : ℕ) : Type 0 where
  pub table : ExactTable b
  pub apart : t ≢ f
  pub to_low : t < slots
  pub to-used : used (chain_in b t) ≡ true
  pub from_low : f < slots
  pub from-used : used (chain_in b f) ≡ true

-- their chains have one colour, and a stone of the one lies beside a stone of the other
pub record Touching (b : Board) (t f : ℕ) : Type 0 where
  pub colour : (chain_in b t).colour ≡ (chain_in b f).colour
  pub to-stone : ℕ
  pub from-stone : ℕ
  pub at-to : owner b to-stone ≡ t
  pub at_from : owner b from-stone ≡ f
  pub beside : Memᴰ from-stone (neighbours b.height b.width to-stone)
