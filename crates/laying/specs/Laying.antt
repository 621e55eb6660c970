-- When a stone may be laid, and what is promised of the board and the numbers that come back.
use Rattle.std.specs.Prelude.{false, ◌&&◌, ◌≡◌, ℕ, ◌<◌, length}
use Rattle.rules.specs.Points.{area}
use Rattle.rules.specs.Colours as colours
use Rattle.rules.specs.Colours.{other, at}
use Rattle.rules.specs.Flags.{SUICIDE, forbids}
use Rattle.rules.specs.Tests.{suicide}
use Rattle.rules.specs.Move.{coloured, played, removed, sole_of}
use Rattle.rules.specs.Game.{Player}
use Rattle.board.specs.declared.goban.Board.{Board}
use Rattle.board.specs.Board.{colours_of}
use Rattle.board.specs.True.{TrueBoard}
use Rattle.laying.specs.declared.lay.Laid.{Laid}

-- a player's stone for an empty point of a true board, where it is no suicide, or the flags allow that
pub record Laying (b : Board) (p c flags : ℕ) : Type 0 where
  pub board : TrueBoard b
  pub on : p < area b.height b.width
  pub empty : at (colours_of b) p ≡ colours.empty
  pub player : Player c
  pub allowed : forbids flags SUICIDE && suicide b.height b.width (colours_of b) c p ≡ false

-- a true board of the same size with the colours of the rules' move, how many enemy and own stones were removed, and the ko point
pub record LaidOut (b : Board) (p c flags : ℕ) (r : Laid) : Type 0 where
  pub board : TrueBoard r.board
  pub tall : r.board.height ≡ b.height
  pub wide : r.board.width ≡ b.width
  pub colours : colours_of r.board ≡ played b.height b.width flags (colours_of b) c p
  pub taken :
      r.taken ≡ length (removed b.height b.width (other c) (coloured (colours_of b) c p) (played b.height b.width flags (colours_of b) c p))
  pub lost :
      r.lost ≡ length (removed b.height b.width c (coloured (colours_of b) c p) (played b.height b.width flags (colours_of b) c p))
  pub ko :
      r.ko ≡ sole_of (removed b.height b.width (other c) (coloured (colours_of b) c p) (played b.height b.width flags (colours_of b) c p))
