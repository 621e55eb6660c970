-- What the judge tells of a board: the stones of each colour, exactly of a true board.
use Rattle.std.specs.Prelude.{◌≡◌, Option, None, Some}
use Rattle.rules.specs.Colours.{black, white}
use Rattle.rules.specs.Game.{stones}
use Rattle.board.specs.declared.goban.Board.{Board}
use Rattle.board.specs.declared.judge.Stones.{Stones}
use Rattle.board.specs.Board.{colours_of}
use Rattle.board.specs.True.{TrueBoard}

-- these are the stones of each colour on the board
pub record Counted (b : Board) (on : Stones) : Type 0 where
  pub blacks : on.black ≡ stones (colours_of b) black
  pub whites : on.white ≡ stones (colours_of b) white

abbrev pub Judged : Board → Option Stones → Type 0
Judged b None = ¬ TrueBoard b
Judged b (Some found) = TrueBoard b × Counted b found
