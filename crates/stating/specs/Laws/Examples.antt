-- A state as text, computed.
use Rattle.std.specs.Prelude.{◌≡◌, refl}
use Rattle.rules.specs.Colours.{at}
use Rattle.rules.specs.Points.{area, column}
use Rattle.rules.specs.Game.{fresh_game, empty_board}
use Rattle.spelling.specs.Text.{ascii}
use Rattle.writing.specs.Figures.{decimal, spaced}
use Rattle.wording.specs.Replies.{sign, starts_row, point}
use Rattle.stating.specs.State.{player, facts, state}

pub fresh : state (fresh_game 2 3 0) ≡ ascii "B 0 0 0 - - 0 .../..."
unfolding state facts spaced point starts_row sign player decimal fresh_game empty_board area column at
fresh = refl
