-- What the queries on a board's points tell: for each, the result that refuses by a number, with 0 for every value, and what the rules
-- say of the board's colours.
use Rattle.std.specs.Prelude.{Bool, false, cond, not, List, ℕ, ltb, get_or, Option, None, Some}
use Rattle.rules.specs.Sizes.{slots}
use Rattle.rules.specs.Colours.{empty, at}
use Rattle.rules.specs.Points.{index}
use Rattle.rules.specs.Flood.{touches}
use Rattle.rules.specs.Answers.{number, Accepted}
use Rattle.board.specs.declared.goban.Board.{Board}
use Rattle.board.specs.Board.{colours_of}
use Rattle.queries.specs.declared.goban.ColourAnswer.{ColourAnswer}
use Rattle.queries.specs.declared.goban.TestAnswer.{TestAnswer}

-- ---- What owns a point

-- a number that names no slot means no chain
unfoldable pub owner_of : ℕ → Option ℕ
owner_of s = cond (ltb s slots) (Some s) None

unfoldable pub unowned : List ℕ → ℕ → Bool
unowned owners p = not (ltb (get_or owners p slots) slots)

-- ---- The queries

unfoldable pub no_colour : ℕ → ColourAnswer
no_colour a = record { answer = a; colour = empty }

unfoldable pub colour_of : Board → ℕ → ℕ → ColourAnswer
colour_of b r c = record { answer = number Accepted; colour = at (colours_of b) (index b.width r c) }

unfoldable pub no_test : ℕ → TestAnswer
no_test a = record { answer = a; holds = false }

-- the point has an empty neighbour
unfoldable pub breathes : Board → ℕ → ℕ → TestAnswer
breathes b r c = record { answer = number Accepted; holds = touches b.height b.width (colours_of b) empty (index b.width r c) }
