-- Each point is empty, black or white (Tromp-Taylor 2). Colours are the numbers that 01 gives them.
use Rattle.std.specs.Prelude.{cond, List, ℕ, eqb, get_or}

abbrev pub empty : ℕ
empty = 0

abbrev pub black : ℕ
black = 1

abbrev pub white : ℕ
white = 2

-- the opponent's colour
unfoldable pub other : ℕ → ℕ
other c = cond (eqb c black) white black

-- the colour of a point: a board is the list of its points' colours, row by row from the top; beyond it nothing stands
unfoldable pub at : List ℕ → ℕ → ℕ
at cols p = get_or cols p empty
