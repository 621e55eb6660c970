-- The state of a game as text.
use Rattle.std.specs.Prelude.{cond, List, [], ◌∷◌, ◌++◌, ℕ, eqb, Option, None, Some}
use Rattle.rules.specs.Colours.{white}
use Rattle.rules.specs.Points.{area}
use Rattle.rules.specs.Game.{Game}
use Rattle.spelling.specs.Text.{ascii}
use Rattle.writing.specs.Figures.{decimal, spaced}
use Rattle.wording.specs.Replies.{placed, rows_upto}

-- B or W
unfoldable pub player : ℕ → ℕ
player c = cond (eqb c white) 87 66

abbrev pub named : Option ℕ → List ℕ
named None = ascii "-"
named (Some c) = player c ∷ []

-- turn, passes, White stones removed, Black stones removed, ko point on a board of this width, outcome, records
unfoldable pub facts : ℕ → ℕ → ℕ → ℕ → ℕ → Option ℕ → Option ℕ → ℕ → List ℕ
facts turn passes white black w ko outcome records =
    (player turn ∷ [])
    ++ spaced (decimal passes)
    ++ spaced (decimal white)
    ++ spaced (decimal black)
    ++ spaced (placed w ko)
    ++ spaced (named outcome)
    ++ spaced (decimal records)

unfoldable pub state : Game → List ℕ
state g =
    facts g.turn g.passes g.white_held g.black_held g.width g.ko_point g.outcome g.records
    ++ spaced (rows_upto g.width g.colours (area g.height g.width))
