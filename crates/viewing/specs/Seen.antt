-- Which points are in a list, by what a view shows of them: the tests that the code makes. A law of the lists proves them equal to the rules'.
use Rattle.std.specs.Prelude.{Bool, true, false, cond, not, ◌&&◌, List, ℕ, ◌<◌, eqb, get_or}
use Rattle.rules.specs.Lists.{any}
use Rattle.rules.specs.Colours.{empty, at}
use Rattle.rules.specs.Points.{index, neighbours}
use Rattle.viewing.specs.declared.shows.Local.{Local}
use Rattle.viewing.specs.declared.shows.Local.TheVariants.{Chain, Liberties, Points, Stones, Empties, Chains}
use Rattle.viewing.specs.declared.shows.Question as asks
use Rattle.viewing.specs.declared.shows.Question.TheVariants as questions

-- what the point q is compared by: itself, or the least point of its chain
unfoldable pub key_of : List ℕ → Bool → ℕ → ℕ
key_of leads by_lead q = cond by_lead (get_or leads q 0) q

-- some point beside p has this key
unfoldable pub meets : ℕ → ℕ → List ℕ → Bool → ℕ → ℕ → Bool
meets h w leads by_lead p value = any (λ q. eqb value (key_of leads by_lead q)) (neighbours h w p)

-- the point q is in the list that is asked at the point p
abbrev pub near : ℕ → ℕ → List ℕ → List ℕ → ℕ → Local → ℕ → Bool
near h w cols leads p Chain q = not (eqb (at cols p) empty) && eqb (get_or leads p 0) (get_or leads q 0)
near h w cols leads p Liberties q =
    not (eqb (at cols p) empty) && (eqb (at cols q) empty && meets h w leads true q (get_or leads p 0))
near h w cols leads p Points q = meets h w leads false p q
near h w cols leads p Stones q = not (eqb (at cols q) empty) && meets h w leads false p q
near h w cols leads p Empties q = eqb (at cols q) empty && meets h w leads false p q
near h w cols leads p Chains q = eqb (get_or leads q 0) q && meets h w leads true p q

abbrev pub passed : ℕ → ℕ → List ℕ → List ℕ → asks.Question → ℕ → Bool
passed h w cols leads questions.Stones q = not (eqb (at cols q) empty)
passed h w cols leads (questions.Coloured c) q = eqb (at cols q) c
passed h w cols leads (questions.At r c local) q = near h w cols leads (index w r c) local q

-- ---- What is asked

-- the point that is asked about, if there is one, is on the board
abbrev pub OnBoard : ℕ → ℕ → asks.Question → Type 0
OnBoard h w questions.Stones = Unit
OnBoard h w (questions.Coloured c) = Unit
OnBoard h w (questions.At r c local) = (r < h) × (c < w)
