-- The tests as questions about a row and a column, by the rules. Where a stone stands nothing is laid, so each says no.
use Rattle.std.specs.Prelude.{Bool, not, ◌&&◌, List, ℕ}
use Rattle.rules.specs.Lists.{any}
use Rattle.rules.specs.Points.{index}
use Rattle.rules.specs.Colours.{other}
use Rattle.rules.specs.Tests.{captures, suicide, ko, eye, superko}
use Rattle.rules.specs.Game.{Game}
use Rattle.rules.specs.Calls.{taken, resulting}
use Rattle.legality.specs.declared.near.Near.{Near}
use Rattle.legality.specs.Near.{besides, saves, catches_more, caught}
use Rattle.checking.specs.Told.{at_ko}
use Rattle.asking.specs.declared.tests.Test.{Test}
use Rattle.asking.specs.declared.tests.Test.TheVariants as tests

-- an empty point that passes
unfoldable pub at_empty : Game → (ℕ → Bool) → ℕ → ℕ → Bool
at_empty g test r c = not (taken g (index g.width r c)) && test (index g.width r c)

-- for the player to move
abbrev pub tested : Game → ℕ → Test → Bool
tested g p tests.Capture = captures g.height g.width g.colours g.turn p
tested g p tests.Suicide = suicide g.height g.width g.colours g.turn p
tested g p tests.Ko = ko g.height g.width g.colours g.ko_point p
tested g p tests.Eye = eye g.height g.width g.colours g.turn p

-- the same by what stands near the point and the colours of the board
abbrev pub tested_near : Near → List ℕ → ℕ → ℕ → ℕ → ℕ → ℕ → Test → Bool
tested_near n cols h w own ko p tests.Capture = any (caught (other own)) (besides n)
tested_near n cols h w own ko p tests.Suicide = not (any (saves own) (besides n))
tested_near n cols h w own ko p tests.Ko = at_ko ko p && not (any catches_more (besides n))
tested_near n cols h w own ko p tests.Eye = eye h w cols own p

unfoldable pub tested_at : Game → ℕ → ℕ → Test → Bool
tested_at g r c test = at_empty g (λ p. tested g p test) r c

unfoldable pub superko_of : Game → List ℕ → ℕ → Bool
superko_of g bytes p = superko g.height g.width g.colours bytes g.records g.ko_point (resulting g p) g.turn p

unfoldable pub superko_at : Game → List ℕ → ℕ → ℕ → Bool
superko_at g bytes r c = at_empty g (superko_of g bytes) r c
