-- A point of the board is not the number that means none.
use mathlib.Core.Path.{refl, sym, ap, ◌∙◌, subst}
use native.Mathlib.Omega.{arith}
use Prim.Native.Nat.{◌<◌}
use Rattle.points.specs.Place.{Within}
use Rattle.game.specs.View.{no_point}
use Rattle.game.specs.Laws.View.{ko-none, ko-some}
use Rattle.playing.proofs.count.ko_number.Goals.{In-Some}
use Rattle.playing.proofs.count.ko_number.Goals as goal

low : (c : In-Some) → c.in-Some.point < no_point
low c = subst (Within no_point) (c.in-Some.is) c.requires

pub returns-in_default : goal.returns-in_default
returns-in_default c = ko-none no_point refl ∙ sym c.in_default.is

pub overflow_cast-result : goal.overflow_cast-result
overflow_cast-result c = let under = low (goal.at.overflow_cast-result c).In-Some in record { fits = omega arith }

pub returns : goal.returns
returns c = ko-some _ (λ e. omega (arith, low (goal.at.returns c).In-Some)) ∙ sym c.in-Some.is
