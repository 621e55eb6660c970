-- The steps of the code, read as the rules' own.
use Rattle.std.specs.Prelude.{ℕ, ◌<◌, Option, None, Some}
use Rattle.rules.specs.Points as rules
use Rattle.points.specs.declared.coord.Shift.{Shift}
use Rattle.points.specs.declared.coord.Shift.TheVariants.{Back, Stay, Forth}

abbrev pub shift_of : Shift → rules.Shift
shift_of Back = rules.back
shift_of Stay = rules.stay
shift_of Forth = rules.forth

-- the place, if there is one, is below n
abbrev pub Within : ℕ → Option ℕ → Type 0
Within n None = Unit
Within n (Some p) = p < n
