-- The flags of the code, read as the numbers that the rules give them.
use Rattle.std.specs.Prelude.{ℕ}
use Rattle.rules.specs.Flags as rules
use Rattle.points.specs.declared.flags.Flag.{Flag}
use Rattle.points.specs.declared.flags.Flag.TheVariants.{Ko, Suicide, FillEye, SuperKo}

abbrev pub flag_of : Flag → ℕ
flag_of Ko = rules.KO
flag_of Suicide = rules.SUICIDE
flag_of FillEye = rules.FILLEYE
flag_of SuperKo = rules.SUPERKO
