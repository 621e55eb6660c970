-- What a flag byte forbids.
use Rattle.std.specs.Prelude.{Bool, ℕ, ◌/◌, ◌%◌, eqb}

abbrev pub KO : ℕ
KO = 1

abbrev pub SUICIDE : ℕ
SUICIDE = 2

abbrev pub FILLEYE : ℕ
FILLEYE = 4

abbrev pub SUPERKO : ℕ
SUPERKO = 8

-- the flag, one of the four, is set: what it names is forbidden
unfoldable pub forbids : ℕ → ℕ → Bool
forbids flags flag = eqb (flags / flag % 2) 1
