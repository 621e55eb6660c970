-- Some numbers as text, computed.
use Rattle.std.specs.Prelude.{◌≡◌, refl, [], ◌∷◌, map}
use Rattle.spelling.specs.Text.{ascii}
use Rattle.writing.specs.Figures.{decimal, hex_digit, hex}

pub numbers : map decimal (0 ∷ 9 ∷ 10 ∷ 255 ∷ 655360 ∷ []) ≡ ascii "0" ∷ ascii "9" ∷ ascii "10" ∷ ascii "255" ∷ ascii "655360" ∷ []
unfolding decimal
numbers = refl

pub bytes : hex (0xE2 ∷ 0x97 ∷ 0x0A ∷ []) ≡ ascii "e2970a"
unfolding hex_digit
bytes = refl
