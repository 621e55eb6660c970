-- Numbers as text: decimal, behind a space, and bytes in hexadecimal.
use Rattle.std.specs.Prelude.{true, false, cond, List, [], ◌∷◌, ◌++◌, ℕ, zero, suc, ◌+◌, ◌/◌, ◌%◌, ltb}
use Rattle.spelling.specs.Text.{space}

-- the fuel is never used up
abbrev pub decimal_from : ℕ → ℕ → List ℕ
decimal_from zero n = []
decimal_from (suc fuel) n =
    elim (ltb n 10) [ true ↦ (48 + n) ∷ [] | false ↦ decimal_from fuel (n / 10) ++ ((48 + n % 10) ∷ []) ]

-- the digits of a number, with no zero before them
unfoldable pub decimal : ℕ → List ℕ
decimal n = decimal_from (suc n) n

unfoldable pub spaced : List ℕ → List ℕ
spaced text = space ∷ text

-- 0 to 9, then a to f
unfoldable pub hex_digit : ℕ → ℕ
hex_digit d = cond (ltb d 10) (48 + d) (87 + d)

-- two digits a byte
abbrev pub hex : List ℕ → List ℕ
hex [] = []
hex (b ∷ bytes) = hex_digit (b / 16) ∷ hex_digit (b % 16) ∷ hex bytes
