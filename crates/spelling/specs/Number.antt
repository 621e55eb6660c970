-- Decimal numbers: a word of digits, of any length, with any zeros before it.
use Rattle.std.specs.Prelude.{Bool, cond, ◌&&◌, List, [], ◌∷◌, ℕ, ◌+◌, ◌-◌, ◌*◌, min, leb, Option, None, Some}
use Rattle.rules.specs.Lists.{all}

-- the bytes of the digits 0 to 9
abbrev pub first_digit : ℕ
first_digit = 48

abbrev pub last_digit : ℕ
last_digit = 57

unfoldable pub digit : ℕ → Bool
digit b = leb first_digit b && leb b last_digit

-- n with one digit more behind it
unfoldable pub grown : ℕ → ℕ → ℕ
grown n b = 10 * n + (b - first_digit)

-- n with these digits behind it
abbrev pub value : ℕ → List ℕ → ℕ
value n [] = n
value n (b ∷ l) = value (grown n b) l

unfoldable pub number_of : List ℕ → Option ℕ
number_of word = cond (all digit word) (Some (value 0 word)) None

unfoldable pub consed : Option ℕ → Option (List ℕ) → Option (List ℕ)
consed None rest = None
consed (Some n) None = None
consed (Some n) (Some ns) = Some (n ∷ ns)

-- the numbers that the words write; none where one of them writes none
unfoldable pub numbers : List (List ℕ) → Option (List ℕ)
numbers [] = Some []
numbers (w ∷ ws) = consed (number_of w) (numbers ws)

-- the byte that stands for a number: what no byte holds is the largest byte, and never wraps
unfoldable pub byte_of : ℕ → ℕ
byte_of n = min n 255

-- the most bytes of history that a game can be lent: the largest number that any call takes
abbrev pub max_lent : ℕ
max_lent = 1048576
