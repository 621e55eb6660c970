-- Rendering: one three-byte UTF-8 sign a point, a newline a row. Signs and their order of choice as in the crate's `pretty_string`.
use Rattle.std.specs.Prelude.{cond, ◌&&◌, List, [], ◌∷◌, ◌++◌, ℕ, zero, suc, ◌+◌, ◌*◌, ◌/◌, ◌%◌, eqb, ltb, length}
use Rattle.rules.specs.Colours.{black, white, at}
use Rattle.rules.specs.Points.{index}
use Rattle.rules.specs.Answers.{Answer, BadLength, refuse}

-- the code point of the sign of an empty point, by its place
unfoldable pub grid_sign : ℕ → ℕ → ℕ → ℕ → ℕ
grid_sign h w r c =
    cond (eqb r 0 && eqb c 0) 0x250F
    (cond (eqb r 0 && eqb (c + 1) w) 0x2513
    (cond (eqb (r + 1) h && eqb c 0) 0x2517
    (cond (eqb (r + 1) h && eqb (c + 1) w) 0x251B
    (cond (eqb r 0) 0x252F (cond (eqb (r + 1) h) 0x2537 (cond (eqb c 0) 0x2520 (cond (eqb (c + 1) w) 0x2528 0x253C)))))))

unfoldable pub sign : ℕ → ℕ → List ℕ → ℕ → ℕ → ℕ
sign h w cols r c =
    let colour = at cols (index w r c) in
    cond (eqb colour black) 0x25CF (cond (eqb colour white) 0x25CB (grid_sign h w r c))

-- UTF-8 of a code point between 0x800 and 0xFFFF
unfoldable pub utf8 : ℕ → List ℕ
utf8 x = (0xE0 + x / 4096) ∷ (0x80 + x / 64 % 64) ∷ (0x80 + x % 64) ∷ []

-- n signs of the row r from the column c on, then a newline
abbrev pub row_from : ℕ → ℕ → List ℕ → ℕ → ℕ → ℕ → List ℕ
row_from h w cols r c zero = 10 ∷ []
row_from h w cols r c (suc n) = utf8 (sign h w cols r c) ++ row_from h w cols r (suc c) n

-- n rows from the row r on
abbrev pub rows_from : ℕ → ℕ → List ℕ → ℕ → ℕ → List ℕ
rows_from h w cols r zero = []
rows_from h w cols r (suc n) = row_from h w cols r 0 w ++ rows_from h w cols (suc r) n

unfoldable pub picture : ℕ → ℕ → List ℕ → List ℕ
picture h w cols = rows_from h w cols 0 h

unfoldable pub picture_bytes : ℕ → ℕ → ℕ
picture_bytes h w = h * (3 * w + 1)

-- into a lent buffer: 14
unfoldable pub picture_answer : ℕ → ℕ → List ℕ → Answer
picture_answer h w buffer = refuse BadLength (ltb (length buffer) (picture_bytes h w))
