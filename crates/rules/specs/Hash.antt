-- The hash of a board.
use Rattle.std.specs.Prelude.{cond, List, [], ◌∷◌, ℕ, zero, suc, ◌+◌, ◌*◌, ◌%◌, ◌^◌, eqb}
use Rattle.std.specs.Int.Bits.{bit_xor}
use Rattle.rules.specs.Colours.{empty, black}

-- the numbers of the table: each is the former × 6364136223846793005 + 1442695040888963407, modulo 2^64
abbrev pub increment : ℕ
increment = 1442695040888963407

abbrev pub multiplier : ℕ
multiplier = 6364136223846793005

unfoldable pub next_entry : ℕ → ℕ
next_entry e = (e * multiplier + increment) % 2 ^ 64

abbrev pub entry : ℕ → ℕ
entry zero = increment
entry (suc k) = next_entry (entry k)

-- a stone's number: entry 2p for Black, 2p + 1 for White; an empty point has none
unfoldable pub stone_hash : ℕ → ℕ → ℕ
stone_hash p c = cond (eqb c empty) 0 (cond (eqb c black) (entry (2 * p)) (entry (2 * p + 1)))

-- the exclusive or over all stones, the first of the list standing at point p
abbrev pub hash_from : ℕ → List ℕ → ℕ
hash_from p [] = 0
hash_from p (c ∷ cols) = bit_xor (stone_hash p c) (hash_from (suc p) cols)

unfoldable pub hash : List ℕ → ℕ
hash cols = hash_from 0 cols
