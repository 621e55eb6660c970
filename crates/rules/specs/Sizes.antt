-- The sizes of 01, in their one home among the definitions. Every other file names them.
use Rattle.std.specs.Prelude.{ℕ, ◌*◌, ◌/◌, ◌+◌}

-- height and width reach from 1 to 19
abbrev pub max_side : ℕ
max_side = 19

-- the points of the largest board
abbrev pub max_area : ℕ
max_area = max_side * max_side

-- a liberty set has one bit for each point
abbrev pub liberty_bytes : ℕ
liberty_bytes = (max_area + 7) / 8

-- the most chains that can stand at rest, each with a liberty
abbrev pub max_chains : ℕ
max_chains = 4 * max_area / 5

-- one slot more than that: the new stone's chain is made before the captured ones go. The same number means 'no chain'
abbrev pub slots : ℕ
slots = max_chains + 1

-- two numbers of the hash table for each point
abbrev pub hash_entries : ℕ
hash_entries = 2 * max_area

-- a record: hash, colours four to a byte, one zero byte
abbrev pub hash_bytes : ℕ
hash_bytes = 8

abbrev pub colour_bytes : ℕ
colour_bytes = (max_area + 3) / 4

abbrev pub record_bytes : ℕ
record_bytes = hash_bytes + colour_bytes + 1

-- the most stones that a game accepts, handicap not counted
abbrev pub max_stones : ℕ
max_stones = 65535

-- the largest flag byte
abbrev pub max_flags : ℕ
max_flags = 15
