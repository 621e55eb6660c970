-- The history: lent bytes, a record of a board in each hundred. When a board is among the records, and how it becomes one.
use Rattle.std.specs.Prelude.{Bool, cond, not, ◌&&◌, List, [], ◌∷◌, ◌++◌, ℕ, ◌+◌, ◌*◌, ◌/◌, ◌%◌, ◌^◌, leb, length, take, drop}
use Rattle.rules.specs.Sizes.{hash_bytes, colour_bytes, record_bytes}
use Rattle.rules.specs.Lists.{tabulate, any, below, same}
use Rattle.rules.specs.Colours.{at}
use Rattle.rules.specs.Hash.{hash}

-- the n low bytes of a number, low byte first
unfoldable pub low_bytes : ℕ → ℕ → List ℕ
low_bytes n x = tabulate (λ i. x / 256 ^ i % 256) 0 n

-- four points to a byte: point p in bits 2(p mod 4) and up of byte p / 4
unfoldable pub four_colours : List ℕ → ℕ → ℕ
four_colours cols i = at cols (4 * i) + 4 * at cols (4 * i + 1) + 16 * at cols (4 * i + 2) + 64 * at cols (4 * i + 3)

-- the record of a board: its hash, its colours, one zero byte
unfoldable pub record_of : List ℕ → List ℕ
record_of cols = low_bytes hash_bytes (hash cols) ++ (tabulate (four_colours cols) 0 colour_bytes ++ (0 ∷ []))

-- how many records the lent bytes have room for
unfoldable pub capacity : List ℕ → ℕ
capacity bytes = length bytes / record_bytes

-- the i-th record
unfoldable pub stored : List ℕ → ℕ → List ℕ
stored bytes i = take record_bytes (drop (record_bytes * i) bytes)

-- the board's record equals one of the first n: compared whole, so two boards with one hash are two boards
unfoldable pub recorded : List ℕ → ℕ → List ℕ → Bool
recorded bytes n cols = let r = record_of cols in any (λ i. same (stored bytes i) r) (below n)

-- no room is left for a board that has no equal record
unfoldable pub full : List ℕ → ℕ → List ℕ → Bool
full bytes n cols = not (recorded bytes n cols) && leb (capacity bytes) n

-- the present board becomes the next record, unless it is among the records already: how many there are then, and the bytes
unfoldable pub records_after : List ℕ → ℕ → List ℕ → ℕ
records_after bytes n cols = cond (recorded bytes n cols) n (n + 1)

unfoldable pub bytes_after : List ℕ → ℕ → List ℕ → List ℕ
bytes_after bytes n cols =
    cond (recorded bytes n cols) bytes
    (take (record_bytes * n) bytes ++ (record_of cols ++ drop (record_bytes * n + record_bytes) bytes))
