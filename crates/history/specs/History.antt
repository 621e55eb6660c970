-- The history: when a record is among the first of the lent bytes, what the functions over them ask, and what noting a board leaves.
use Rattle.std.specs.Prelude.{◌≡◌, Bool, false, List, ℕ, ◌+◌, ◌*◌, ◌≤◌, length}
use Rattle.rules.specs.Sizes.{record_bytes}
use Rattle.rules.specs.Lists.{any, below, same}
use Rattle.rules.specs.Records.{record_of, capacity, stored, full, records_after, bytes_after}

-- the record equals one of the first n
unfoldable pub among : List ℕ → ℕ → List ℕ → Bool
among bytes n r = any (λ i. same (stored bytes i) r) (below n)

-- n records to look through, all within the lent bytes
pub record Looking (bytes : List ℕ) (n : ℕ) (r : List ℕ) : Type 0 where
  pub within : n ≤ capacity bytes
  pub long : length r ≡ record_bytes

-- room for one record more
pub record Adding (bytes : List ℕ) (n : ℕ) (r : List ℕ) : Type 0 where
  pub fits : record_bytes * n + record_bytes ≤ length bytes

-- the record is that of a board that the history has an equal of, or room for
pub record Noting (bytes : List ℕ) (n : ℕ) (r : List ℕ) : Type 0 where
  pub within : n ≤ capacity bytes
  pub colours : List ℕ
  pub its : r ≡ record_of colours
  pub free : full bytes n colours ≡ false

-- the count and the bytes are those of the rules once the board is recorded
pub record Noted (bytes : List ℕ) (n : ℕ) (cols : List ℕ) (m : ℕ) (after : List ℕ) : Type 0 where
  pub counted : m ≡ records_after bytes n cols
  pub written : after ≡ bytes_after bytes n cols
