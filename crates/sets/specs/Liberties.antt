-- A liberty set (01): point p at bit p mod 8 of byte p / 8; all other bits 0. What a set has, and each operation as the
-- set of the points that it is to have.
use Rattle.std.specs.Prelude.{Bool, false, cond, not, ◌&&◌, ◌||◌, ◌≡◌, List, ℕ, zero, suc, ◌+◌, ◌*◌, ◌/◌, ◌%◌, ◌^◌, ◌<◌, eqb, ltb, length, get_or}
use Rattle.rules.specs.Sizes.{max_area, liberty_bytes}
use Rattle.rules.specs.Lists.{tabulate, count, below}

-- the places of a set: a few more than there are points
abbrev pub liberty_bits : ℕ
liberty_bits = 8 * liberty_bytes

-- bit k of the number is 1
unfoldable pub bit_at : ℕ → ℕ → Bool
bit_at x k = eqb (x / 2 ^ k % 2) 1

-- the point is in the set; beyond the bytes nothing is
unfoldable pub has : List ℕ → ℕ → Bool
has set p = bit_at (get_or set (p / 8) 0) (p % 8)

-- the number of n bits whose bit k is what the test says of k
abbrev pub number_of : ℕ → (ℕ → Bool) → ℕ
number_of zero f = 0
number_of (suc n) f = cond (f 0) 1 0 + 2 * number_of n (λ k. f (suc k))

unfoldable pub byte_of : (ℕ → Bool) → ℕ → ℕ
byte_of f i = number_of 8 (λ k. f (8 * i + k))

-- the set of the points that pass the test
unfoldable pub set_of : (ℕ → Bool) → List ℕ
set_of f = tabulate (byte_of f) 0 liberty_bytes

-- as many bytes as a set has: what an array of the code always is
pub record LibertySet (set : List ℕ) : Type 0 where
  pub long : length set ≡ liberty_bytes
  pub bytes : (i : ℕ) → get_or set i 0 < 2 ^ 8

-- ---- The operations

unfoldable pub none : List ℕ
none = set_of (λ q. false)

-- with the point p; what is no point of the largest board is never added, so the bits beyond stay 0
unfoldable pub added : List ℕ → ℕ → List ℕ
added set p = set_of (λ q. has set q || (eqb q p && ltb p max_area))

-- without the point p
unfoldable pub removed : List ℕ → ℕ → List ℕ
removed set p = set_of (λ q. has set q && not (eqb q p))

-- what either has
unfoldable pub united : List ℕ → List ℕ → List ℕ
united a b = set_of (λ q. has a q || has b q)

-- how many points the set has
unfoldable pub number : List ℕ → ℕ
number set = count (has set) (below liberty_bits)
