-- Sizes that are bytes keep every point below 2^16. Assumes nothing.
use Prim.Native.Nat.{ℕ, ◌+◌, ◌*◌, ◌^◌, ◌<◌}
use native.Mathlib.Nat.{mul-le-mul, lt_of_lt_of_le, lt_of_le_of_lt}
use native.Mathlib.Omega.{arith}
use lib.Dec.{lit<, lit≤}
use mir.Syntax.{w64}
use mir.Val.{Fits}

pub bytes_product : {a b : ℕ} → a < 2 ^ 8 → b < 2 ^ 8 → a * b < 2 ^ 16
bytes_product {a} {b} ha hb =
    lt_of_le_of_lt (mul-le-mul {n₁ = a} {m₁ = b} {n₂ = 255} {m₂ = 255} (omega arith) (omega arith)) (lit< tt)

pub bytes-index : {a b c : ℕ} → a < 2 ^ 8 → b < 2 ^ 8 → c < 2 ^ 8 → a * b + c < 2 ^ 16
bytes-index {a} {b} {c} ha hb hc =
    omega (arith, mul-le-mul {n₁ = a} {m₁ = b} {n₂ = 255} {m₂ = 255} (omega arith) (omega arith))

pub fits_word : {n : ℕ} → n < 2 ^ 16 → Fits w64 n
fits_word h = record { fits = lt_of_lt_of_le h (lit≤ tt) }
