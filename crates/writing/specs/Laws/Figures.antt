-- Laws of Figures: the fewest digits that hold a number are its decimal, and what one byte more says.
use Rattle.std.specs.Prelude.{◌≡◌, refl, List, [], ◌∷◌, ◌++◌, ℕ, zero, suc, ◌+◌, ◌-◌, ◌*◌, ◌/◌, ◌%◌, ◌^◌, ◌≤◌, ◌<◌, length, get_or, take}
use Rattle.std.proofs.Common.{sym, ap, ap₂, ◌∙◌, append_assoc, ⊎_elim, pow-suc, add-one, arith, take-suc, lt-ltb, le-ltb}
use Rattle.std.proofs.Math.Nat.{pow-le-pow_right}
use Rattle.rules.proofs.Laws.Lists.{below_or_not}
use Rattle.io.specs.Digits.{hex_digit_ascii, last_digits, IsDigitCount}
use Rattle.writing.specs.Figures.{decimal_from, decimal, hex_digit, hex}

small : (fuel n : ℕ) → n < 10 → decimal_from (suc fuel) n ≡ (48 + n) ∷ []
small fuel n l = rw (lt-ltb n 10 l, decimal_from)

large : (fuel n : ℕ) → 10 ≤ n → decimal_from (suc fuel) n ≡ decimal_from fuel (n / 10) ++ ((48 + n % 10) ∷ [])
large fuel n l = rw (le-ltb n 10 l, decimal_from)

last-digit : (n : ℕ) → hex_digit_ascii (n % 10) ≡ 48 + n % 10
last-digit n = let l : n % 10 < 10 = omega arith in rw (lt-ltb (n % 10) 10 l)

-- ten is raised far beyond the exponent
exponent-below : (k : ℕ) → k < 10 ^ k
exponent-below zero = omega arith
exponent-below (suc k) = let ih = exponent-below k in rw (pow-suc 10 k) (omega arith)

one_less : (k : ℕ) → suc k - 1 ≡ k
one_less k = omega arith

-- without the last digit, one digit fewer
shorter : (n k : ℕ) → IsDigitCount 10 1 n (suc (suc k)) → IsDigitCount 10 1 (n / 10) (suc k)
shorter n k f =
    let high : n < 10 ^ suc k * 10 = rw (sym (pow-suc 10 (suc k))) f.1 in
    let low : 10 ^ k * 10 ≤ n = rw (one_less (suc k), pow-suc 10 k) at (f.2 (omega arith)) in (
      omega arith,
      omega arith,
      λ l. rw (one_less k) (omega arith),
    )

digits_decimal : (k fuel n : ℕ) → IsDigitCount 10 1 n k → k ≤ fuel → last_digits 10 k n ≡ decimal_from fuel n
digits_decimal zero fuel n f l = absurd (let z : 1 ≤ 0 = f.0 in omega arith)
digits_decimal (suc k) zero n f l = absurd (omega arith)
digits_decimal (suc zero) (suc fuel) n f l =
    let s : n < 10 = f.1 in
    let m : n % 10 ≡ n = omega arith in
    ap (λ (d : ℕ). d ∷ []) (last-digit n ∙ ap (λ (d : ℕ). 48 + d) m) ∙ sym (small fuel n s)
digits_decimal (suc (suc k)) (suc fuel) n f l =
    let low : 10 ^ k * 10 ≤ n = rw (one_less (suc k), pow-suc 10 k) at (f.2 (omega arith)) in
    let some-power : k < 10 ^ k = exponent-below k in
    ap₂ (λ (l : List ℕ) (d : ℕ). l ++ (d ∷ [])) (digits_decimal (suc k) fuel (n / 10) (shorter n k f) (omega arith)) (last-digit n)
    ∙ sym (large fuel n (omega arith))

pub fewest-decimal : (n k : ℕ) → IsDigitCount 10 1 n k → last_digits 10 k n ≡ decimal n
unfolding decimal
fewest-decimal n zero f = absurd (let z : 1 ≤ 0 = f.0 in omega arith)
fewest-decimal n (suc zero) f = digits_decimal (suc zero) (suc n) n f (omega arith)
fewest-decimal n (suc (suc k)) f =
    let low : 10 ^ suc k ≤ n = rw (one_less (suc k)) at (f.2 (omega arith)) in
    let far : suc k < 10 ^ suc k = exponent-below (suc k) in
    digits_decimal (suc (suc k)) (suc n) n f (omega arith)

-- no more digits than a power of ten above the number has
pub fewest-most : (n k m : ℕ) → IsDigitCount 10 1 n k → 1 ≤ m → n < 10 ^ m → k ≤ m
fewest-most n k m f l h =
    ⊎_elim
    (λ more.
    let low : 10 ^ (k - 1) ≤ n = f.2 (omega arith) in
    let far : 10 ^ m ≤ 10 ^ (k - 1) = pow-le-pow_right {n = 10} (omega arith) {i = m} {j = k - 1} (omega arith) in
    absurd (omega arith))
    (λ few. few)
    (below_or_not m k)

-- ---- One byte more

pub taken : (l : List ℕ) (i : ℕ) → i < length l → take (i + 1) l ≡ take i l ++ (get_or l i 0 ∷ [])
taken l i h = rw add-one (take-suc l i 0 h)

hex-append : (xs ys : List ℕ) → hex (xs ++ ys) ≡ hex xs ++ hex ys
hex-append [] ys = refl
hex-append (x ∷ xs) ys = ap (λ (l : List ℕ). hex_digit (x / 16) ∷ hex_digit (x % 16) ∷ l) (hex-append xs ys)

pub length-hex : (bytes : List ℕ) → length (hex bytes) ≡ 2 * length bytes
length-hex [] = refl
length-hex (b ∷ bytes) = let ih = length-hex bytes in omega arith

-- the two digits of one byte more, behind the others
pub hex-more : (was bytes : List ℕ) (i high low : ℕ) → i < length bytes → high ≡ hex_digit (get_or bytes i 0 / 16) → low ≡ hex_digit (get_or bytes i 0 % 16)
    → (was ++ hex (take i bytes)) ++ (high ∷ []) ++ (low ∷ []) ≡ was ++ hex (take (i + 1) bytes)
hex-more was bytes i high low l e f =
    simp append_assoc
    (ap (λ (t : List ℕ). was ++ t)
    (ap₂ (λ (a b : ℕ). hex (take i bytes) ++ (a ∷ b ∷ [])) e f ∙ sym (ap hex (taken bytes i l) ∙ hex-append (take i bytes) (get_or bytes i 0 ∷ []))))
