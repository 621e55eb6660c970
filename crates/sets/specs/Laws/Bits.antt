-- The bits of a number, one by one: what `|`, `&`, `^` and `1 <<` do to each, a number from its bits, and how many are 1.
use Rattle.std.specs.Prelude.{Bool, true, false, cond, ◌&&◌, ◌||◌, ◌≡◌, refl, ◌⊎◌, ℕ, zero, suc, ◌+◌, ◌*◌, ◌/◌, ◌%◌, ◌^◌, ◌<◌}
use Rattle.std.proofs.Math.Bool.{xor}
use Rattle.std.proofs.Common.{sym, ap₂, ◌∙◌, inl, inr, ⊎_elim, not-suc-le-zero, le_of_suc-le-suc, pow-suc, zero-lt-suc, one-add, arith, shr-shr, pow_pos, eq-eqb, ne_eqb}
use Rattle.std.proofs.Math.Path.{ap, fun_ext}
use Rattle.std.proofs.Math.Dec.{eqb, eqb-zero-suc, eqb-suc-zero, eqb-suc-suc}
use Rattle.std.specs.Int.Bits.{bit_and, bit_or, bit_xor}
use Rattle.std.proofs.lemmas.Nat.{and_shr, or_shr, xor_shr, and_mod, or_mod, xor_mod}
use Rattle.std.proofs.Math.Arith.{lt-one}
use Rattle.std.specs.Int.Count.{ones, ones_step}
use Rattle.rules.specs.Lists.{count, below}
use Rattle.sets.specs.Liberties.{bit_at, number_of}
use Rattle.rules.proofs.Laws.Hash.{digit}
use Rattle.rules.proofs.Laws.Places.{count-below-zero, count-below-first}

-- ---- An operation that works digit by digit works bit by bit

module _ (op : ℕ → ℕ → ℕ) (on : Bool → Bool → Bool)
    (shr : (a b k : ℕ) → op a b / 2 ^ k ≡ op (a / 2 ^ k) (b / 2 ^ k))
    (low : (a b k : ℕ) → op a b % 2 ^ k ≡ op (a % 2 ^ k) (b % 2 ^ k))
    (table : (x y : ℕ) → (x ≡ 0) ⊎ (x ≡ 1) → (y ≡ 0) ⊎ (y ≡ 1) → eqb (op x y) 1 ≡ on (eqb x 1) (eqb y 1)) where
  bit-by-bit : (a b k : ℕ) → bit_at (op a b) k ≡ on (bit_at a k) (bit_at b k)
  unfolding bit_at
  bit-by-bit a b k =
      ap (λ (x : ℕ). eqb (x % 2) 1) (shr a b k) ∙ ap (λ (x : ℕ). eqb x 1) (low (a / 2 ^ k) (b / 2 ^ k) 1)
      ∙ table (a / 2 ^ k % 2) (b / 2 ^ k % 2) (digit (a / 2 ^ k)) (digit (b / 2 ^ k))

-- a table of four entries, each by computing
module _ (op : ℕ → ℕ → ℕ) (on : Bool → Bool → Bool)
    (e00 : eqb (op 0 0) 1 ≡ on false false) (e01 : eqb (op 0 1) 1 ≡ on false true)
    (e10 : eqb (op 1 0) 1 ≡ on true false) (e11 : eqb (op 1 1) 1 ≡ on true true) where
  four : (x y : ℕ) → (x ≡ 0) ⊎ (x ≡ 1) → (y ≡ 0) ⊎ (y ≡ 1) → eqb (op x y) 1 ≡ on (eqb x 1) (eqb y 1)
  four x y (inl p) (inl q) = rw (p, q) e00
  four x y (inl p) (inr q) = rw (p, q) e01
  four x y (inr p) (inl q) = rw (p, q) e10
  four x y (inr p) (inr q) = rw (p, q) e11

pub bit_at-or : (a b k : ℕ) → bit_at (bit_or a b) k ≡ (bit_at a k || bit_at b k)
bit_at-or = bit-by-bit bit_or ◌||◌ or_shr or_mod (four bit_or ◌||◌ refl refl refl refl)

pub bit_at-and : (a b k : ℕ) → bit_at (bit_and a b) k ≡ (bit_at a k && bit_at b k)
bit_at-and = bit-by-bit bit_and ◌&&◌ and_shr and_mod (four bit_and ◌&&◌ refl refl refl refl)

pub bit_at-xor : (a b k : ℕ) → bit_at (bit_xor a b) k ≡ xor (bit_at a k) (bit_at b k)
unfolding xor
bit_at-xor = bit-by-bit bit_xor xor xor_shr xor_mod (four bit_xor xor refl refl refl refl)

-- ---- The lowest bit, and the others

pub bit_at-suc : (x k : ℕ) → bit_at x (suc k) ≡ bit_at (x / 2) k
unfolding bit_at
bit_at-suc x k = ap (λ (y : ℕ). eqb (y % 2) 1) (ap (λ (n : ℕ). x / 2 ^ n) (sym (one-add k)) ∙ sym (shr-shr x 1 k))

pub bit_at-low : (x : ℕ) → bit_at x 0 ≡ eqb (x % 2) 1
unfolding bit_at
bit_at-low x = let e : x / 1 % 2 ≡ x % 2 = omega arith in ap (λ (y : ℕ). eqb y 1) e

pub bit_at-none : (k : ℕ) → bit_at 0 k ≡ false
bit_at-none zero = bit_at-low 0
bit_at-none (suc k) = bit_at-suc 0 k ∙ bit_at-none k

-- the number 2 ^ m has bit m alone
pub bit_at-power : (m k : ℕ) → bit_at (2 ^ m) k ≡ eqb k m
bit_at-power zero zero = bit_at-low 1
bit_at-power zero (suc k) = bit_at-suc 1 k ∙ bit_at-none k ∙ sym (eqb-suc-zero k)
bit_at-power (suc m) zero = bit_at-low (2 ^ suc m) ∙ ap (λ (y : ℕ). eqb y 1) even ∙ sym (eqb-zero-suc m)
  where
    even : 2 ^ suc m % 2 ≡ 0
    even = let p : 2 ^ suc m ≡ 2 ^ m * 2 = pow-suc 2 m in omega arith
bit_at-power (suc m) (suc k) = bit_at-suc (2 ^ suc m) k ∙ ap (λ (x : ℕ). bit_at x k) half ∙ bit_at-power m k ∙ sym (eqb-suc-suc k m)
  where
    half : 2 ^ suc m / 2 ≡ 2 ^ m
    half = let p : 2 ^ suc m ≡ 2 ^ m * 2 = pow-suc 2 m in omega arith

-- ---- A number from its bits

flag-odd : (b : Bool) (m : ℕ) → eqb ((cond b 1 0 + 2 * m) % 2) 1 ≡ b
flag-odd true m = eq-eqb ((1 + 2 * m) % 2) 1 (omega arith)
flag-odd false m = ne_eqb ((0 + 2 * m) % 2) 1 (omega arith)

flag-half : (b : Bool) (m : ℕ) → (cond b 1 0 + 2 * m) / 2 ≡ m
flag-half true m = omega arith
flag-half false m = omega arith

flag-lt : (b : Bool) (m n : ℕ) → m < n → cond b 1 0 + 2 * m < n * 2
flag-lt true m n h = omega arith
flag-lt false m n h = omega arith

flag-mod : (x : ℕ) → cond (eqb (x % 2) 1) 1 0 ≡ x % 2
flag-mod x = ⊎_elim (λ e. rw e) (λ e. rw e) (digit x)

pub number_of-lt : (n : ℕ) (f : ℕ → Bool) → number_of n f < 2 ^ n
number_of-lt zero f = zero-lt-suc 0
number_of-lt (suc n) f = rw (pow-suc 2 n) (flag-lt (f 0) (number_of n (λ k. f (suc k))) (2 ^ n) (number_of-lt n (λ k. f (suc k))))

pub bit_at-number_of : (n : ℕ) (f : ℕ → Bool) (k : ℕ) → k < n → bit_at (number_of n f) k ≡ f k
bit_at-number_of zero f k h = absurd (not-suc-le-zero h)
bit_at-number_of (suc n) f zero h = bit_at-low (number_of (suc n) f) ∙ flag-odd (f 0) (number_of n (λ k. f (suc k)))
bit_at-number_of (suc n) f (suc k) h =
    bit_at-suc (number_of (suc n) f) k
    ∙ ap (λ (x : ℕ). bit_at x k) (flag-half (f 0) (number_of n (λ k. f (suc k))))
    ∙ bit_at-number_of n (λ k. f (suc k)) k (le_of_suc-le-suc h)

pub number_of-ext : (n : ℕ) (f g : ℕ → Bool) → ((k : ℕ) → k < n → f k ≡ g k) → number_of n f ≡ number_of n g
number_of-ext zero f g h = refl
number_of-ext (suc n) f g h =
    ap₂ (λ (b : Bool) (m : ℕ). cond b 1 0 + 2 * m) (h 0 (omega arith))
    (number_of-ext n (λ k. f (suc k)) (λ k. g (suc k)) (λ k l. h (suc k) (omega arith)))

pub number_of-bit_at : (n x : ℕ) → x < 2 ^ n → number_of n (bit_at x) ≡ x
number_of-bit_at zero x h = omega arith
number_of-bit_at (suc n) x h =
    let l : x < 2 ^ n * 2 = rw (pow-suc 2 n) at h in
    ap₂ (λ (a b : ℕ). a + 2 * b)
    (ap (λ (b : Bool). cond b 1 0) (bit_at-low x) ∙ flag-mod x)
    (ap (number_of n) (fun_ext (bit_at-suc x)) ∙ number_of-bit_at n (x / 2) (omega arith))
    ∙ omega arith

-- ---- How many bits are 1

pub ones-zero : ones 0 ≡ 0
unfolding ones
ones-zero = refl

pub ones-bits : (n x : ℕ) → x < 2 ^ n → ones x ≡ count (bit_at x) (below n)
ones-bits zero x h = ap ones (lt-one h) ∙ ones-zero ∙ sym (count-below-zero (bit_at x))
ones-bits (suc n) x h =
    let l : x < 2 ^ n * 2 = rw (pow-suc 2 n) at h in
    ones_step x
    ∙ ap₂ (λ (a b : ℕ). a + b)
    (sym (ap (λ (b : Bool). cond b 1 0) (bit_at-low x) ∙ flag-mod x))
    (ones-bits n (x / 2) (omega arith) ∙ ap (λ (f : ℕ → Bool). count f (below n)) (sym (fun_ext (bit_at-suc x))))
    ∙ sym (count-below-first (bit_at x) n)

-- a number with no bit is 0
pub no_bit_zero : (n x : ℕ) → x < 2 ^ n → ((k : ℕ) → k < n → bit_at x k ≡ false) → x ≡ 0
no_bit_zero n x h f =
    sym (number_of-bit_at n x h) ∙ number_of-ext n (bit_at x) (bit_at 0) (λ k l. f k l ∙ sym (bit_at-none k))
    ∙ number_of-bit_at n 0 (pow_pos n)
