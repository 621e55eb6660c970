-- Two lists of bytes joined from the front, byte by byte: after n stores it is `merged n`, and after all of them the union.
use mathlib.Core.Bool.{◌||◌}
use mathlib.Core.Path.{◌≡◌, refl, ap, ◌∙◌}
use mathlib.Core.List.{List, [], ◌∷◌}
use Prim.Native.Nat.{ℕ, zero, suc, ◌+◌, ◌/◌, ◌%◌, ◌<◌}
use native.Mathlib.Nat.{not-suc-le-zero, le_of_suc-le-suc}
use native.Mathlib.Decide.{dec_lt}
use native.Mathlib.Numerals.{add-one}
use native.Mathlib.Omega.{arith}
use lib.Bits.{bit_or, or_lt}
use lib.ListN.{length, get_or, set, get_or-eq_default}
use lib.Pow.{pow_pos}
use Rattle.rules.specs.Sizes.{liberty_bytes}
use Rattle.sets.specs.Liberties.{bit_at, has, LibertySet, united}
use Rattle.sets.specs.Laws.Bits.{bit_at-or}
use Rattle.sets.specs.Laws.Liberties.{set_is}

-- the first n of a, each joined with b's; then a as it is
pub merged : ℕ → List ℕ → List ℕ → List ℕ
merged zero a b = a
merged (suc n) [] b = []
merged (suc n) (x ∷ a) [] = x ∷ a
merged (suc n) (x ∷ a) (y ∷ b) = bit_or x y ∷ merged n a b

pub merged-none : (a b : List ℕ) → a ≡ merged 0 a b
unfolding merged
merged-none a b = refl

pub length_merged : (n : ℕ) (a b : List ℕ) → length (merged n a b) ≡ length a
unfolding merged
length_merged zero a b = refl
length_merged (suc n) [] b = refl
length_merged (suc n) (x ∷ a) [] = refl
length_merged (suc n) (x ∷ a) (y ∷ b) = ap suc (length_merged n a b)

step : (n : ℕ) (a b : List ℕ) → n < length a → n < length b
    → set (merged n a b) n (bit_or (get_or (merged n a b) n 0) (get_or b n 0)) ≡ merged (suc n) a b
unfolding merged
step n [] b h l = absurd (not-suc-le-zero h)
step n (x ∷ a) [] h l = absurd (not-suc-le-zero l)
step zero (x ∷ a) (y ∷ b) h l = refl
step (suc n) (x ∷ a) (y ∷ b) h l = ap (λ (r : List ℕ). bit_or x y ∷ r) (step n a b (le_of_suc-le-suc h) (le_of_suc-le-suc l))

-- a store of the next byte
pub merged-more : (n : ℕ) (a b r : List ℕ) → n < length a → n < length b → r ≡ merged n a b
    → set r n (bit_or (get_or r n 0) (get_or b n 0)) ≡ merged (n + 1) a b
merged-more n a b r h l e = rw (add-one, e) (step n a b h l)

get_or-merged : (n : ℕ) (a b : List ℕ) (i : ℕ) → i < n → i < length a → i < length b
    → get_or (merged n a b) i 0 ≡ bit_or (get_or a i 0) (get_or b i 0)
unfolding merged
get_or-merged zero a b i g h l = absurd (not-suc-le-zero g)
get_or-merged (suc n) [] b i g h l = absurd (not-suc-le-zero h)
get_or-merged (suc n) (x ∷ a) [] i g h l = absurd (not-suc-le-zero l)
get_or-merged (suc n) (x ∷ a) (y ∷ b) zero g h l = refl
get_or-merged (suc n) (x ∷ a) (y ∷ b) (suc i) g h l = get_or-merged n a b i (le_of_suc-le-suc g) (le_of_suc-le-suc h) (le_of_suc-le-suc l)

module _ (a b : List ℕ) (s : LibertySet a) (t : LibertySet b) where
  byte : (i : ℕ) → i < liberty_bytes → get_or (merged liberty_bytes a b) i 0 ≡ bit_or (get_or a i 0) (get_or b i 0)
  byte i h = get_or-merged liberty_bytes a b i h (omega (arith, s.long)) (omega (arith, t.long))

  pub merged-is : merged liberty_bytes a b ≡ united a b
  unfolding united has
  merged-is =
      set_is (merged liberty_bytes a b) (λ q. has a q || has b q)
      (record {
        long = length_merged liberty_bytes a b ∙ s.long;
        bytes = λ i. elim (dec_lt i liberty_bytes) [
          | yes h ↦ rw (byte i h) (or_lt 8 (get_or a i 0) (get_or b i 0) (s.bytes i) (t.bytes i))
          | no h ↦ rw (get_or-eq_default (merged liberty_bytes a b) 0 {n = i} (omega (arith, length_merged liberty_bytes a b, s.long))) (pow_pos 8)
        ];
      })
      (λ q m. ap (λ (x : ℕ). bit_at x (q % 8)) (byte (q / 8) (omega arith)) ∙ bit_at-or (get_or a (q / 8) 0) (get_or b (q / 8) 0) (q % 8))
