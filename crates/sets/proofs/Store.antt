-- A store to the byte of one point: the set that comes of it, for any operation that changes only that point's bit. `add_liberty`
-- and `remove_liberty` are two such operations.
use mathlib.Core.Bool.{Bool, true, false, not, ◌&&◌, ◌||◌, xor, or-false, and-true, and-false}
use mathlib.Core.Path.{◌≡◌, refl, sym, ap, ap₂, ◌∙◌, fun_ext}
use mathlib.Core.List.{List}
use Prim.Native.Nat.{ℕ, ◌/◌, ◌%◌, ◌^◌, ◌≤◌, ◌<◌}
use native.Mathlib.Decide.{ℕ_discrete}
use native.Mathlib.Omega.{arith}
use lib.Bits.{bit_and, bit_or, bit_xor, and_lt, or_lt, xor_lt}
use lib.Dec.{eqb, ltb}
use lib.Pow.{pow-lt}
use lib.ListN.{get_or, set, length-set}
use lib.Seq.{get_or-set_same, get_or-set_other}
use borrow.Author.Tests.{eq-eqb, ne_eqb, lt-ltb, le-ltb}
use Rattle.rules.specs.Sizes.{max_area, liberty_bytes}
use Rattle.rules.specs.Lists.{below}
use Rattle.rules.proofs.Laws.Counting.{count_none}
use Rattle.sets.specs.Liberties.{liberty_bits, bit_at, has, set_of, LibertySet, none, added, removed, number}
use Rattle.sets.specs.Laws.Bits.{bit_at-or, bit_at-and, bit_at-xor, bit_at-power}
use Rattle.sets.specs.Laws.Liberties.{set_is, number-set_of, number-none}
use Rattle.std.specs.Cmp.Lexicographic.{same_text, other_text}
use lib.Pointwise.{pointwise}

-- a byte stored within a set leaves a set
pub stored-set : (xs : List ℕ) (i v : ℕ) → LibertySet xs → i < liberty_bytes → v < 2 ^ 8 → LibertySet (set xs i v)
stored-set xs i v s h l = record {
  long = length-set xs i v ∙ s.long;
  bytes = λ j. elim (ℕ_discrete j i) [
    | yes e ↦ rw (e, get_or-set_same xs i v 0 (omega (arith, s.long))) l
    | no n ↦ rw (get_or-set_other xs i j v 0 n) (s.bytes j)
  ];
}

-- two points are equal as their bits are, where their bytes are
same_bit : (p q : ℕ) → q / 8 ≡ p / 8 → eqb (q % 8) (p % 8) ≡ eqb q p
same_bit p q e = elim (ℕ_discrete q p) [
  | yes h ↦ rw (eq-eqb q p h) (eq-eqb (q % 8) (p % 8) (omega arith))
  | no h ↦ rw (ne_eqb q p h) (ne_eqb (q % 8) (p % 8) (λ m. h (omega arith)))
]

module _ (on : Bool → Bool → Bool) (kept : (b : Bool) → on b false ≡ b) where
  pub stored_is :
      (xs : List ℕ) (p v : ℕ) → LibertySet xs → p / 8 < liberty_bytes → v < 2 ^ 8
      → ((k : ℕ) → bit_at v k ≡ on (bit_at (get_or xs (p / 8) 0) k) (eqb k (p % 8)))
      → set xs (p / 8) v ≡ set_of (λ q. on (has xs q) (eqb q p))
  unfolding has
  stored_is xs p v s h l bit =
      set_is (set xs (p / 8) v) (λ q. on (has xs q) (eqb q p)) (stored-set xs (p / 8) v s h l) (λ q m. elim (ℕ_discrete (q / 8) (p / 8)) [
        | yes e ↦ ap (λ (x : ℕ). bit_at (get_or (set xs (p / 8) v) x 0) (q % 8)) e
            ∙ ap (λ (x : ℕ). bit_at x (q % 8)) (get_or-set_same xs (p / 8) v 0 (omega (arith, s.long)))
            ∙ bit (q % 8)
            ∙ ap₂ on (ap (λ (x : ℕ). bit_at (get_or xs x 0) (q % 8)) (sym e)) (same_bit p q e)
        | no n ↦ ap (λ (x : ℕ). bit_at x (q % 8)) (get_or-set_other xs (p / 8) (q / 8) v 0 n)
            ∙ sym (kept (has xs q))
            ∙ ap (on (has xs q)) (sym (ne_eqb q p (λ e. n (ap (λ (x : ℕ). x / 8) e))))
      ])

-- ---- The two operations

-- `x ^ (x & m)` clears the bits of m
cleared : (b c : Bool) → xor b (b && c) ≡ (b && not c)
unfolding xor
cleared true true = refl
cleared true false = refl
cleared false c = refl

module _ (xs : List ℕ) (p : ℕ) (s : LibertySet xs) where
  power-lt : 2 ^ (p % 8) < 2 ^ 8
  power-lt = pow-lt {j = 8} (omega arith)

  pub add-stored : (m : ℕ) → m ≡ 2 ^ (p % 8) → p < max_area → set xs (p / 8) (bit_or (get_or xs (p / 8) 0) m) ≡ added xs p
  unfolding added
  add-stored m e h =
      rw e
      (stored_is ◌||◌ or-false xs p (bit_or (get_or xs (p / 8) 0) (2 ^ (p % 8))) s (omega arith)
      (or_lt 8 (get_or xs (p / 8) 0) (2 ^ (p % 8)) (s.bytes (p / 8)) power-lt)
      (λ k. bit_at-or (get_or xs (p / 8) 0) (2 ^ (p % 8)) k ∙ ap (λ (b : Bool). bit_at (get_or xs (p / 8) 0) k || b) (bit_at-power (p % 8) k))
      ∙ ap set_of (fun_ext (λ q. ap (λ (b : Bool). has xs q || b)
      (sym (and-true (eqb q p)) ∙ ap (λ (b : Bool). eqb q p && b) (sym (lt-ltb p max_area h))))))

  pub add-beyond : max_area ≤ p → xs ≡ added xs p
  unfolding added
  add-beyond h =
      set_is xs (λ q. has xs q || (eqb q p && ltb p max_area)) s
      (λ q l. sym (ap (λ (b : Bool). has xs q || (eqb q p && b)) (le-ltb p max_area h)
      ∙ ap (λ (b : Bool). has xs q || b) (and-false (eqb q p)) ∙ or-false (has xs q)))

  pub remove-stored :
      (m : ℕ) → m ≡ 2 ^ (p % 8) → p / 8 < liberty_bytes
      → set xs (p / 8) (bit_xor (get_or xs (p / 8) 0) (bit_and (get_or xs (p / 8) 0) m)) ≡ removed xs p
  unfolding removed
  remove-stored m e h =
      rw e
      (stored_is (λ b c. b && not c) and-true xs p
      (bit_xor (get_or xs (p / 8) 0) (bit_and (get_or xs (p / 8) 0) (2 ^ (p % 8)))) s h
      (xor_lt 8 (get_or xs (p / 8) 0) (bit_and (get_or xs (p / 8) 0) (2 ^ (p % 8))) (s.bytes (p / 8))
      (and_lt 8 (get_or xs (p / 8) 0) (2 ^ (p % 8)) (s.bytes (p / 8)) power-lt))
      (λ k. bit_at-xor (get_or xs (p / 8) 0) (bit_and (get_or xs (p / 8) 0) (2 ^ (p % 8))) k
      ∙ ap (xor (bit_at (get_or xs (p / 8) 0) k))
      (bit_at-and (get_or xs (p / 8) 0) (2 ^ (p % 8)) k ∙ ap (λ (b : Bool). bit_at (get_or xs (p / 8) 0) k && b) (bit_at-power (p % 8) k))
      ∙ cleared (bit_at (get_or xs (p / 8) 0) k) (eqb k (p % 8))))

  pub remove-beyond : liberty_bytes ≤ p / 8 → xs ≡ removed xs p
  unfolding removed
  remove-beyond h =
      set_is xs (λ q. has xs q && not (eqb q p)) s
      (λ q l. sym (ap (λ (b : Bool). has xs q && not b) (ne_eqb q p (λ e. omega arith)) ∙ and-true (has xs q)))

-- a set other than the empty one has a point
pub some-not-none : (xs : List ℕ) → LibertySet xs → (ys : List ℕ) → ys ≡ none → not (pointwise eqb xs ys) ≡ ltb 0 (number xs)
unfolding none
some-not-none xs s ys e = go (pointwise eqb xs ys) refl
  where
    go : (b : Bool) → pointwise eqb xs ys ≡ b → not b ≡ ltb 0 (number xs)
    go true h =
        let z : number xs ≡ 0 = ap number (same_text xs ys (sym h) ∙ e) ∙ number-set_of (λ q. false) ∙ count_none (λ q. false) (below liberty_bits) (λ q m. refl) in
        sym (le-ltb 0 (number xs) (omega arith))
    go false h =
        sym (lt-ltb 0 (number xs) (elim (ℕ_discrete (number xs) 0) [
          | yes z ↦ absurd (other_text xs ys (sym h) (set_is xs (λ q. false) s (λ q l. number-none xs z q l) ∙ sym e))
          | no n ↦ omega arith
        ]))
