-- A liberty set is known by its points: the set of a test has what the test says, and two sets with the same points are equal. So
-- whatever has the points that an operation is to have is what the operation gives.
use Rattle.std.specs.Prelude.{Bool, true, false, not, ◌&&◌, ◌||◌, ◌≡◌, List, ◌≢◌, ℕ, ◌+◌, ◌*◌, ◌/◌, ◌%◌, ◌-◌, ◌≤◌, ◌<◌, eqb, ltb, length, get_or, replicate}
use Rattle.std.proofs.Math.Bool.{or_comm, or_assoc, or_self}
use Rattle.std.proofs.Common.{sym, ap, ap₂, ◌∙◌, zero-add, arith, ext_get_or, pow_pos}
use Rattle.std.proofs.Math.Decide.{dec_lt, ℕ_discrete}
use Rattle.std.proofs.lemmas.List.{length-replicate, get_or-replicate}
use Rattle.std.proofs.Math.ListN.{get_or-eq_default}
use Rattle.std.specs.Int.Count.{ones}
use Rattle.rules.specs.Sizes.{max_area, liberty_bytes}
use Rattle.rules.specs.Lists.{count, below}
use Rattle.sets.specs.Liberties.{liberty_bits, bit_at, has, byte_of, set_of, LibertySet, none, added, removed, united, number}
use Rattle.rules.proofs.Laws.Lists.{length-tabulate, get_d_tabulate}
use Rattle.rules.proofs.Laws.Places.{tabulate-ext}
use Rattle.rules.proofs.Laws.Places.{count-below-add, count-below-ext, count-below-le, count-below-some, count-below-each, count-below-more}
use Rattle.sets.specs.Laws.Bits.{bit_at-none, number_of-lt, bit_at-number_of, number_of-ext, number_of-bit_at, ones-bits, no_bit_zero}

-- a list of zeros has a zero at each place, and beyond
zeros-zero : (n i : ℕ) → ◌≡◌ {A = ℕ} (get_or (replicate n 0) i 0) 0
zeros-zero n i = elim (dec_lt i n) [
  | yes h ↦ get_or-replicate n i 0 0 h
  | no h ↦ get_or-eq_default (replicate n 0) 0 {n = i} (omega (arith, length-replicate {A = ℕ} n 0))
]

-- ---- The set of a test

-- bit k of byte i is the point 8 i + k
pub has-byte : (set : List ℕ) (i k : ℕ) → k < 8 → has set (8 * i + k) ≡ bit_at (get_or set i 0) k
unfolding has
has-byte set i k h =
    let d : (8 * i + k) / 8 ≡ i = omega arith in
    let m : (8 * i + k) % 8 ≡ k = omega arith in
    rw (d, m)

byte-set_of : (f : ℕ → Bool) (i : ℕ) → i < liberty_bytes → get_or (set_of f) i 0 ≡ byte_of f i
unfolding set_of
byte-set_of f i h = get_d_tabulate (byte_of f) 0 liberty_bytes i 0 h ∙ ap (byte_of f) (zero-add i)

pub length-set_of : (f : ℕ → Bool) → length (set_of f) ≡ liberty_bytes
unfolding set_of
length-set_of f = length-tabulate (byte_of f) 0 liberty_bytes

-- beyond a set's bytes nothing is in it
pub has-beyond : (set : List ℕ) (q : ℕ) → length set ≤ q / 8 → has set q ≡ false
unfolding has
has-beyond set q h = ap (λ (x : ℕ). bit_at x (q % 8)) (get_or-eq_default set 0 h) ∙ bit_at-none (q % 8)

pub has-set_of : (f : ℕ → Bool) (q : ℕ) → q < liberty_bits → has (set_of f) q ≡ f q
unfolding has byte_of
has-set_of f q h =
    let i : q / 8 < liberty_bytes = omega arith in
    let k : q % 8 < 8 = omega arith in
    let e : 8 * (q / 8) + q % 8 ≡ q = omega arith in
    ap (λ (x : ℕ). bit_at x (q % 8)) (byte-set_of f (q / 8) i) ∙ bit_at-number_of 8 (λ k. f (8 * (q / 8) + k)) (q % 8) k ∙ ap f e

pub set_of-ext : (f g : ℕ → Bool) → ((q : ℕ) → q < liberty_bits → f q ≡ g q) → set_of f ≡ set_of g
unfolding set_of byte_of
set_of-ext f g h =
    tabulate-ext (byte_of f) (byte_of g) 0 liberty_bytes
    (λ i l. number_of-ext 8 (λ k. f (8 * (0 + i) + k)) (λ k. g (8 * (0 + i) + k)) (λ k m. h (8 * (0 + i) + k) (omega arith)))

-- the set of a test is one, whatever the test
pub set_of-is : (f : ℕ → Bool) → LibertySet (set_of f)
unfolding byte_of
set_of-is f = record {
  long = length-set_of f;
  bytes = λ i. elim (dec_lt i liberty_bytes) [
    | yes l ↦ rw byte-set_of (number_of-lt 8 (λ k. f (8 * i + k)))
    | no l ↦ rw (get_or-eq_default (set_of f) 0 {n = i} (omega (arith, length-set_of f))) (pow_pos 8)
  ];
}

pub set_of-has : (set : List ℕ) → LibertySet set → set_of (has set) ≡ set
unfolding byte_of
set_of-has set s =
    ext_get_or 0 (set_of (has set)) set (length-set_of (has set) ∙ sym s.long)
    (λ i l. let m : i < liberty_bytes = omega (arith, length-set_of (has set)) in
    byte-set_of (has set) i m
    ∙ number_of-ext 8 (λ k. has set (8 * i + k)) (bit_at (get_or set i 0)) (has-byte set i)
    ∙ number_of-bit_at 8 (get_or set i 0) (s.bytes i))

-- a set with the points of a test is the set of that test
pub set_is : (set : List ℕ) (f : ℕ → Bool) → LibertySet set → ((q : ℕ) → q < liberty_bits → has set q ≡ f q) → set ≡ set_of f
set_is set f s h = sym (set_of-has set s) ∙ set_of-ext (has set) f h

-- two sets with the same points are equal
pub same_points : (a b : List ℕ) → LibertySet a → LibertySet b → ((q : ℕ) → q < liberty_bits → has a q ≡ has b q) → a ≡ b
same_points a b s t h = set_is a (has b) s h ∙ set_of-has b t

-- beyond the places of a set nothing is in it
pub has-past : (set : List ℕ) → LibertySet set → (q : ℕ) → liberty_bits ≤ q → has set q ≡ false
has-past set s q h = has-beyond set q (omega (arith, s.long))

-- ---- How many points

-- the points of one byte more
pub count-byte :
    (set : List ℕ) → LibertySet set → (i : ℕ)
    → count (has set) (below (8 * (i + 1))) ≡ count (has set) (below (8 * i)) + ones (get_or set i 0)
count-byte set s i =
    let e : 8 * (i + 1) ≡ 8 * i + 8 = omega arith in
    ap (λ (n : ℕ). count (has set) (below n)) e ∙ count-below-add (has set) (8 * i) 8
    ∙ ap (λ (n : ℕ). count (has set) (below (8 * i)) + n)
    (count-below-ext (λ k. has set (8 * i + k)) (bit_at (get_or set i 0)) 8 (has-byte set i) ∙ sym (ones-bits 8 (get_or set i 0) (s.bytes i)))

-- a point of the set makes the number more than 0, and where the number is 0 there is none
pub number-some : (set : List ℕ) (q : ℕ) → q < liberty_bits → has set q ≡ true → 0 < number set
unfolding number
number-some set q h e = count-below-some (has set) liberty_bits q h e

pub number-none : (set : List ℕ) → number set ≡ 0 → (q : ℕ) → q < liberty_bits → has set q ≡ false
unfolding number
number-none set z q h = count-below-each (has set) liberty_bits z q h

pub number-le : (set : List ℕ) → number set ≤ liberty_bits
unfolding number
number-le set = count-below-le (has set) liberty_bits

-- a byte that is not 0 holds a point
pub byte-some : (set : List ℕ) → LibertySet set → (i : ℕ) → i < liberty_bytes → get_or set i 0 ≢ 0 → 0 < number set
byte-some set s i h n = elim (ℕ_discrete (number set) 0) [
  | yes z ↦ absurd (n (no_bit_zero 8 (get_or set i 0) (s.bytes i)
      (λ k l. sym (has-byte set i k l) ∙ number-none set z (8 * i + k) (omega arith))))
  | no z ↦ omega arith
]

-- ---- The operations

-- all bytes 0
pub none-zeros : replicate liberty_bytes 0 ≡ none
unfolding none has
none-zeros =
    set_is (replicate liberty_bytes 0) (λ q. false)
    (record { long = length-replicate {A = ℕ} liberty_bytes 0; bytes = λ i. rw zeros-zero (pow_pos 8) })
    (λ q h. ap (λ (x : ℕ). bit_at x (q % 8)) (zeros-zero liberty_bytes (q / 8)) ∙ bit_at-none (q % 8))

pub has-none : (q : ℕ) → has none q ≡ false
unfolding none
has-none q = elim (dec_lt q liberty_bits) [
  | yes h ↦ has-set_of (λ q. false) q h
  | no h ↦ has-past none (set_of-is (λ q. false)) q (omega arith)
]

pub has-added : (set : List ℕ) (p q : ℕ) → q < liberty_bits → has (added set p) q ≡ (has set q || (eqb q p && ltb p max_area))
unfolding added
has-added set p q h = has-set_of (λ q. has set q || (eqb q p && ltb p max_area)) q h

pub has-removed : (set : List ℕ) (p q : ℕ) → q < liberty_bits → has (removed set p) q ≡ (has set q && not (eqb q p))
unfolding removed
has-removed set p q h = has-set_of (λ q. has set q && not (eqb q p)) q h

pub has-united : (a b : List ℕ) (q : ℕ) → q < liberty_bits → has (united a b) q ≡ (has a q || has b q)
unfolding united
has-united a b q h = has-set_of (λ q. has a q || has b q) q h

pub none_is : LibertySet none
unfolding none
none_is = set_of-is (λ q. false)

pub added_is : (set : List ℕ) (p : ℕ) → LibertySet (added set p)
unfolding added
added_is set p = set_of-is (λ q. has set q || (eqb q p && ltb p max_area))

pub removed-is : (set : List ℕ) (p : ℕ) → LibertySet (removed set p)
unfolding removed
removed-is set p = set_of-is (λ q. has set q && not (eqb q p))

pub united-is : (a b : List ℕ) → LibertySet (united a b)
unfolding united
united-is a b = set_of-is (λ q. has a q || has b q)

-- ---- The operations on the sets of tests

pub added-set_of : (f : ℕ → Bool) (p : ℕ) → added (set_of f) p ≡ set_of (λ q. f q || (eqb q p && ltb p max_area))
unfolding added
added-set_of f p =
    set_of-ext (λ q. has (set_of f) q || (eqb q p && ltb p max_area)) (λ q. f q || (eqb q p && ltb p max_area))
    (λ q h. ap (λ (x : Bool). x || (eqb q p && ltb p max_area)) (has-set_of f q h))

pub removed-set_of : (f : ℕ → Bool) (p : ℕ) → removed (set_of f) p ≡ set_of (λ q. f q && not (eqb q p))
unfolding removed
removed-set_of f p =
    set_of-ext (λ q. has (set_of f) q && not (eqb q p)) (λ q. f q && not (eqb q p))
    (λ q h. ap (λ (x : Bool). x && not (eqb q p)) (has-set_of f q h))

pub united-set_of : (f g : ℕ → Bool) → united (set_of f) (set_of g) ≡ set_of (λ q. f q || g q)
unfolding united
united-set_of f g =
    set_of-ext (λ q. has (set_of f) q || has (set_of g) q) (λ q. f q || g q)
    (λ q h. ap₂ (λ (x y : Bool). x || y) (has-set_of f q h) (has-set_of g q h))

pub number-set_of : (f : ℕ → Bool) → number (set_of f) ≡ count f (below liberty_bits)
unfolding number
number-set_of f = count-below-ext (has (set_of f)) f liberty_bits (has-set_of f)

-- ---- The union as an algebra

pub united-comm : (a b : List ℕ) → united a b ≡ united b a
unfolding united
united-comm a b = set_of-ext (λ q. has a q || has b q) (λ q. has b q || has a q) (λ q h. or_comm (has a q) (has b q))

pub united-assoc : (a b c : List ℕ) → united (united a b) c ≡ united a (united b c)
unfolding united
united-assoc a b c =
    set_of-ext (λ q. has (united a b) q || has c q) (λ q. has a q || has (united b c) q)
    (λ q h. ap (λ (x : Bool). x || has c q) (has-united a b q h) ∙ or_assoc (has a q) (has b q) (has c q)
    ∙ ap (λ (x : Bool). has a q || x) (sym (has-united b c q h)))

pub united-same : (a : List ℕ) → LibertySet a → united a a ≡ a
unfolding united
united-same a s = sym (set_is a (λ q. has a q || has a q) s (λ q h. sym (or_self (has a q))))

pub united-none : (a : List ℕ) → LibertySet a → united none a ≡ a
unfolding united
united-none a s = sym (set_is a (λ q. has none q || has a q) s (λ q h. ap (λ (x : Bool). x || has a q) (sym (has-none q))))

-- ---- The number of a set whose points lie below n

pub number-below :
    (set : List ℕ) (n : ℕ) → n ≤ liberty_bits → ((q : ℕ) → n ≤ q → q < liberty_bits → has set q ≡ false)
    → number set ≡ count (has set) (below n)
unfolding number
number-below set n h none =
    let e : n + (liberty_bits - n) ≡ liberty_bits = omega arith in
    ap (λ (m : ℕ). count (has set) (below m)) (sym e)
    ∙ count-below-more (has set) n (liberty_bits - n) (λ k l. none (n + k) (omega arith) (omega arith))
