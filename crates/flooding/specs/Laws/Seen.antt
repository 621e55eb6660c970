-- Laws of the points that were seen: a store to the word of a point adds that point alone, eight bytes of a liberty set make a word, and sets
-- whose words are equal are equal.
use Rattle.std.specs.Prelude.{◌≡◌, refl, Bool, false, cond, not, ◌&&◌, ◌||◌, List, ◌↔◌, ◌≢◌, ℕ, zero, suc, ◌+◌, ◌*◌, ◌/◌, ◌%◌, ◌^◌, ◌≤◌, ◌<◌, eqb, ltb, length, get_or, set, replicate}
use Rattle.std.proofs.Common.{sym, ap₂, ◌∙◌, ⊎_elim, pow-suc, mul_comm, mul_assoc, zero-add, suc-add, arith, length-set, get_or-set_same, get_or-set_other, below_none, below_more, eq-eqb, ne_eqb, lt-ltb, le-ltb}
use Rattle.std.proofs.Math.Path.{ap, fun_ext}
use Rattle.std.proofs.Math.Bool.{or-false}
use Rattle.std.specs.Int.Bits.{bit_or, or_add_and, or_self}
use Rattle.std.proofs.lemmas.Nat.{and_le_l, and_le_r}
use Rattle.rules.specs.Sizes.{max_area}
use Rattle.rules.specs.Lists.{same, below}
use Rattle.rules.proofs.Laws.Lists.{not_yes, same-equal, same_self, equal_or_not, below_or_not, below-mem, get_or-replicate-same}
use Rattle.rules.proofs.Laws.Counting.{count_none}
use Rattle.sets.specs.Liberties.{LibertySet, bit_at, number_of, has, set_of, number, liberty_bits}
use Rattle.sets.specs.Laws.Bits.{bit_at-none, bit_at-or, bit_at-power, bit_at-number_of, number_of-ext, number_of-bit_at, no_bit_zero}
use Rattle.sets.specs.Laws.Liberties.{has-byte, has-set_of, has-past, set_is, number-set_of, number-none}
use Rattle.flooding.specs.Flood.{seen_words, sees, Saw, two_bytes, four_bytes, word_of}
use Rattle.owning.specs.Laws.Lists.{and-fails}

-- ---- One point seen

pub none_seen : (n q : ℕ) → sees (replicate n 0) q ≡ false
unfolding sees
none_seen n q = ap (λ (x : ℕ). bit_at x (q % 64)) (get_or-replicate-same n (q / 64) 0) ∙ bit_at-none (q % 64)

-- bit k of word i is the point 64 i + k
sees-word : (seen : List ℕ) (i k : ℕ) → k < 64 → sees seen (64 * i + k) ≡ bit_at (get_or seen i 0) k
unfolding sees
sees-word seen i k l =
    let d : (64 * i + k) / 64 ≡ i = omega arith in
    let m : (64 * i + k) % 64 ≡ k = omega arith in
    rw (d, m)

-- two points are equal as their bits are, where their words are
same_bit : (p q : ℕ) → q / 64 ≡ p / 64 → eqb (q % 64) (p % 64) ≡ eqb q p
same_bit p q e =
    ⊎_elim
    (λ (h : q ≡ p). rw (eq-eqb q p h) (eq-eqb (q % 64) (p % 64) (omega arith)))
    (λ h. rw (ne_eqb q p h) (ne_eqb (q % 64) (p % 64) (λ m. h (omega arith))))
    (equal_or_not q p)

pub saw-stored :
    (seen : List ℕ) (p m : ℕ) → length seen ≡ seen_words → p < max_area → m ≡ 2 ^ (p % 64)
    → Saw p seen (set seen (p / 64) (bit_or (get_or seen (p / 64) 0) m))
unfolding sees
saw-stored seen p m long on e = record { long = length-set seen (p / 64) v ∙ long; points = points }
  where
    v : ℕ
    v = bit_or (get_or seen (p / 64) 0) m

    points : (q : ℕ) → sees (set seen (p / 64) v) q ≡ (sees seen q || eqb q p)
    points q =
        ⊎_elim
        (λ (d : q / 64 ≡ p / 64).
        ap (λ (x : ℕ). bit_at (get_or (set seen (p / 64) v) x 0) (q % 64)) d
        ∙ ap (λ (x : ℕ). bit_at x (q % 64)) (get_or-set_same seen (p / 64) v 0 (omega arith))
        ∙ bit_at-or (get_or seen (p / 64) 0) m (q % 64)
        ∙ ap₂ (λ (x y : Bool). x || y) (ap (λ (x : ℕ). bit_at (get_or seen x 0) (q % 64)) (sym d))
        (ap (λ (x : ℕ). bit_at x (q % 64)) e ∙ bit_at-power (p % 64) (q % 64) ∙ same_bit p q d))
        (λ n.
        ap (λ (x : ℕ). bit_at x (q % 64)) (get_or-set_other seen (p / 64) (q / 64) v 0 n)
        ∙ sym (or-false (bit_at (get_or seen (q / 64) 0) (q % 64)))
        ∙ ap (λ (t : Bool). bit_at (get_or seen (q / 64) 0) (q % 64) || t) (sym (ne_eqb q p (λ h. n (ap (λ (x : ℕ). x / 64) h)))))
        (equal_or_not (q / 64) (p / 64))

-- ---- A word of a liberty set

-- a number from its bits, the low ones first
number_of-add : (m n : ℕ) (f : ℕ → Bool) → number_of (m + n) f ≡ number_of m f + 2 ^ m * number_of n (λ k. f (m + k))
number_of-add zero n f =
    ap₂ (λ (k : ℕ) (g : ℕ → Bool). number_of k g) (zero-add n) (fun_ext (λ k. ap f (sym (zero-add k)))) ∙ omega arith
number_of-add (suc m) n f =
    ap (λ (k : ℕ). number_of k f) (suc-add m n)
    ∙ ap (λ (x : ℕ). cond (f 0) 1 0 + 2 * x) (number_of-add m n (λ k. f (suc k)))
    ∙ regroup
    ∙ ap (λ (g : ℕ → Bool). number_of (suc m) f + 2 ^ suc m * number_of n g) (fun_ext (λ k. ap f (sym (suc-add m k))))
  where
    regroup :
        cond (f 0) 1 0 + 2 * (number_of m (λ k. f (suc k)) + 2 ^ m * number_of n (λ k. f (suc (m + k))))
        ≡ number_of (suc m) f + 2 ^ suc m * number_of n (λ k. f (suc (m + k)))
    regroup =
        let high = number_of n (λ k. f (suc (m + k))) in
        let twice : 2 ^ suc m * high ≡ 2 * (2 ^ m * high) = ap (λ (x : ℕ). x * high) (pow-suc 2 m ∙ mul_comm (2 ^ m) 2) ∙ mul_assoc 2 (2 ^ m) high in
        omega arith

-- as many bits from a byte on as two halves
bits-twice : (set : List ℕ) (n i : ℕ) → number_of (8 * n + 8 * n) (λ k. has set (8 * i + k))
    ≡ number_of (8 * n) (λ k. has set (8 * i + k)) + 2 ^ (8 * n) * number_of (8 * n) (λ k. has set (8 * (i + n) + k))
bits-twice set n i =
    number_of-add (8 * n) (8 * n) (λ k. has set (8 * i + k))
    ∙ ap (λ (x : ℕ). number_of (8 * n) (λ k. has set (8 * i + k)) + 2 ^ (8 * n) * x)
    (number_of-ext (8 * n) (λ k. has set (8 * i + (8 * n + k))) (λ k. has set (8 * (i + n) + k)) (λ k l. ap (has set) (omega arith)))

module _ (set : List ℕ) (is : LibertySet set) where
  bits-one : (i : ℕ) → number_of 8 (λ k. has set (8 * i + k)) ≡ get_or set i 0
  bits-one i = number_of-ext 8 (λ k. has set (8 * i + k)) (bit_at (get_or set i 0)) (has-byte set i) ∙ number_of-bit_at 8 (get_or set i 0) (is.bytes i)

  bits-two : (i : ℕ) → number_of 16 (λ k. has set (8 * i + k)) ≡ two_bytes set i
  bits-two i = bits-twice set 1 i ∙ ap₂ (λ (x y : ℕ). x + 2 ^ 8 * y) (bits-one i) (bits-one (i + 1)) ∙ omega arith

  bits-four : (i : ℕ) → number_of 32 (λ k. has set (8 * i + k)) ≡ four_bytes set i
  bits-four i = bits-twice set 2 i ∙ ap₂ (λ (x y : ℕ). x + 2 ^ 16 * y) (bits-two i) (bits-two (i + 2)) ∙ omega arith

  -- the word has the set's bits
  word-bits : (i : ℕ) → number_of 64 (λ k. has set (8 * i + k)) ≡ word_of set i
  word-bits i = bits-twice set 4 i ∙ ap₂ (λ (x y : ℕ). x + 2 ^ 32 * y) (bits-four i) (bits-four (i + 4)) ∙ omega arith

-- ---- Words gathered by `|`: the whole is 0 exactly if each is

or-zero : (a b : ℕ) → bit_or a b ≡ 0 ↔ ((a ≡ 0) × (b ≡ 0))
or-zero a b = (
  λ e. let sum = or_add_and a b in let l = and_le_l a b in let r = and_le_r a b in (omega arith, omega arith),
  λ t. rw (t.0, t.1) (or_self 0),
)

-- the first n words are equal, and what was gathered of them is 0 exactly if each is
pub record Compared (kept seen : List ℕ) (n some : ℕ) : Type 0 where
  pub equal : (k : ℕ) → k < n → get_or seen k 0 ≡ word_of kept (8 * k)
  pub gathered : some ≡ 0 ↔ ((k : ℕ) → k < n → get_or seen k 0 ≡ 0)

module _ (kept seen : List ℕ) where
  pub compared-none : Compared kept seen 0 0
  compared-none = record { equal = below_none _; gathered = (λ e. below_none _, λ h. refl) }

  pub compared-next : {n some : ℕ} → Compared kept seen n some → get_or seen n 0 ≡ word_of kept (8 * n) → Compared kept seen (n + 1) (bit_or some (get_or seen n 0))
  compared-next {n} {some} before here = record {
    equal = below_more _ n before.equal here;
    gathered = (
      λ e. let (a, b) = (or-zero some (get_or seen n 0)).0 e in below_more _ n (before.gathered.0 a) b,
      λ h. (or-zero some (get_or seen n 0)).1 (before.gathered.1 (λ k l. h k (omega arith)), h n (omega arith)),
    );
  }

-- ---- The sets

module _ (kept seen : List ℕ) (is : LibertySet kept) (small : (i : ℕ) → get_or seen i 0 < 2 ^ 64) (beyond : (q : ℕ) → liberty_bits ≤ q → sees seen q ≡ false) where
  -- where the sets are equal, so are the words
  word-equal : kept ≡ set_of (sees seen) → (i : ℕ) → get_or seen i 0 ≡ word_of kept (8 * i)
  word-equal e i =
      sym (number_of-bit_at 64 (get_or seen i 0) (small i))
      ∙ number_of-ext 64 (bit_at (get_or seen i 0)) (λ k. has kept (8 * (8 * i) + k)) (λ k l. sym (sees-word seen i k l) ∙ point (64 * i + k) ∙ ap (has kept) (omega arith))
      ∙ word-bits kept is (8 * i)
    where
      point : (q : ℕ) → sees seen q ≡ has kept q
      point q =
          ⊎_elim (λ l. sym (ap (λ (xs : List ℕ). has xs q) e ∙ has-set_of (sees seen) q l))
          (λ l. beyond q l ∙ sym (has-past kept is q l))
          (below_or_not q liberty_bits)

  pub word-differs : (i : ℕ) → get_or seen i 0 ≢ word_of kept (8 * i) → false ≡ (same kept (set_of (sees seen)) && ltb 0 (number kept))
  word-differs i n = sym (and-fails _ (not_yes (λ t. n (word-equal (same-equal kept (set_of (sees seen)) t) i))))

  module _ {some : ℕ} (all : Compared kept seen seen_words some) where
    set-equal : kept ≡ set_of (sees seen)
    set-equal =
        set_is kept (sees seen) is
        (λ q l.
        let e : 64 * (q / 64) + q % 64 ≡ q = omega arith in
        let k : q % 64 < 64 = omega arith in
        ap (has kept) (omega arith)
        ∙ sym (bit_at-number_of 64 (λ k. has kept (8 * (8 * (q / 64)) + k)) (q % 64) k)
        ∙ ap (λ (x : ℕ). bit_at x (q % 64)) (word-bits kept is (8 * (q / 64)) ∙ sym (all.equal (q / 64) (omega arith)))
        ∙ sym (sees-word seen (q / 64) (q % 64) k)
        ∙ ap (sees seen) e)

    none-there : ((k : ℕ) → k < seen_words → get_or seen k 0 ≡ 0) → number kept ≡ 0
    unfolding sees
    none-there each =
        ap number set-equal ∙ number-set_of (sees seen)
        ∙ count_none (sees seen) (below liberty_bits)
        (λ q m. let l = below-mem liberty_bits q m in ap (λ (x : ℕ). bit_at x (q % 64)) (each (q / 64) (omega arith)) ∙ bit_at-none (q % 64))

    each-zero : number kept ≡ 0 → (k : ℕ) → k < seen_words → get_or seen k 0 ≡ 0
    each-zero z k l =
        no_bit_zero 64 (get_or seen k 0) (small k)
        (λ j m.
        sym (sees-word seen k j m)
        ∙ ⊎_elim (λ low. sym (ap (λ (xs : List ℕ). has xs (64 * k + j)) set-equal ∙ has-set_of (sees seen) (64 * k + j) low) ∙ number-none kept z (64 * k + j) low)
        (beyond (64 * k + j)) (below_or_not (64 * k + j) liberty_bits))

    some-there : some ≢ 0 → 0 < number kept
    some-there n = ⊎_elim (λ z. absurd (n (all.gathered.1 (each-zero z)))) (λ (m : number kept ≢ 0). omega arith) (equal_or_not (number kept) 0)

    pub words-decide : not (eqb some 0) ≡ (same kept (set_of (sees seen)) && ltb 0 (number kept))
    words-decide =
        ⊎_elim
        (λ e. let z = none-there (all.gathered.0 e) in ap not (eq-eqb some 0 e) ∙ sym (le-ltb 0 (number kept) (omega arith)))
        (λ n. ap not (ne_eqb some 0 n) ∙ sym (lt-ltb 0 (number kept) (some-there n)))
        (equal_or_not some 0)
        ∙ ap (λ (t : Bool). t && ltb 0 (number kept)) (sym (ap (same kept) (sym set-equal) ∙ same_self kept))
