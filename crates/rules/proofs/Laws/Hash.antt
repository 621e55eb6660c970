-- Laws of Hash: the exclusive or as an algebra, and the hash after a change at one point: out with the old stone's number, in with the new.
use Rattle.std.specs.Prelude.{◌≡◌, refl, List, [], ◌∷◌, ◌⊎◌, ℕ, zero, suc, ◌+◌, ◌*◌, ◌/◌, ◌%◌, ◌<◌, length, set}
use Rattle.std.proofs.Common.{sym, ap, ap₂, ◌∙◌, inl, inr, not-suc-le-zero, le_of_suc-le-suc, mod-lt, zero-lt-suc, add-zero, zero-add, add-suc, suc-add}
use Rattle.std.proofs.Math.Arith.{bin_ind}
use Rattle.std.specs.Int.Bits.{bit_xor, differ, xor_step, xor_self, xor_zero_r}
use Rattle.std.proofs.lemmas.Nat.{xor_shr, xor_mod, xor_comm}
use Rattle.rules.specs.Colours.{empty, at}
use Rattle.rules.specs.Hash.{stone_hash, hash_from, hash}

-- ---- The exclusive or

pub digit : (x : ℕ) → (x % 2 ≡ 0) ⊎ (x % 2 ≡ 1)
digit x = go (x % 2) (mod-lt x (zero-lt-suc 1))
  where
    go : (d : ℕ) → d < 2 → (d ≡ 0) ⊎ (d ≡ 1)
    go zero h = inl refl
    go (suc zero) h = inr refl
    go (suc (suc d)) h = absurd (not-suc-le-zero (le_of_suc-le-suc (le_of_suc-le-suc h)))

-- of single digits, by the table
digit_assoc : (x y z : ℕ) → (x ≡ 0) ⊎ (x ≡ 1) → (y ≡ 0) ⊎ (y ≡ 1) → (z ≡ 0) ⊎ (z ≡ 1) → differ (bit_xor x y) z ≡ differ x (bit_xor y z)
digit_assoc x y z (inl p) (inl q) (inl r) = rw (p, q, r)
digit_assoc x y z (inl p) (inl q) (inr r) = rw (p, q, r)
digit_assoc x y z (inl p) (inr q) (inl r) = rw (p, q, r)
digit_assoc x y z (inl p) (inr q) (inr r) = rw (p, q, r)
digit_assoc x y z (inr p) (inl q) (inl r) = rw (p, q, r)
digit_assoc x y z (inr p) (inl q) (inr r) = rw (p, q, r)
digit_assoc x y z (inr p) (inr q) (inl r) = rw (p, q, r)
digit_assoc x y z (inr p) (inr q) (inr r) = rw (p, q, r)

pub xor_assoc : (a b c : ℕ) → bit_xor (bit_xor a b) c ≡ bit_xor a (bit_xor b c)
xor_assoc a =
    bin_ind (λ (n : ℕ). (b c : ℕ) → bit_xor (bit_xor n b) c ≡ bit_xor n (bit_xor b c)) (λ b c. refl)
    (λ n ih b c.
    xor_step (bit_xor n b) c
    ∙ ap₂ (λ (x y : ℕ). bit_xor x (c / 2) * 2 + differ y (c % 2)) (xor_shr n b 1) (xor_mod n b 1)
    ∙ ap₂ (λ (x y : ℕ). x * 2 + y) (ih (b / 2) (c / 2)) (digit_assoc (n % 2) (b % 2) (c % 2) (digit n) (digit b) (digit c))
    ∙ ap₂ (λ (x y : ℕ). bit_xor (n / 2) x * 2 + differ (n % 2) y) (sym (xor_shr b c 1)) (sym (xor_mod b c 1))
    ∙ sym (xor_step n (bit_xor b c)))
    a

-- what goes in twice is out again
pub xor-twice : (a b : ℕ) → bit_xor a (bit_xor a b) ≡ b
xor-twice a b = sym (xor_assoc a a b) ∙ ap (λ (x : ℕ). bit_xor x b) (xor_self a)

-- in place of a: c
xor-exchange : (a c h : ℕ) → bit_xor c h ≡ bit_xor (bit_xor a h) (bit_xor a c)
xor-exchange a c h =
    xor_comm c h ∙ ap (bit_xor h) (sym (xor-twice a c)) ∙ sym (xor_assoc h a (bit_xor a c))
    ∙ ap (λ (x : ℕ). bit_xor x (bit_xor a c)) (xor_comm h a)

-- ---- A change at one point

-- an empty point has no number
pub stone_hash-empty : (p : ℕ) → stone_hash p empty ≡ 0
unfolding stone_hash
stone_hash-empty p = refl

hash_from-set :
    (i : ℕ) (cols : List ℕ) (p c : ℕ) → p < length cols →
    hash_from i (set cols p c) ≡ bit_xor (hash_from i cols) (bit_xor (stone_hash (i + p) (at cols p)) (stone_hash (i + p) c))
unfolding at
hash_from-set i [] p c h = absurd (not-suc-le-zero h)
hash_from-set i (x ∷ cols) zero c h =
    xor-exchange (stone_hash i x) (stone_hash i c) (hash_from (suc i) cols)
    ∙ ap (λ (k : ℕ). bit_xor (bit_xor (stone_hash i x) (hash_from (suc i) cols)) (bit_xor (stone_hash k x) (stone_hash k c))) (sym (add-zero i))
hash_from-set i (x ∷ cols) (suc p) c h =
    ap (bit_xor (stone_hash i x)) (hash_from-set (suc i) cols p c (le_of_suc-le-suc h))
    ∙ sym (xor_assoc (stone_hash i x) (hash_from (suc i) cols) (bit_xor (stone_hash (suc i + p) (at cols p)) (stone_hash (suc i + p) c)))
    ∙ ap (λ (k : ℕ). bit_xor (bit_xor (stone_hash i x) (hash_from (suc i) cols)) (bit_xor (stone_hash k (at cols p)) (stone_hash k c))) (suc-add i p ∙ sym (add-suc i p))

pub hash_set :
    (cols : List ℕ) (p c : ℕ) → p < length cols → hash (set cols p c) ≡ bit_xor (hash cols) (bit_xor (stone_hash p (at cols p)) (stone_hash p c))
unfolding hash
hash_set cols p c h =
    hash_from-set 0 cols p c h
    ∙ ap (λ (k : ℕ). bit_xor (hash_from 0 cols) (bit_xor (stone_hash k (at cols p)) (stone_hash k c))) (zero-add p)

-- a stone on an empty point
pub hash-put : (cols : List ℕ) (p c : ℕ) → p < length cols → at cols p ≡ empty → hash (set cols p c) ≡ bit_xor (hash cols) (stone_hash p c)
hash-put cols p c h e =
    hash_set cols p c h
    ∙ ap (λ (x : ℕ). bit_xor (hash cols) (bit_xor x (stone_hash p c))) (ap (stone_hash p) e ∙ stone_hash-empty p)

-- a point emptied
pub hash-emptied : (cols : List ℕ) (p : ℕ) → p < length cols → hash (set cols p empty) ≡ bit_xor (hash cols) (stone_hash p (at cols p))
hash-emptied cols p h =
    hash_set cols p empty h
    ∙ ap (bit_xor (hash cols)) (ap (bit_xor (stone_hash p (at cols p))) (stone_hash-empty p) ∙ xor_zero_r (stone_hash p (at cols p)))
