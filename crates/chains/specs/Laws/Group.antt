-- Laws of the table: the first free slot is free, all before it are used, and it is found if there is any.
use Rattle.std.specs.Prelude.{Bool, true, false, cond, ◌≡◌, refl, ◌≢◌, List, [], ◌∷◌, ℕ, zero, suc, ◌+◌, ◌<◌, length, get_or, drop, replicate, Option, None, Some}
use Rattle.std.proofs.Common.{true≢false, sym, ap, ◌∙◌, zero-le, suc-le-suc, not-suc-le-zero, le_of_suc-le-suc, add-one, arith, drop-cons}
use Rattle.std.proofs.Math.Decide.{dec_lt}
use Rattle.std.proofs.lemmas.List.{length-replicate, get_or-replicate}
use Rattle.std.proofs.Math.ListN.{get_or-eq_default}
use Rattle.std.specs.Prelude.{eqb, not}
use Rattle.std.proofs.lemmas.Option.{none-some}
use Rattle.chains.specs.declared.group.Chain.{Chain}
use Rattle.chains.specs.Group.{used, free_chain, new_chain, first_free, FirstFree}

pub free-unused : used free_chain ≡ false
unfolding used free_chain
free-unused = refl

pub new-used : (colour p : ℕ) (liberties : List ℕ) → used (new_chain colour p liberties) ≡ true
unfolding used new_chain
new-used colour p liberties = refl

-- no slot of the free table is used
pub table-unused : (n i : ℕ) → used (get_or (replicate n free_chain) i free_chain) ≡ false
table-unused n i = elim (dec_lt i n) [
  | yes h ↦ ap used (get_or-replicate n i free_chain free_chain h) ∙ free-unused
  | no h ↦ ap used (get_or-eq_default (replicate n free_chain) free_chain {n = i} (omega (arith, length-replicate n free_chain))) ∙ free-unused
]

-- ---- The first free slot

-- at slot i: it, if it is free, else the first free one after it
pub first_free-step :
    (cs : List Chain) (i : ℕ) (d : Chain) → i < length cs
    → first_free i (drop i cs) ≡ cond (used (get_or cs i d)) (first_free (i + 1) (drop (i + 1) cs)) (Some i)
unfolding used
first_free-step cs i d h = rw (drop-cons cs i d, add-one) (flip (eqb (get_or cs i d).count 0) (first_free (suc i) (drop (suc i) cs)))
  where
    flip : (z : Bool) (o : Option ℕ) → cond z (Some i) o ≡ cond (not z) o (Some i)
    flip true o = refl
    flip false o = refl

-- a slot that is found is the first free one
pub first_free-at : (b : ℕ) (cs : List Chain) (i : ℕ) → first_free b cs ≡ Some i → (k : ℕ) × (i ≡ b + k) × FirstFree cs k
unfolding used
first_free-at b [] i e = absurd (none-some i e)
first_free-at b (c ∷ cs) i e = go (eqb c.count 0) refl (first_free-at (b + 1) cs i) e
  where
    go : (z : Bool) → eqb c.count 0 ≡ z → (first_free (b + 1) cs ≡ Some i → (k : ℕ) × (i ≡ b + 1 + k) × FirstFree cs k)
        → cond z (Some b) (first_free (b + 1) cs) ≡ Some i → (k : ℕ) × (i ≡ b + k) × FirstFree (c ∷ cs) k
    go false p rest q =
        let r = rest q in (
          suc r.0,
          omega arith,
          record {
            within = suc-le-suc r.2.within;
            free = r.2.free;
            before = λ j l. at j l;
          },
        )
      where
        at : (j : ℕ) → j < suc (rest q).0 → used (get_or (c ∷ cs) j free_chain) ≡ true
        at zero l = ap not p
        at (suc j) l = (rest q).2.before j (le_of_suc-le-suc l)
    go true p rest q =
        let same : b ≡ i = cc in
        (zero, omega arith, record { within = suc-le-suc zero-le; free = ap not p; before = λ j l. absurd (not-suc-le-zero l) })

-- where none is found, all are used
pub first_free-full :
    (b : ℕ) (cs : List Chain) → first_free b cs ≡ None → (i : ℕ) → i < length cs → used (get_or cs i free_chain) ≡ true
unfolding used
first_free-full b [] e i h = absurd (not-suc-le-zero h)
first_free-full b (c ∷ cs) e i h = go (eqb c.count 0) refl i (first_free-full (b + 1) cs) e h
  where
    go : (z : Bool) → eqb c.count 0 ≡ z → (i : ℕ)
        → (first_free (b + 1) cs ≡ None → (j : ℕ) → j < length cs → used (get_or cs j free_chain) ≡ true)
        → cond z (Some b) (first_free (b + 1) cs) ≡ None → i < length (c ∷ cs) → used (get_or (c ∷ cs) i free_chain) ≡ true
    go false p zero rest q l = ap not p
    go false p (suc i) rest q l = rest q i (le_of_suc-le-suc l)
    go true p i rest q l = absurd (none-some b (sym q))

-- where some slot is free, one is found
pub first_free-found : (b : ℕ) (cs : List Chain) (i : ℕ) → i < length cs → used (get_or cs i free_chain) ≡ false → first_free b cs ≢ None
first_free-found b cs i h free e = true≢false (sym (first_free-full b cs e i h) ∙ free)
