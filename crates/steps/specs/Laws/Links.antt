-- Links that are changed: a walk goes on as before as long as the links that it follows are left alone, and two rings whose last
-- links are crossed are one ring, the points of the one before those of the other.
use Rattle.std.specs.Prelude.{true, not, ◌≡◌, refl, List, ◌≢◌, ◌⊎◌, ℕ, zero, suc, ◌+◌, ◌-◌, ◌<◌, eqb, get_or}
use Rattle.std.proofs.Common.{sym, ◌∙◌, inl, inr, ⊎_elim, zero-add, arith, ne_eqb}
use Rattle.std.proofs.Math.Path.{ap}
use Rattle.std.proofs.Math.Decide.{dec_lt}
use Rattle.std.proofs.lemmas.Bool.{eqb-false, not-true}
use Rattle.rules.specs.Lists.{Distinct}
use Rattle.rules.proofs.Laws.Lists.{equal_or_not, below_or_not}
use Rattle.rules.proofs.Laws.Distinct.{tabulate-distinct, distinct-tabulate}
use Rattle.chains.specs.declared.group.Chain.{Chain}
use Rattle.chains.specs.Group.{used}
use Rattle.chains.specs.Walk.{stepped, walked}
use Rattle.chains.specs.Laws.Walk.{stepped-add}
use Rattle.board.specs.declared.goban.Board.{Board}
use Rattle.board.specs.Board.{chain_in}
use Rattle.board.specs.True.{ExactChain}
use Rattle.steps.specs.Links.{Ring, RingOf}

-- ---- No point twice, by number

module _ (next : List ℕ) (p n : ℕ) where
  pub distinct-walked : ((j k : ℕ) → j < n → k < n → stepped next p j ≡ stepped next p k → j ≡ k) → Distinct (walked next p n)
  unfolding walked
  distinct-walked apart =
      tabulate-distinct (stepped next p) 0 n
      (λ j k l m e.
      let same : j ≡ k = apart j k (omega arith) m (ap (stepped next p) (sym (zero-add j)) ∙ e ∙ ap (stepped next p) (zero-add k)) in
      omega arith)

  later-new : Distinct (walked next p n) → (j k : ℕ) → j < k → k < n → stepped next p j ≢ stepped next p k
  unfolding walked
  later-new d j k l m e =
      distinct-tabulate (stepped next p) 0 n d j k l m (ap (stepped next p) (zero-add j) ∙ e ∙ ap (stepped next p) (sym (zero-add k)))

  pub walked-distinct : Distinct (walked next p n) → (j k : ℕ) → j < n → k < n → stepped next p j ≡ stepped next p k → j ≡ k
  walked-distinct d j k l m e =
      ⊎_elim (λ before. absurd (later-new d j k before m e))
      (λ after. ⊎_elim (λ same. same) (λ apart. absurd (later-new d k j (omega arith) l (sym e))) (equal_or_not j k))
      (below_or_not j k)

-- ---- A ring of links

pub ring-last : {next : List ℕ} {own : ℕ → ℕ} {s o l n : ℕ} → Ring next own s o l n → own l ≡ s
ring-last {next} {own} {s} {o} {l} {n} r =
    let positive = r.some in ap own (sym (r.last (n - 1) (omega arith))) ∙ r.linked (n - 1) (omega arith)

-- where only the link of the last point is changed, the walk to it is as before
pub stepped_kept :
    (next next' : List ℕ) {own : ℕ → ℕ} {s o l n : ℕ} → Ring next own s o l n →
    ((q : ℕ) → own q ≡ s → q ≢ l → get_or next' q 0 ≡ get_or next q 0) → (k : ℕ) → k < n → stepped next' o k ≡ stepped next o k
stepped_kept next next' r same zero h = refl
stepped_kept next next' {own} {s} {o} {l} {n} r same (suc k) h =
    ap (λ (q : ℕ). get_or next' q 0) (stepped_kept next next' r same k (omega arith)) ∙ same (stepped next o k) (r.linked k (omega arith)) early
  where
    early : stepped next o k ≢ l
    early e =
        let z : k ≡ n - 1 = walked-distinct next o n r.once k (n - 1) (omega arith) (omega arith) (e ∙ sym (r.last (n - 1) (omega arith))) in
        omega arith

-- where none of its links is changed, it is a ring as before
pub ring-kept :
    (next next' : List ℕ) {own own' : ℕ → ℕ} {s o l n : ℕ} → Ring next own s o l n →
    ((q : ℕ) → own q ≡ s → own' q ≡ s) → ((q : ℕ) → own q ≡ s → get_or next' q 0 ≡ get_or next q 0) → Ring next' own' s o l n
ring-kept next next' {own} {own'} {s} {o} {l} {n} r agree same =
    record {
      some = r.some;
      linked = λ k h. ap own' (walk k h) ∙ agree (stepped next o k) (r.linked k h);
      once = distinct-walked next' o n (λ j k h i e. walked-distinct next o n r.once j k h i (sym (walk j h) ∙ e ∙ walk k i));
      last = λ k e. walk k (omega arith) ∙ r.last k e;
      back = same l (ring-last r) ∙ r.back;
    }
  where
    walk : (k : ℕ) → k < n → stepped next' o k ≡ stepped next o k
    walk = stepped_kept next next' r (λ q e n. same q e)

-- ---- Two rings crossed

module _ (next next' : List ℕ) {own own' : ℕ → ℕ} {s t f o l n o' l' n' : ℕ} (apart : t ≢ f)
    (one : Ring next own t o l n) (two : Ring next own f o' l' n')
    (over : get_or next' l 0 ≡ o') (home : get_or next' l' 0 ≡ o)
    (rest : (q : ℕ) → q ≢ l → q ≢ l' → get_or next' q 0 ≡ get_or next q 0)
    (from_one : (q : ℕ) → own q ≡ t → own' q ≡ s) (from-two : (q : ℕ) → own q ≡ f → own' q ≡ s) where
  first-leg : (k : ℕ) → k < n → stepped next' o k ≡ stepped next o k
  first-leg = stepped_kept next next' one (λ q e early. rest q early (λ i. apart (sym e ∙ ap own i ∙ ring-last two)))

  second-leg : (k : ℕ) → k < n' → stepped next' o' k ≡ stepped next o' k
  second-leg = stepped_kept next next' two (λ q e early. rest q (λ i. apart (sym (sym e ∙ ap own i ∙ ring-last one))) early)

  -- after the one ring the walk is at the other's first point
  crossing : stepped next' o n ≡ o'
  crossing =
      let positive = one.some in
      let size : n ≡ suc (n - 1) = omega arith in
      ap (stepped next' o) size
      ∙ ap (λ (q : ℕ). get_or next' q 0) (first-leg (n - 1) (omega arith) ∙ one.last (n - 1) (omega arith))
      ∙ over

  -- the walk's point number j: of the one ring, or of the other
  leg : (j : ℕ) → j < n + n' →
      ((j < n) × (stepped next' o j ≡ stepped next o j)) ⊎ ((k : ℕ) × (j ≡ n + k) × (k < n') × (stepped next' o j ≡ stepped next o' k))
  leg j h = elim (dec_lt j n) [
    | yes early ↦ inl (early, first-leg j early)
    | no late ↦
        let size : j ≡ n + (j - n) = omega arith in
        inr (
          j - n,
          size,
          omega arith,
          ap (stepped next' o) size ∙ sym (stepped-add next' o n (j - n))
              ∙ ap (λ (q : ℕ). stepped next' q (j - n)) crossing
              ∙ second-leg (j - n) (omega arith),
        )
  ]

  -- no point of the one ring is one of the other
  foreign : (j k : ℕ) → j < n → k < n' → stepped next o j ≢ stepped next o' k
  foreign j k h i e = apart (sym (one.linked j h) ∙ ap own e ∙ two.linked k i)

  pub rings-crossed : Ring next' own' s o l' (n + n')
  rings-crossed =
      record {
        some = let positive = one.some in omega arith;
        linked =
            λ j h.
            ⊎_elim (λ (early, e). ap own' e ∙ from_one (stepped next o j) (one.linked j early))
            (λ (k, size, late, e). ap own' e ∙ from-two (stepped next o' k) (two.linked k late))
            (leg j h);
        once = distinct-walked next' o (n + n') (λ j k h i e. same j k e (leg j h) (leg k i));
        last =
            λ j size.
            ⊎_elim (λ (early, e). let positive = two.some in absurd (omega arith))
            (λ (k, place, late, e). e ∙ two.last k (omega arith))
            (leg j (omega arith));
        back = home;
      }
    where
      same : (j k : ℕ) → stepped next' o j ≡ stepped next' o k →
          ((j < n) × (stepped next' o j ≡ stepped next o j)) ⊎ ((m : ℕ) × (j ≡ n + m) × (m < n') × (stepped next' o j ≡ stepped next o' m)) →
          ((k < n) × (stepped next' o k ≡ stepped next o k)) ⊎ ((m : ℕ) × (k ≡ n + m) × (m < n') × (stepped next' o k ≡ stepped next o' m)) →
          j ≡ k
      same j k e (inl (h, d)) (inl (i, c)) = walked-distinct next o n one.once j k h i (sym d ∙ e ∙ c)
      same j k e (inl (h, d)) (inr (m, size, i, c)) = absurd (foreign j m h i (sym d ∙ e ∙ c))
      same j k e (inr (m, size, h, d)) (inl (i, c)) = absurd (foreign k m i h (sym c ∙ sym e ∙ d))
      same j k e (inr (m, size, h, d)) (inr (m', size', i, c)) =
          let z : m ≡ m' = walked-distinct next o' n' two.once m m' h i (sym d ∙ e ∙ c) in omega arith

-- ---- The ring of a chain

pub used-some : (c : Chain) → used c ≡ true → 0 < c.count
unfolding used
used-some c e = let n : c.count ≢ 0 = eqb-false c.count 0 (not-true (eqb c.count 0) e) in omega arith

pub some-used : (c : Chain) → 0 < c.count → used c ≡ true
unfolding used
some-used c h = ap not (ne_eqb c.count 0 (omega arith))

-- the links of an exact chain are a ring
pub exact-ring : (b : Board) (s : ℕ) → used (chain_in b s) ≡ true → ExactChain b s → RingOf b s (chain_in b s)
exact-ring b s is-used is =
    record { some = used-some (chain_in b s) is-used; linked = is.linked; once = is.once; last = is.last; back = is.back }
