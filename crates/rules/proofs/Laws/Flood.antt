-- On a board, Flood computes what Reach says: the chain of a point, whether a point reaches a colour, and the clearing of a colour.
use Rattle.std.specs.Prelude.{◌≡◌, cond, not, ◌&&◌, ◌↔◌, ◌≢◌, ◌⊎◌, ltb, length}
use Rattle.std.proofs.Math.Path.{refl, subst}
use Rattle.std.proofs.Common.{sym, ap, ◌∙◌, inl, inr}
use Rattle.std.proofs.Math.Bool.{Bool, true, false}
use mathlib.Core.List.Memᴰ.{head}
use mathlib.Core.List.Memᴰ.{not-nil}
use mathlib.Core.List.Memᴰ.{tail}
use mathlib.Core.List.{List, [], ◌∷◌, ◌++◌, Memᴰ}
use mathlib.Core.List.Memᴰ
use mathlib.Core.List.Memᴰ.{append_cases}
use mathlib.Core.List.Memᴰ.{cases_cons}
use mathlib.Core.List.Memᴰ.{eq_of_singleton}
use Rattle.std.proofs.Math.Logic.{⊎_elim}
use Prim.Native.Nat.{ℕ, ◌<◌}
use Rattle.std.proofs.Math.Dec.{eqb}
use borrow.Author.Tests.{eqb-true, eqb-false, eq-eqb, ne_eqb, not-true, ltb-true, ltb-false}
use Rattle.rules.specs.Lists.{below}
use Rattle.rules.specs.Colours.{empty, at}
use Rattle.rules.specs.Points.{area, neighbours}
use Rattle.rules.specs.Reach.{Walk, here, step, Reaches, Clearing}
use Rattle.rules.specs.Flood.{marked, chain, touches, reaches, shores, alive, clear}
use Rattle.rules.proofs.Laws.Lists.{and_left, and_right, and_both, not-both, not_yes, decided, any-yes, any_some}
use Rattle.rules.proofs.Laws.Lists.{length-tabulate, get_or-tabulate-zero, mem_below}
use Rattle.rules.proofs.Laws.Colours.{at-within, at-beyond}
use Rattle.rules.proofs.Laws.Points.{neighbours-sym, neighbours-on, neighbours-from, neighbours-few}
use Rattle.rules.proofs.Laws.Reach.{walk-last, walk-reverse, clearing-unique}
use Rattle.rules.proofs.Laws.Run.{flooded-marks, flooded-length}

pub eqb-means : (col : ℕ → ℕ) (c q : ℕ) → eqb (col q) c ≡ true ↔ col q ≡ c
eqb-means col c q = (eqb-true (col q) c, eq-eqb (col q) c)

module _ (h w : ℕ) (cols : List ℕ) where
  -- ---- The chain of a point

  pub chain_length : (p : ℕ) → length (chain h w cols p) ≡ area h w
  unfolding chain
  chain_length p = flooded-length (neighbours h w) (λ q. eqb (at cols q) (at cols p)) (area h w) (p ∷ []) (neighbours-few h w)

  -- off the board there is nothing to mark
  pub chain-marks : (p q : ℕ) → marked (chain h w cols p) q ≡ true ↔ ((p < area h w) × Walk (neighbours h w) (at cols) (at cols p) p q)
  unfolding chain
  chain-marks p q = (
    λ e.
        let s = flood.0 e in
        subst (λ (x : ℕ). (x < area h w) × Walk (neighbours h w) (at cols) (at cols p) x q) (eq_of_singleton s.1) (s.2, s.3),
    λ t. flood.1 (p, head refl, t.0, t.1),
  )
    where
      flood :
          marked (chain h w cols p) q ≡ true
          ↔ ((s : ℕ) × Memᴰ s (p ∷ []) × (s < area h w) × Walk (neighbours h w) (at cols) (at cols p) s q)
      flood = flooded-marks (eqb-means (at cols) (at cols p)) (area h w) (neighbours-on h w) (neighbours-few h w) (p ∷ []) q

  pub chain-walk : (p q : ℕ) → p < area h w → marked (chain h w cols p) q ≡ true ↔ Walk (neighbours h w) (at cols) (at cols p) p q
  chain-walk p q l = (λ e. ((chain-marks p q).0 e).1, λ v. (chain-marks p q).1 (l, v))

  -- ---- Reaching a colour

  -- a walk that ends on the board began on it
  pub walk_from : {c p q : ℕ} → Walk (neighbours h w) (at cols) c p q → q < area h w → p < area h w
  walk_from (here e) l = l
  walk_from (step {p} {q} e m v) l = neighbours-from h w p q m

  pub touches-true : (c p : ℕ) → touches h w cols c p ≡ true ↔ ((q : ℕ) × Memᴰ q (neighbours h w p) × (at cols q ≡ c))
  unfolding touches
  touches-true c p = (
    λ e. let s = any_some (λ q. eqb (at cols q) c) (neighbours h w p) e in (s.0, s.1, eqb-true (at cols s.0) c s.2),
    λ s. any-yes (λ q. eqb (at cols q) c) s.1 (eq-eqb (at cols s.0) c s.2),
  )

  pub reaches-true : (p c : ℕ) → reaches h w cols p c ≡ true ↔ Reaches (neighbours h w) (at cols) p c
  unfolding reaches
  reaches-true p c = (there, back)
    where
      by : ℕ → Bool
      by q = marked (chain h w cols p) q && touches h w cols c q

      there : reaches h w cols p c ≡ true → Reaches (neighbours h w) (at cols) p c
      there e =
          let (q, m, y) = any_some by (below (area h w)) (and_right (not (eqb (at cols p) c)) _ e) in
          let (t, n, s) = (touches-true c q).0 (and_right (marked (chain h w cols p) q) _ y) in
          record {
            apart = eqb-false _ _ (not-true _ (and_left _ _ e));
            last = q;
            walk = ((chain-marks p q).0 (and_left _ _ y)).1;
            target = t;
            next = n;
            there = s;
          }

      back : Reaches (neighbours h w) (at cols) p c → reaches h w cols p c ≡ true
      back r =
          let l = neighbours-from h w r.last r.target r.next in
          and_both (ap not (ne_eqb (at cols p) c r.apart))
          (any-yes by (mem_below (area h w) r.last l)
          (and_both ((chain-marks p r.last).1 (walk_from r.walk l, r.walk)) ((touches-true c r.last).1 (r.target, r.next, r.there))))

  pub reaches-decided : (p c : ℕ) → Reaches (neighbours h w) (at cols) p c ⊎ ¬ Reaches (neighbours h w) (at cols) p c
  reaches-decided p c =
      ⊎_elim (λ y. inl ((reaches-true p c).0 y)) (λ n. inr (λ r. not-both ((reaches-true p c).1 r) n)) (decided (reaches h w cols p c))

  -- ---- Clearing a colour

  -- the shores are the points beside an empty one of the list
  shores-mem :
      (ps : List ℕ) (s : ℕ) → Memᴰ s (shores h w cols ps) →
      (p : ℕ) × Memᴰ p ps × (at cols p ≡ empty) × Memᴰ s (neighbours h w p)
  unfolding shores
  shores-mem [] s m = absurd (not-nil m)
  shores-mem (p ∷ ps) s m =
      ⊎_elim
      (λ (t : eqb (at cols p) empty ≡ true).
      ⊎_elim
      (λ b. (p, head refl, eqb-true (at cols p) empty t, b))
      (λ n. later (shores-mem ps s n))
      (append_cases (neighbours h w p) (rw t at m)))
      (λ (f : eqb (at cols p) empty ≡ false). later (shores-mem ps s (rw f at m)))
      (decided (eqb (at cols p) empty))
    where
      later :
          (q : ℕ) × Memᴰ q ps × (at cols q ≡ empty) × Memᴰ s (neighbours h w q) →
          (q : ℕ) × Memᴰ q (p ∷ ps) × (at cols q ≡ empty) × Memᴰ s (neighbours h w q)
      later f = (f.0, tail f.1, f.2, f.3)

  mem-shores :
      (ps : List ℕ) (s p : ℕ) → Memᴰ p ps → at cols p ≡ empty → Memᴰ s (neighbours h w p) → Memᴰ s (shores h w cols ps)
  unfolding shores
  mem-shores [] s p i e b = absurd (not-nil i)
  mem-shores (q ∷ ps) s p i e b =
      ⊎_elim
      (λ same.
      let t : eqb (at cols q) empty ≡ true = eq-eqb (at cols q) empty (subst (λ (x : ℕ). at cols x ≡ empty) same e) in
      rw t (Memᴰ.append_left (shores h w cols ps) (subst (λ (x : ℕ). Memᴰ s (neighbours h w x)) same b)))
      (λ j. later (eqb (at cols q) empty) (mem-shores ps s p j e b))
      (cases_cons i)
    where
      later : (t : Bool) → Memᴰ s (shores h w cols ps) → Memᴰ s (cond t (neighbours h w q ++ shores h w cols ps) (shores h w cols ps))
      later true m = Memᴰ.append_right (neighbours h w q) m
      later false m = m

  pub alive-reaches :
      (c : ℕ) → c ≢ empty →
      (p : ℕ) → marked (alive h w c cols) p ≡ true ↔ ((at cols p ≡ c) × Reaches (neighbours h w) (at cols) p empty)
  unfolding alive
  alive-reaches c stone p = (there, back)
    where
      flood :
          marked (alive h w c cols) p ≡ true
          ↔ ((s : ℕ) × Memᴰ s (shores h w cols (below (area h w))) × (s < area h w) × Walk (neighbours h w) (at cols) c s p)
      flood = flooded-marks (eqb-means (at cols) c) (area h w) (neighbours-on h w) (neighbours-few h w) (shores h w cols (below (area h w))) p

      there : marked (alive h w c cols) p ≡ true → (at cols p ≡ c) × Reaches (neighbours h w) (at cols) p empty
      there y =
          let (s, m, l, v) = flood.0 y in
          let (t, i, e, b) = shores-mem (below (area h w)) s m in
          let k = walk-last v in (
            k,
            record {
              apart = λ z. stone (sym k ∙ z);
              last = s;
              walk = subst (λ (x : ℕ). Walk (neighbours h w) (at cols) x p s) (sym k) (walk-reverse (neighbours-sym h w) v);
              target = t;
              next = neighbours-sym h w t s b;
              there = e;
            },
          )

      back : (at cols p ≡ c) × Reaches (neighbours h w) (at cols) p empty → marked (alive h w c cols) p ≡ true
      back t =
          let r = t.1 in
          let i = mem_below (area h w) r.target (neighbours-on h w r.last r.target r.next) in
          let b = neighbours-sym h w r.last r.target r.next in
          flood.1 (
            r.last,
            mem-shores (below (area h w)) r.last r.target i r.there b,
            neighbours-from h w r.last r.target r.next,
            subst (λ (x : ℕ). Walk (neighbours h w) (at cols) x r.last p) t.0 (walk-reverse (neighbours-sym h w) r.walk),
          )

  pub clear-length : (c : ℕ) → length (clear h w c cols) ≡ area h w
  unfolding clear
  clear-length c = length-tabulate _ 0 (area h w)

  pub clear_at :
      (c p : ℕ) → p < area h w →
      at (clear h w c cols) p ≡ cond (eqb (at cols p) c && not (marked (alive h w c cols) p)) empty (at cols p)
  unfolding clear at
  clear_at c p l = get_or-tabulate-zero _ (area h w) p empty l

  module _ (whole : length cols ≡ area h w) (c : ℕ) (stone : c ≢ empty) where
    stone-on : (p : ℕ) → at cols p ≡ c → p < area h w
    stone-on p e = rw whole at (at-within cols p (λ z. stone (sym e ∙ z)))

    pub clear-clearing : Clearing (neighbours h w) (at cols) c (at (clear h w c cols))
    clear-clearing = record { emptied = emptied; alive = kept; others = others }
      where
        emptied : (p : ℕ) → at cols p ≡ c → ¬ Reaches (neighbours h w) (at cols) p empty → at (clear h w c cols) p ≡ empty
        emptied p e n =
            let dead : marked (alive h w c cols) p ≡ false = not_yes (λ y. n ((alive-reaches c stone p).0 y).1) in
            clear_at c p (stone-on p e) ∙ rw (eq-eqb (at cols p) c e, dead)

        kept : (p : ℕ) → at cols p ≡ c → Reaches (neighbours h w) (at cols) p empty → at (clear h w c cols) p ≡ c
        kept p e r = clear_at c p (stone-on p e) ∙ rw (eq-eqb (at cols p) c e, (alive-reaches c stone p).1 (e, r)) e

        others : (p : ℕ) → at cols p ≢ c → at (clear h w c cols) p ≡ at cols p
        others p n =
            ⊎_elim
            (λ t. clear_at c p (ltb-true p (area h w) t) ∙ rw (ne_eqb (at cols p) c n))
            (λ f.
            let off = ltb-false p (area h w) f in
            at-beyond (clear h w c cols) p (rw (clear-length c) off) ∙ sym (at-beyond cols p (rw whole off)))
            (decided (ltb p (area h w)))

    pub clearing-clear : {after : ℕ → ℕ} → Clearing (neighbours h w) (at cols) c after → (p : ℕ) → after p ≡ at (clear h w c cols) p
    clearing-clear k p = clearing-unique k clear-clearing p
