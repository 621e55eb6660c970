-- Laws of remove: the points of the chain are owned by none, every chain beside gains those of them that lie beside its stones, and
-- nothing else changes. So the table stays exact.
use Rattle.std.proofs.Math.Bool.{Bool, true, cond, and-false, or-false, or_self, or_assoc, and-or_distrib_right}
use Rattle.std.specs.Prelude.{false, ◌&&◌, ◌||◌, ◌≡◌, refl, ◌≢◌, ltb, get_or, set}
use Rattle.std.proofs.Math.Path.{sym, ap, ap₂, fun_ext}
use Rattle.std.proofs.Common.{◌∙◌}
use mathlib.Core.List.Memᴰ
use mathlib.Core.List.Memᴰ.{head}
use mathlib.Core.List.Memᴰ.{tail}
use mathlib.Core.List.{List, [], ◌∷◌, Memᴰ}
use Rattle.std.proofs.Math.Logic.{⊎_elim}
use Prim.Native.Nat.{ℕ, ◌≤◌, ◌<◌}
use native.Mathlib.Omega.{arith}
use Rattle.std.specs.Int.Bits.{bit_xor}
use Rattle.std.proofs.Math.Dec.{eqb}
use Rattle.std.proofs.Math.ListN.{length, length-set, get_or-eq_default}
use Rattle.std.proofs.Math.Seq.{get_or-set_same, get_or-set_other, ext_get_or}
use borrow.Author.Tests.{eqb-true, eq-eqb, ne_eqb, lt-ltb, ltb-true, ltb-false}
use Rattle.rules.specs.Sizes.{max_area, slots}
use Rattle.rules.specs.Lists.{any, below, has, Distinct}
use Rattle.rules.specs.Points.{area, neighbours}
use Rattle.rules.specs.Colours.{empty, at}
use Rattle.rules.specs.Hash.{stone_hash, hash}
use Rattle.rules.proofs.Laws.Lists.{decided, equal_or_not, mem-has, has-mem, not_yes, not-both, or_left, or_right, get_or-tabulate-zero}
use Rattle.rules.proofs.Laws.Counting.{count_same}
use Rattle.rules.proofs.Laws.Hash.{hash-emptied}
use Rattle.rules.proofs.Laws.Reach.{walk-agree}
use Rattle.chains.specs.declared.group.Chain.{Chain}
use Rattle.chains.specs.Group.{used, free_chain}
use Rattle.sets.specs.Liberties.{set_of, added}
use Rattle.sets.specs.Liberties as sets
use Rattle.sets.specs.Laws.Liberties.{added-set_of, set_of-ext}
use Rattle.chains.specs.Laws.Group.{free-unused}
use Rattle.chains.specs.Walk.{stepped}
use Rattle.board.specs.declared.goban.Board.{Board}
use Rattle.board.specs.Board.{owner, chain_in, colour_at, colours_of}
use Rattle.board.specs.True.{ExactTable, ExactChain, Shaped, liberty_of}
use Rattle.board.specs.Laws.Board.{no-chain, length-colours, at-colours}
use Rattle.steps.specs.Steps.{gains, in_slot, owning, gaining, gaining_all, unhashed, remove}
use Rattle.steps.specs.Laws.Put.{in_slot-at, length-in_slot}
use Rattle.steps.specs.Laws.Ring.{ring, ring-owned, ring-all, owner-owning, length-owning, owned-on, owned-within, owning-out, owning-in}

-- ---- Two chains that differ in their liberties alone

pub record Alike (c d : Chain) : Type 0 where
  pub colour : c.colour ≡ d.colour
  pub origin : c.origin ≡ d.origin
  pub last : c.last ≡ d.last
  pub count : c.count ≡ d.count

alike_self : {c d : Chain} → c ≡ d → Alike c d
alike_self e = record {
  colour = ap (λ c. c.colour) e;
  origin = ap (λ c. c.origin) e;
  last = ap (λ c. c.last) e;
  count = ap (λ c. c.count) e;
}

alike-trans : {c d e : Chain} → Alike c d → Alike d e → Alike c e
alike-trans a b = record {
  colour = a.colour ∙ b.colour;
  origin = a.origin ∙ b.origin;
  last = a.last ∙ b.last;
  count = a.count ∙ b.count;
}

alike-gains : (x : Bool) (p : ℕ) (c : Chain) → Alike (cond x (gains p c) c) c
unfolding gains
alike-gains true p c = record { colour = refl; origin = refl; last = refl; count = refl }
alike-gains false p c = alike_self refl

pub alike-used : {c d : Chain} → Alike c d → used c ≡ used d
unfolding used
alike-used a = rw a.count

-- ---- One slot of the table after a gain

-- a liberty gained twice is gained once
added-added : (l : List ℕ) (p : ℕ) → added (added l p) p ≡ added l p
unfolding added
added-added l p =
    added-set_of (λ q. sets.has l q || (eqb q p && ltb p max_area)) p
    ∙ set_of-ext (λ q. sets.has l q || (eqb q p && ltb p max_area) || (eqb q p && ltb p max_area)) (λ q. sets.has l q || (eqb q p && ltb p max_area))
    (λ q h. or_assoc (sets.has l q) (eqb q p && ltb p max_area) (eqb q p && ltb p max_area) ∙ ap (λ (x : Bool). sets.has l q || x) (or_self (eqb q p && ltb p max_area)))

gains-gains : (p : ℕ) (c : Chain) → gains p (gains p c) ≡ gains p c
unfolding gains
gains-gains p c = λ i.
    record { liberties = added-added c.liberties p i; colour = c.colour; origin = c.origin; last = c.last; count = c.count }

twice :
    (x a : Bool) (g : Chain → Chain) (c : Chain) → g (g c) ≡ g c
    → cond x (g (cond a (g c) c)) (cond a (g c) c) ≡ cond (a || x) (g c) c
twice true true g c e = e
twice false true g c e = refl
twice true false g c e = refl
twice false false g c e = refl

-- the liberties of a chain that gains p or not
one-gained :
    (x : Bool) (p : ℕ) (c : Chain) (f : ℕ → Bool) → p < max_area → c.liberties ≡ set_of f
    → (cond x (gains p c) c).liberties ≡ set_of (λ q. f q || (eqb q p && x))
unfolding gains
one-gained true p c f on e =
    ap (λ (l : List ℕ). added l p) e ∙ added-set_of f p
    ∙ set_of-ext (λ q. f q || (eqb q p && ltb p max_area)) (λ q. f q || (eqb q p && true))
    (λ q h. ap (λ (x : Bool). f q || (eqb q p && x)) (lt-ltb p max_area on))
one-gained false p c f on e =
    e ∙ set_of-ext f (λ q. f q || (eqb q p && false)) (λ q h. sym (ap (λ (x : Bool). f q || x) (and-false (eqb q p)) ∙ or-false (f q)))

-- the first of the points, and the others
first-or-others :
    (a e m x y : Bool) → (e ≡ true → x ≡ y) → (a || (e && x) || (m && y)) ≡ (a || ((e || m) && y))
first-or-others true e m x y h = refl
first-or-others false false m x y h = refl
first-or-others false true m x true h = ap (λ (z : Bool). z || (m && true)) (h refl)
first-or-others false true m x false h = ap (λ (z : Bool). z || (m && false)) (h refl) ∙ and-false m

module _ (own : ℕ → ℕ) (s : ℕ) where
  length-step : (x : Bool) (p t : ℕ) (cs : List Chain) → length (cond x cs (in_slot (gains p) t cs)) ≡ length cs
  length-step true p t cs = refl
  length-step false p t cs = length-in_slot (gains p) t cs

  pub length-gaining : (p : ℕ) (qs : List ℕ) (cs : List Chain) → length (gaining own s p qs cs) ≡ length cs
  length-gaining p [] cs = refl
  length-gaining p (q ∷ qs) cs = length-gaining p qs _ ∙ length-step (eqb (own q) s) p (own q) cs

  pub length-gaining_all : (beside : ℕ → List ℕ) (ps : List ℕ) (cs : List Chain) → length (gaining_all own beside s ps cs) ≡ length cs
  length-gaining_all beside [] cs = refl
  length-gaining_all beside (p ∷ ps) cs = length-gaining_all beside ps _ ∙ length-gaining p (beside p) cs

  module _ (u : ℕ) (apart : u ≢ s) where
    gaining-step :
        (p q : ℕ) (cs : List Chain) → u < length cs
        → get_or (cond (eqb (own q) s) cs (in_slot (gains p) (own q) cs)) u free_chain
        ≡ cond (eqb (own q) u) (gains p (get_or cs u free_chain)) (get_or cs u free_chain)
    gaining-step p q cs h =
        ⊎_elim
        (λ (e : own q ≡ s). rw (eq-eqb (own q) s e, ne_eqb (own q) u (λ f. apart (sym f ∙ e))))
        (λ (n : own q ≢ s). rw (ne_eqb (own q) s n) (in_slot-at (gains p) (own q) cs u h))
        (equal_or_not (own q) s)

    -- the chain gains p if it owns one of the points
    gaining-at :
        (p : ℕ) (qs : List ℕ) (cs : List Chain) → u < length cs
        → get_or (gaining own s p qs cs) u free_chain
        ≡ cond (any (λ r. eqb (own r) u) qs) (gains p (get_or cs u free_chain)) (get_or cs u free_chain)
    gaining-at p [] cs h = refl
    gaining-at p (q ∷ qs) cs h =
        gaining-at p qs (cond (eqb (own q) s) cs (in_slot (gains p) (own q) cs)) (rw (length-step (eqb (own q) s) p (own q) cs) h)
        ∙ ap (λ (c : Chain). cond (any (λ r. eqb (own r) u) qs) (gains p c) c) (gaining-step p q cs h)
        ∙ twice (any (λ r. eqb (own r) u) qs) (eqb (own q) u) (gains p) (get_or cs u free_chain) (gains-gains p (get_or cs u free_chain))

    module _ (beside : ℕ → List ℕ) where
      gained-alike :
          (ps : List ℕ) (cs : List Chain) → u < length cs → Alike (get_or (gaining_all own beside s ps cs) u free_chain) (get_or cs u free_chain)
      gained-alike [] cs h = alike_self refl
      gained-alike (p ∷ ps) cs h =
          alike-trans (gained-alike ps (gaining own s p (beside p) cs) (rw (length-gaining p (beside p) cs) h))
          (alike-trans (alike_self (gaining-at p (beside p) cs h)) (alike-gains (any (λ r. eqb (own r) u) (beside p)) p (get_or cs u free_chain)))

      -- the points that lie beside what it owns come to its liberties
      gained-liberties :
          (f : ℕ → Bool) (ps : List ℕ) (cs : List Chain) → u < length cs → ((p : ℕ) → Memᴰ p ps → p < max_area)
          → (get_or cs u free_chain).liberties ≡ set_of f
          → (get_or (gaining_all own beside s ps cs) u free_chain).liberties
          ≡ set_of (λ q. f q || (has ps q && any (λ r. eqb (own r) u) (beside q)))
      unfolding has
      gained-liberties f [] cs h on e = e ∙ set_of-ext f (λ q. f q || false) (λ q l. sym (or-false (f q)))
      gained-liberties f (p ∷ ps) cs h on e =
          gained-liberties (λ q. f q || (eqb q p && touches p)) ps (gaining own s p (beside p) cs) (rw (length-gaining p (beside p) cs) h)
          (λ x m. on x (tail m))
          (ap (λ c. c.liberties) (gaining-at p (beside p) cs h) ∙ one-gained (touches p) p (get_or cs u free_chain) f (on p (head refl)) e)
          ∙ set_of-ext (λ q. f q || (eqb q p && touches p) || (any (eqb q) ps && touches q)) (λ q. f q || ((eqb q p || any (eqb q) ps) && touches q))
          (λ q l. first-or-others (f q) (eqb q p) (any (eqb q) ps) (touches p) (touches q) (λ y. ap touches (sym (eqb-true q p y))))
        where
          touches : ℕ → Bool
          touches q = any (λ r. eqb (own r) u) (beside q)

-- ---- The hash without the stones

unhashed-emptied :
    (c : ℕ) (ps cols : List ℕ) → Distinct ps → ((p : ℕ) → Memᴰ p ps → (p < length cols) × (at cols p ≡ c))
    → unhashed c ps (hash cols) ≡ hash (owning empty ps cols)
unfolding at
unhashed-emptied c [] cols once on = refl
unhashed-emptied c (p ∷ ps) cols (out, once) on =
    ap (unhashed c ps)
    (ap (λ (x : ℕ). bit_xor (hash cols) (stone_hash p x)) (sym (on p (head refl)).1) ∙ sym (hash-emptied cols p (on p (head refl)).0))
    ∙ unhashed-emptied c ps (set cols p empty) once
    (λ q m. (
      rw (length-set cols p empty) (on q (tail m)).0,
      get_or-set_other cols p q empty empty (λ e. out (Memᴰ.cast (sym e) m)) ∙ (on q (tail m)).1,
    ))

-- ---- A chain that keeps its points and links is exact if its liberties are

module _ (b : Board) (hash' : ℕ) (owners : List ℕ) (chains : List Chain) where
  abbrev relabelled : Board
  relabelled = record { height = b.height; width = b.width; hash = hash'; owners = owners; next = b.next; chains = chains }

  pub exact-kept :
      (u : ℕ) → Alike (chain_in relabelled u) (chain_in b u) → ((p : ℕ) → owner b p ≡ u → owner relabelled p ≡ u)
      → ((p : ℕ) → owner relabelled p ≡ u → owner b p ≡ u) → (chain_in relabelled u).liberties ≡ set_of (liberty_of relabelled u)
      → ExactChain b u → ExactChain relabelled u
  exact-kept u a to from free e = record {
    colour = rw a.colour e.colour;
    origin = rw a.origin (to (chain_in b u).origin e.origin);
    least = λ p o. rw a.origin (e.least p (from p o));
    connected = λ p o. rw a.origin (walk-agree to (e.connected p (from p o)));
    counted =
        a.count ∙ e.counted
        ∙ count_same (λ p. eqb (owner b p) u) (λ p. eqb (owner relabelled p) u) (below (area b.height b.width))
        (λ p m. same-owner p);
    linked = λ k l. rw a.origin (to (stepped b.next (chain_in b u).origin k) (e.linked k (rw a.count at l)));
    once = rw (a.origin, a.count) e.once;
    last = λ k l. rw (a.origin, a.last) (e.last k (l ∙ a.count));
    back = rw (a.last, a.origin) e.back;
    liberties = free;
  }
    where
      same-owner : (p : ℕ) → eqb (owner b p) u ≡ eqb (owner relabelled p) u
      same-owner p =
          ⊎_elim (λ o. eq-eqb (owner b p) u o ∙ sym (eq-eqb (owner relabelled p) u (to p o)))
          (λ n. ne_eqb (owner b p) u n ∙ sym (ne_eqb (owner relabelled p) u (λ o. n (from p o))))
          (equal_or_not (owner b p) u)

-- ---- The board without the chain in slot s

-- the table with the liberties gained, before the slot is freed
abbrev gained : Board → ℕ → List Chain
gained b s = gaining_all (owner b) (neighbours b.height b.width) s (ring b s) b.chains

pub height-remove : (b : Board) (s : ℕ) → (remove b s).height ≡ b.height
unfolding remove
height-remove b s = refl

pub width-remove : (b : Board) (s : ℕ) → (remove b s).width ≡ b.width
unfolding remove
width-remove b s = refl

module _ (b : Board) (is : ExactTable b) (s : ℕ) (low : s < slots) (is-used : used (chain_in b s) ≡ true) where
  pub owner-remove : (q : ℕ) → owner (remove b s) q ≡ cond (eqb (owner b q) s) slots (owner b q)
  unfolding owner remove
  owner-remove q = owner-owning b is s low is-used slots q

  pub owner-gone : (q : ℕ) → owner b q ≡ s → owner (remove b s) q ≡ slots
  owner-gone q e = owner-remove q ∙ ap (λ (x : Bool). cond x slots (owner b q)) (eq-eqb (owner b q) s e)

  pub owner-other : (q : ℕ) → owner b q ≢ s → owner (remove b s) q ≡ owner b q
  owner-other q n = owner-remove q ∙ ap (λ (x : Bool). cond x slots (owner b q)) (ne_eqb (owner b q) s n)

  -- another slot owns what it did
  pub owner-kept : (u q : ℕ) → u ≢ s → owner b q ≡ u → owner (remove b s) q ≡ u
  owner-kept u q apart e = owner-other q (λ f. apart (sym e ∙ f)) ∙ e

  pub owner-from : (u q : ℕ) → u ≢ slots → owner (remove b s) q ≡ u → owner b q ≡ u
  owner-from u q some e =
      ⊎_elim (λ f. absurd (some (sym e ∙ owner-gone q f))) (λ n. sym (owner-other q n) ∙ e) (equal_or_not (owner b q) s)

  long : length (gained b s) ≡ slots
  long = length-gaining_all (owner b) s (neighbours b.height b.width) (ring b s) b.chains ∙ is.shape.chains

  pub chain-gone : chain_in (remove b s) s ≡ free_chain
  unfolding chain_in remove
  chain-gone =
      get_or-set_same (gained b s) s free_chain free_chain
      (omega (arith, long))

  pub used-gone : used (chain_in (remove b s) s) ≡ false
  used-gone = ap used chain-gone ∙ free-unused

  chain-other :
      (u : ℕ) → u ≢ s
      → chain_in (remove b s) u ≡ get_or (gained b s) u free_chain
  unfolding chain_in remove
  chain-other u apart =
      get_or-set_other (gained b s) s u free_chain free_chain apart

  -- any other chain is as it was but for its liberties
  pub chain-alike : (u : ℕ) → u ≢ s → Alike (chain_in (remove b s) u) (chain_in b u)
  unfolding chain_in
  chain-alike u apart =
      alike-trans (alike_self (chain-other u apart))
      (⊎_elim
      (λ t. gained-alike (owner b) s u apart (neighbours b.height b.width) (ring b s) b.chains (ltb-true u (length b.chains) t))
      (λ f.
      let off : length b.chains ≤ u = ltb-false u (length b.chains) f in
      let off' : length (gained b s) ≤ u = omega (arith, long, is.shape.chains) in
      alike_self (get_or-eq_default (gained b s) free_chain off' ∙ sym (get_or-eq_default b.chains free_chain off)))
      (decided (ltb u (length b.chains))))

  pub used-kept : (u : ℕ) → u ≢ s → used (chain_in (remove b s) u) ≡ used (chain_in b u)
  used-kept u apart = alike-used (chain-alike u apart)

  pub shape-remove : Shaped (remove b s)
  unfolding remove
  shape-remove = record {
    owners = length-owning slots (ring b s) b.owners ∙ is.shape.owners;
    links = is.shape.links;
    chains = length-set (gained b s) s free_chain ∙ long;
  }

  pub colour-remove : (q : ℕ) → colour_at (remove b s) q ≡ cond (eqb (owner b q) s) empty (colour_at b q)
  unfolding colour_at free_chain
  colour-remove q =
      ⊎_elim
      (λ e. ap (λ (t : ℕ). (chain_in (remove b s) t).colour) (owner-gone q e) ∙ ap (λ c. c.colour) (no-chain (remove b s) shape-remove)
      ∙ sym (ap (λ (x : Bool). cond x empty (colour_at b q)) (eq-eqb (owner b q) s e)))
      (λ n. ap (λ (t : ℕ). (chain_in (remove b s) t).colour) (owner-other q n) ∙ (chain-alike (owner b q) n).colour
      ∙ sym (ap (λ (x : Bool). cond x empty (colour_at b q)) (ne_eqb (owner b q) s n)))
      (equal_or_not (owner b q) s)

  -- ---- Liberties

  same-owner : (u q : ℕ) → u ≢ s → u ≢ slots → eqb (owner (remove b s) q) u ≡ eqb (owner b q) u
  same-owner u q apart some =
      ⊎_elim (λ e. eq-eqb (owner (remove b s) q) u (owner-kept u q apart e) ∙ sym (eq-eqb (owner b q) u e))
      (λ n. ne_eqb (owner (remove b s) q) u (λ e. n (owner-from u q some e)) ∙ sym (ne_eqb (owner b q) u n))
      (equal_or_not (owner b q) u)

  -- a point is free after if it was, or if the chain stood on it
  free-remove : (q : ℕ) → eqb (owner (remove b s) q) slots ≡ (eqb (owner b q) slots || eqb (owner b q) s)
  free-remove q =
      ⊎_elim
      (λ e. eq-eqb (owner (remove b s) q) slots (owner-gone q e) ∙ sym (or_right (eqb (owner b q) slots) (eq-eqb (owner b q) s e)))
      (λ n. ap (λ (t : ℕ). eqb t slots) (owner-other q n)
      ∙ sym (ap (λ (x : Bool). eqb (owner b q) slots || x) (ne_eqb (owner b q) s n) ∙ or-false (eqb (owner b q) slots)))
      (equal_or_not (owner b q) s)

  -- another chain has the liberties that it had, and those of the removed stones that lie beside it
  pub liberty-remove :
      (u q : ℕ) → u ≢ s → u ≢ slots
      → liberty_of (remove b s) u q ≡ (liberty_of b u q || (eqb (owner b q) s && any (λ r. eqb (owner b r) u) (neighbours b.height b.width q)))
  unfolding liberty_of remove
  liberty-remove u q apart some =
      ap₂ (λ (x : Bool) (f : ℕ → Bool). x && any f (neighbours b.height b.width q)) (free-remove q) (fun_ext (λ r. same-owner u r apart some))
      ∙ and-or_distrib_right (eqb (owner b q) slots) (eqb (owner b q) s) (any (λ r. eqb (owner b r) u) (neighbours b.height b.width q))

  -- so it only gains
  pub liberty-kept : (u q : ℕ) → u ≢ s → u ≢ slots → liberty_of b u q ≡ true → liberty_of (remove b s) u q ≡ true
  liberty-kept u q apart some y =
      liberty-remove u q apart some
      ∙ or_left (eqb (owner b q) s && any (λ r. eqb (owner b r) u) (neighbours b.height b.width q)) y

  has-ring : (q : ℕ) → has (ring b s) q ≡ eqb (owner b q) s
  has-ring q =
      ⊎_elim (λ e. mem-has (ring-all b is s low is-used q e) ∙ sym (eq-eqb (owner b q) s e))
      (λ n. not_yes (λ y. n (ring-owned b is s low is-used (has-mem (ring b s) q y))) ∙ sym (ne_eqb (owner b q) s n))
      (equal_or_not (owner b q) s)

  pub liberties-remove :
      (u : ℕ) → u ≢ s → u < slots → used (chain_in b u) ≡ true
      → (chain_in (remove b s) u).liberties ≡ set_of (liberty_of (remove b s) u)
  unfolding chain_in
  liberties-remove u apart l y =
      ap (λ c. c.liberties) (chain-other u apart)
      ∙ gained-liberties (owner b) s u apart (neighbours b.height b.width) (liberty_of b u) (ring b s) b.chains (omega (arith, is.shape.chains))
      (λ p m. owned-within b is s low is-used p (ring-owned b is s low is-used m)) (is.exact u l y).liberties
      ∙ set_of-ext _ (liberty_of (remove b s) u)
      (λ q h. ap (λ (x : Bool). liberty_of b u q || (x && any (λ r. eqb (owner b r) u) (neighbours b.height b.width q))) (has-ring q)
      ∙ sym (liberty-remove u q apart (λ z. omega arith)))

  -- ---- The colours and the hash

  -- the colours with those stones gone
  pub colours-remove : colours_of (remove b s) ≡ owning empty (ring b s) (colours_of b)
  unfolding colours_of remove
  colours-remove =
      ext_get_or empty (colours_of (remove b s)) (owning empty (ring b s) (colours_of b)) (wide ∙ sym (length-owning empty (ring b s) (colours_of b) ∙ length-colours b))
      (λ q h.
      let on : q < area b.height b.width = rw wide at h in
      get_or-tabulate-zero (colour_at (remove b s)) (area b.height b.width) q empty on ∙ colour-remove q ∙ sym (emptied q on))
    where
      wide : length (colours_of (remove b s)) ≡ area b.height b.width
      wide = length-colours (remove b s)

      emptied : (q : ℕ) → q < area b.height b.width → get_or (owning empty (ring b s) (colours_of b)) q empty ≡ cond (eqb (owner b q) s) empty (colour_at b q)
      emptied q on =
          ⊎_elim
          (λ e. owning-in empty (ring b s) (colours_of b) q empty (omega (arith, length-colours b)) (ring-all b is s low is-used q e)
          ∙ sym (ap (λ (x : Bool). cond x empty (colour_at b q)) (eq-eqb (owner b q) s e)))
          (λ n. owning-out empty (ring b s) (colours_of b) q empty (λ m. n (ring-owned b is s low is-used m))
          ∙ get_or-tabulate-zero (colour_at b) (area b.height b.width) q empty on
          ∙ sym (ap (λ (x : Bool). cond x empty (colour_at b q)) (ne_eqb (owner b q) s n)))
          (equal_or_not (owner b q) s)

  pub hash-remove : (remove b s).hash ≡ hash (colours_of (remove b s))
  unfolding remove colour_at
  hash-remove =
      ap (unhashed (chain_in b s).colour (ring b s)) is.hashed
      ∙ unhashed-emptied (chain_in b s).colour (ring b s) (colours_of b) (is.exact s low is-used).once
      (λ p m.
      let o = ring-owned b is s low is-used m in
      let on = owned-on b is s low is-used p o in
      (omega (arith, length-colours b), at-colours b is p ∙ ap (λ (t : ℕ). (chain_in b t).colour) o))
      ∙ ap hash (sym colours-remove)

  -- ---- The table

  pub exact-remove : ExactTable (remove b s)
  unfolding remove
  exact-remove = record {
    size = is.size;
    shape = shape-remove;
    owned = λ p n.
        let stays : owner b p ≢ s = λ e. n (owner-gone p e) in
        let same : owner (remove b s) p ≡ owner b p = owner-other p stays in
        let (on, below, y) = is.owned p (λ e. n (same ∙ e)) in
        (on, rw same below, rw same (used-kept (owner b p) stays ∙ y));
    exact = λ u l y.
        let apart : u ≢ s = λ e. not-both y (ap (λ (t : ℕ). used (chain_in (remove b s) t)) e ∙ used-gone) in
        let some : u ≢ slots = λ e. omega arith in
        let was : used (chain_in b u) ≡ true = sym (used-kept u apart) ∙ y in
        exact-kept b (remove b s).hash (remove b s).owners (remove b s).chains u (chain-alike u apart) (λ p e. owner-kept u p apart e)
        (λ p e. owner-from u p some e) (liberties-remove u apart l was) (is.exact u l was);
    hashed = hash-remove;
  }
