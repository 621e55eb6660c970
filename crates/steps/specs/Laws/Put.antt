-- Laws of put: a stone put as a chain of its own on an empty point leaves an exact table. The new chain owns that point alone, every
-- other chain is as it was but for that liberty, and the colours are those of the move.
use Rattle.std.specs.Prelude.{◌≡◌, Bool, ◌&&◌, ◌||◌, ◌≢◌, length, set}
use Rattle.std.proofs.Math.Path.{refl, sym, ap, subst, fun_ext}
use Rattle.std.proofs.Common.{◌∙◌, arith}
use Rattle.std.proofs.Math.Bool.{true, false, cond, not, or_assoc}
use mathlib.Core.List.{List, [], ◌∷◌, ◌++◌, Memᴰ}
use Rattle.std.proofs.Math.Logic.{⊎_elim}
use Prim.Native.Nat.{ℕ, ◌+◌, ◌-◌, ◌≤◌, ◌<◌}
use Rattle.std.proofs.Math.Dec.{eqb, ltb}
use Rattle.std.specs.Int.Bits.{bit_xor}
use Rattle.std.proofs.Math.ListN.{get_or, length-set}
use Rattle.std.proofs.Math.Seq.{set_out, get_or-set_same, get_or-set_other, ext_get_or}
use borrow.Author.Tests.{eqb-true, eqb-false, eq-eqb, ne_eqb, lt-ltb, not-true}
use Rattle.rules.specs.Sizes.{max_area, slots}
use Rattle.rules.specs.Lists.{tabulate, any, count, below, Distinct}
use Rattle.rules.specs.Points.{area, neighbours}
use Rattle.rules.specs.Reach.{Walk, here}
use Rattle.rules.specs.Hash.{stone_hash, hash}
use Rattle.rules.specs.Move.{coloured}
use Rattle.rules.specs.Game.{Player}
use Rattle.rules.proofs.Laws.Lists.{and_left, and_right, and_both, not-both, equal_or_not, any-yes, any_some, mem_below, get_d_set, get_d_default, get_or-tabulate-zero, same_answer}
use Rattle.rules.proofs.Laws.Counting.{below-distinct, count-equal}
use Rattle.rules.proofs.Laws.Points.{neighbours-sym, neighbours-on, neighbours-not-self}
use Rattle.rules.proofs.Laws.Reach.{walk-agree}
use Rattle.rules.proofs.Laws.Hash.{hash-put}
use Rattle.chains.specs.declared.group.Chain.{Chain}
use Rattle.sets.specs.Liberties as sets
use Rattle.sets.specs.Liberties.{set_of, removed, none}
use Rattle.chains.specs.Group.{used, free_chain, new_chain}
use Rattle.chains.specs.Walk.{stepped, walked}
use Rattle.rules.proofs.Laws.Places.{tabulate-ext}
use Rattle.sets.specs.Laws.Liberties.{set_of-ext, added-set_of, removed-set_of}
use Rattle.chains.specs.Laws.Group.{new-used}
use Rattle.chains.specs.Laws.Walk.{stepped-set}
use Rattle.board.specs.declared.goban.Board.{Board}
use Rattle.board.specs.Board.{owner, chain_in, colour_at, colours_of}
use Rattle.board.specs.True.{liberty_of, ExactChain, Shaped, ExactTable}
use Rattle.board.specs.Laws.Board.{area-fits, length-colours, no-chain, empty-unowned, at-colours}
use Rattle.steps.specs.Steps.{loses, in_slot, losing, openings, put}
use Rattle.steps.specs.Putting.{Putting}

-- ---- Tests

and_again : (a b : Bool) → (a && b && b) ≡ (a && b)
and_again true true = refl
and_again true false = refl
and_again false b = refl

or-never : (a b : Bool) → a ≡ (a || (b && false))
or-never true b = refl
or-never false true = refl
or-never false false = refl

and-never : (a : Bool) {b : Bool} → b ≡ false → (a && b) ≡ false
and-never true e = e
and-never false e = refl

and-taken : (a : Bool) {b : Bool} → b ≡ true → (a && not b) ≡ false
and-taken a e = and-never a (ap not e)

and_kept : (a : Bool) {b : Bool} → b ≡ false → (a && not b) ≡ a
and_kept true e = ap not e
and_kept false e = refl

-- ---- The table with one chain changed

pub length-in_slot : (f : Chain → Chain) (s : ℕ) (cs : List Chain) → length (in_slot f s cs) ≡ length cs
unfolding in_slot
length-in_slot f s cs = length-set cs s (f (get_or cs s free_chain))

pub in_slot-at :
    (f : Chain → Chain) (s : ℕ) (cs : List Chain) (t : ℕ) → t < length cs →
    get_or (in_slot f s cs) t free_chain ≡ cond (eqb s t) (f (get_or cs t free_chain)) (get_or cs t free_chain)
unfolding in_slot
in_slot-at f s cs t h =
    ⊎_elim
    (λ e.
    ap (λ (k : ℕ). get_or (set cs k (f (get_or cs k free_chain))) t free_chain) e ∙ get_or-set_same cs t (f (get_or cs t free_chain)) free_chain h
    ∙ sym (ap (λ (a : Bool). cond a (f (get_or cs t free_chain)) (get_or cs t free_chain)) (eq-eqb s t e)))
    (λ n.
    get_or-set_other cs s t (f (get_or cs s free_chain)) free_chain (λ e. n (sym e))
    ∙ sym (ap (λ (a : Bool). cond a (f (get_or cs t free_chain)) (get_or cs t free_chain)) (ne_eqb s t n)))
    (equal_or_not s t)

-- what a store to a slot makes of the table, and that there is no slot beyond it
pub in_slot-stored :
    (f : Chain → Chain) (s : ℕ) (cs : List Chain) (past : Chain) → s < length cs → set cs s (f (get_or cs s past)) ≡ in_slot f s cs
unfolding in_slot
in_slot-stored f s cs past h = ap (λ (ch : Chain). set cs s (f ch)) (get_d_default cs s past free_chain h)

pub in_slot-beyond : (f : Chain → Chain) (s : ℕ) (cs : List Chain) → length cs ≤ s → cs ≡ in_slot f s cs
unfolding in_slot
in_slot-beyond f s cs h = sym (set_out cs s (f (get_or cs s free_chain)) h)

-- ---- A liberty lost: once or more often is the same

removed-twice : (l : List ℕ) (p : ℕ) → removed (removed l p) p ≡ removed l p
unfolding removed
removed-twice l p =
    removed-set_of (λ q. sets.has l q && not (eqb q p)) p
    ∙ set_of-ext (λ q. sets.has l q && not (eqb q p) && not (eqb q p)) (λ q. sets.has l q && not (eqb q p)) (λ q h. and_again (sets.has l q) (not (eqb q p)))

loses-twice : (p : ℕ) (ch : Chain) → loses p (loses p ch) ≡ loses p ch
unfolding loses
loses-twice p ch = λ i. record {
  liberties = removed-twice ch.liberties p i;
  colour = ch.colour;
  origin = ch.origin;
  last = ch.last;
  count = ch.count;
}

pub length-losing : (own : ℕ → ℕ) (p : ℕ) (qs : List ℕ) (cs : List Chain) → length (losing own p qs cs) ≡ length cs
length-losing own p [] cs = refl
length-losing own p (q ∷ qs) cs = length-losing own p qs (in_slot (loses p) (own q) cs) ∙ length-in_slot (loses p) (own q) cs

-- the chains that own a point of the list lose the liberty, and no other is changed
pub losing-at :
    (own : ℕ → ℕ) (p : ℕ) (qs : List ℕ) (cs : List Chain) (t : ℕ) → t < length cs →
    get_or (losing own p qs cs) t free_chain
    ≡ cond (any (λ q. eqb (own q) t) qs) (loses p (get_or cs t free_chain)) (get_or cs t free_chain)
losing-at own p [] cs t h = refl
losing-at own p (q ∷ qs) cs t h =
    losing-at own p qs (in_slot (loses p) (own q) cs) t (subst (λ (n : ℕ). t < n) (sym (length-in_slot (loses p) (own q) cs)) h)
    ∙ ap (λ (ch : Chain). cond (any (λ q. eqb (own q) t) qs) (loses p ch) ch) (in_slot-at (loses p) (own q) cs t h)
    ∙ either (eqb (own q) t) (any (λ q. eqb (own q) t) qs) (get_or cs t free_chain)
  where
    either : (a b : Bool) (ch : Chain) → cond b (loses p (cond a (loses p ch) ch)) (cond a (loses p ch) ch) ≡ cond (a || b) (loses p ch) ch
    either true true ch = loses-twice p ch
    either true false ch = refl
    either false true ch = refl
    either false false ch = refl

-- one point more
pub losing-more :
    (own : ℕ → ℕ) (p : ℕ) (qs : List ℕ) (q : ℕ) (cs : List Chain) → losing own p (qs ++ (q ∷ [])) cs ≡ in_slot (loses p) (own q) (losing own p qs cs)
losing-more own p [] q cs = refl
losing-more own p (r ∷ qs) q cs = losing-more own p qs q (in_slot (loses p) (own r) cs)

-- ---- The empty points of a list, as a set

-- one point more
pub openings-more :
    (own : ℕ → ℕ) (qs : List ℕ) (q : ℕ) (libs : List ℕ) →
    openings own (qs ++ (q ∷ [])) libs ≡ cond (eqb (own q) slots) (sets.added (openings own qs libs) q) (openings own qs libs)
openings-more own [] q libs = refl
openings-more own (r ∷ qs) q libs = openings-more own qs q (cond (eqb (own r) slots) (sets.added libs r) libs)

-- x is a point of the list that no chain owns
abbrev opening : (ℕ → ℕ) → List ℕ → ℕ → Bool
opening own qs x = any (λ q. eqb x q && (eqb (own q) slots && ltb q max_area)) qs

openings-set_of : (own : ℕ → ℕ) (qs : List ℕ) (f : ℕ → Bool) → openings own qs (set_of f) ≡ set_of (λ x. f x || opening own qs x)
openings-set_of own [] f = set_of-ext f (λ x. f x || false) (λ x h. or-never (f x) true)
openings-set_of own (q ∷ qs) f =
    ap (openings own qs) (first (eqb (own q) slots))
    ∙ openings-set_of own qs (λ x. f x || (eqb x q && (eqb (own q) slots && ltb q max_area)))
    ∙ set_of-ext (λ x. (f x || (eqb x q && (eqb (own q) slots && ltb q max_area))) || opening own qs x) (λ x. f x || opening own (q ∷ qs) x)
    (λ x h. or_assoc (f x) (eqb x q && (eqb (own q) slots && ltb q max_area)) (opening own qs x))
  where
    first : (t : Bool) → cond t (sets.added (set_of f) q) (set_of f) ≡ set_of (λ x. f x || (eqb x q && (t && ltb q max_area)))
    first true = added-set_of f q
    first false = set_of-ext f (λ x. f x || (eqb x q && false)) (λ x h. or-never (f x) (eqb x q))

-- ---- Colours and links

colours-at : (b : Board) (q : ℕ) → q < area b.height b.width → get_or (colours_of b) q 0 ≡ colour_at b q
unfolding colours_of
colours-at b q on = get_or-tabulate-zero (colour_at b) (area b.height b.width) q 0 on

-- ---- The board with the stone

pub height-put : (b : Board) (p c s : ℕ) → (put b p c s).height ≡ b.height
unfolding put
height-put b p c s = refl

pub width-put : (b : Board) (p c s : ℕ) → (put b p c s).width ≡ b.width
unfolding put
width-put b p c s = refl

module _ {b : Board} {p c s : ℕ} (is : Putting b p c s) where
  slot-some : s ≢ slots
  slot-some e = omega (arith, is.within)

  pub point-fits : p < max_area
  point-fits = omega (arith, is.on, area-fits is.table.size)

  -- ---- Who owns which point

  pub owner-put : (q : ℕ) → owner (put b p c s) q ≡ cond (eqb q p) s (owner b q)
  unfolding owner put
  owner-put q = get_d_set b.owners p s q slots (omega (arith, point-fits, is.table.shape.owners))

  pub owner_here : owner (put b p c s) p ≡ s
  owner_here = owner-put p ∙ ap (λ (t : Bool). cond t s (owner b p)) (eq-eqb p p refl)

  pub owner-there : (q : ℕ) → q ≢ p → owner (put b p c s) q ≡ owner b q
  owner-there q n = owner-put q ∙ ap (λ (t : Bool). cond t s (owner b q)) (ne_eqb q p n)

  -- the slot was free, so it owned nothing
  pub unowned : (q : ℕ) → owner b q ≢ s
  unowned q e =
      not-both (is.table.owned q (λ f. slot-some (sym e ∙ f))).2 (ap (λ (t : ℕ). used (chain_in b t)) e ∙ is.free)

  -- it owns p, and nothing else
  pub owned-new : (q : ℕ) → eqb (owner (put b p c s) q) s ≡ eqb q p
  owned-new q =
      ⊎_elim
      (λ e. eq-eqb (owner (put b p c s) q) s (ap (owner (put b p c s)) e ∙ owner_here) ∙ sym (eq-eqb q p e))
      (λ n. ne_eqb (owner (put b p c s) q) s (λ e. unowned q (sym (owner-there q n) ∙ e)) ∙ sym (ne_eqb q p n))
      (equal_or_not q p)

  -- every other slot owns what it owned
  pub owned-old : (t : ℕ) → t < slots → t ≢ s → (q : ℕ) → eqb (owner (put b p c s) q) t ≡ eqb (owner b q) t
  owned-old t h n q =
      ⊎_elim
      (λ e.
      ne_eqb (owner (put b p c s) q) t (λ f. n (sym f ∙ ap (owner (put b p c s)) e ∙ owner_here))
      ∙ sym (ne_eqb (owner b q) t (λ f. let o : t ≡ slots = sym f ∙ ap (owner b) e ∙ is.vacant in omega arith)))
      (λ a. ap (λ (o : ℕ). eqb o t) (owner-there q a))
      (equal_or_not q p)

  pub owner-kept : (t : ℕ) → t < slots → t ≢ s → (q : ℕ) → owner b q ≡ t → owner (put b p c s) q ≡ t
  owner-kept t h n q e = eqb-true (owner (put b p c s) q) t (owned-old t h n q ∙ eq-eqb (owner b q) t e)

  pub owner-before : (t : ℕ) → t < slots → t ≢ s → (q : ℕ) → owner (put b p c s) q ≡ t → owner b q ≡ t
  owner-before t h n q e = eqb-true (owner b q) t (sym (owned-old t h n q) ∙ eq-eqb (owner (put b p c s) q) t e)

  -- ---- The chains

  pub chain-new : chain_in (put b p c s) s ≡ new_chain c p (openings (owner b) (neighbours b.height b.width p) none)
  unfolding chain_in put
  chain-new =
      get_or-set_same (losing (owner b) p (neighbours b.height b.width p) b.chains) s
      (new_chain c p (openings (owner b) (neighbours b.height b.width p) none)) free_chain
      (omega (arith, is.within, length-losing (owner b) p (neighbours b.height b.width p) b.chains, is.table.shape.chains))

  -- a chain beside p loses that liberty
  pub chain-old :
      (t : ℕ) → t < slots → t ≢ s →
      chain_in (put b p c s) t
      ≡ cond (any (λ q. eqb (owner b q) t) (neighbours b.height b.width p)) (loses p (chain_in b t)) (chain_in b t)
  unfolding chain_in put
  chain-old t h n =
      get_or-set_other (losing (owner b) p (neighbours b.height b.width p) b.chains) s t
      (new_chain c p (openings (owner b) (neighbours b.height b.width p) none)) free_chain n
      ∙ losing-at (owner b) p (neighbours b.height b.width p) b.chains t (omega (arith, is.table.shape.chains))

  -- and is else as it was
  field-old :
      (f : Chain → ℕ) → ((ch : Chain) → f (loses p ch) ≡ f ch) → (t : ℕ) → t < slots → t ≢ s → f (chain_in (put b p c s) t) ≡ f (chain_in b t)
  field-old f same t h n = ap f (chain-old t h n) ∙ go (any (λ q. eqb (owner b q) t) (neighbours b.height b.width p))
    where
      go : (a : Bool) → f (cond a (loses p (chain_in b t)) (chain_in b t)) ≡ f (chain_in b t)
      go true = same (chain_in b t)
      go false = refl

  pub colour-old : (t : ℕ) → t < slots → t ≢ s → (chain_in (put b p c s) t).colour ≡ (chain_in b t).colour
  unfolding loses
  colour-old = field-old (λ ch. ch.colour) (λ ch. refl)

  pub origin-old : (t : ℕ) → t < slots → t ≢ s → (chain_in (put b p c s) t).origin ≡ (chain_in b t).origin
  unfolding loses
  origin-old = field-old (λ ch. ch.origin) (λ ch. refl)

  pub last-old : (t : ℕ) → t < slots → t ≢ s → (chain_in (put b p c s) t).last ≡ (chain_in b t).last
  unfolding loses
  last-old = field-old (λ ch. ch.last) (λ ch. refl)

  pub count-old : (t : ℕ) → t < slots → t ≢ s → (chain_in (put b p c s) t).count ≡ (chain_in b t).count
  unfolding loses
  count-old = field-old (λ ch. ch.count) (λ ch. refl)

  pub used-old : (t : ℕ) → t < slots → t ≢ s → used (chain_in (put b p c s) t) ≡ used (chain_in b t)
  unfolding used
  used-old t h n = ap (λ (k : ℕ). not (eqb k 0)) (count-old t h n)

  pub used-new : used (chain_in (put b p c s) s) ≡ true
  used-new = ap used chain-new ∙ new-used c p (openings (owner b) (neighbours b.height b.width p) none)

  pub colour-new : (chain_in (put b p c s) s).colour ≡ c
  unfolding new_chain
  colour-new = ap (λ ch. ch.colour) chain-new

  pub origin-new : (chain_in (put b p c s) s).origin ≡ p
  unfolding new_chain
  origin-new = ap (λ ch. ch.origin) chain-new

  pub last-new : (chain_in (put b p c s) s).last ≡ p
  unfolding new_chain
  last-new = ap (λ ch. ch.last) chain-new

  pub count-new : (chain_in (put b p c s) s).count ≡ 1
  unfolding new_chain
  count-new = ap (λ ch. ch.count) chain-new

  -- ---- Liberties

  -- p is no liberty any more, of whatever chain
  pub liberty-old : (t : ℕ) → t < slots → t ≢ s → (q : ℕ) → liberty_of (put b p c s) t q ≡ (liberty_of b t q && not (eqb q p))
  unfolding liberty_of put
  liberty-old t h n q =
      ap (λ (f : ℕ → Bool). eqb (owner (put b p c s) q) slots && any f (neighbours b.height b.width q)) (fun_ext (owned-old t h n))
      ∙ ⊎_elim
      (λ e.
      ap (λ (a : Bool). a && any (λ r. eqb (owner b r) t) (neighbours b.height b.width q))
      (ne_eqb (owner (put b p c s) q) slots (λ f. slot-some (sym owner_here ∙ ap (owner (put b p c s)) (sym e) ∙ f)))
      ∙ sym (and-taken (liberty_of b t q) (eq-eqb q p e)))
      (λ a.
      ap (λ (o : ℕ). eqb o slots && any (λ r. eqb (owner b r) t) (neighbours b.height b.width q)) (owner-there q a)
      ∙ sym (and_kept (liberty_of b t q) (ne_eqb q p a)))
      (equal_or_not q p)

  liberties-old : (t : ℕ) → t < slots → t ≢ s → ExactChain b t → (chain_in (put b p c s) t).liberties ≡ set_of (liberty_of (put b p c s) t)
  unfolding loses liberty_of
  liberties-old t h n x =
      ap (λ ch. ch.liberties) (chain-old t h n)
      ∙ go (any (λ q. eqb (owner b q) t) (neighbours b.height b.width p)) refl
      ∙ set_of-ext (λ q. liberty_of b t q && not (eqb q p)) (liberty_of (put b p c s) t) (λ q l. sym (liberty-old t h n q))
    where
      go :
          (a : Bool) → any (λ q. eqb (owner b q) t) (neighbours b.height b.width p) ≡ a →
          (cond a (loses p (chain_in b t)) (chain_in b t)).liberties ≡ set_of (λ q. liberty_of b t q && not (eqb q p))
      go true e = ap (λ (l : List ℕ). removed l p) x.liberties ∙ removed-set_of (liberty_of b t) p
      go false e =
          x.liberties
          ∙ set_of-ext (liberty_of b t) (λ q. liberty_of b t q && not (eqb q p))
          (λ q l.
          ⊎_elim
          (λ same. ap (liberty_of b t) same ∙ and-never (eqb (owner b p) slots) e ∙ sym (and-taken (liberty_of b t q) (eq-eqb q p same)))
          (λ a. sym (and_kept (liberty_of b t q) (ne_eqb q p a)))
          (equal_or_not q p))

  -- the liberties of the new chain are the empty points beside it
  opening-liberty : (q : ℕ) → opening (owner b) (neighbours b.height b.width p) q ≡ true → liberty_of (put b p c s) s q ≡ true
  unfolding liberty_of put
  opening-liberty q e =
      let (r, m, t) = any_some (λ r. eqb q r && (eqb (owner b r) slots && ltb r max_area)) (neighbours b.height b.width p) e in
      let same : q ≡ r = eqb-true q r (and_left (eqb q r) (eqb (owner b r) slots && ltb r max_area) t) in
      let vacant : owner b r ≡ slots =
      eqb-true (owner b r) slots
      (and_left (eqb (owner b r) slots) (ltb r max_area) (and_right (eqb q r) (eqb (owner b r) slots && ltb r max_area) t)) in
      let near : Memᴰ q (neighbours b.height b.width p) = mathlib.Core.List.Memᴰ.cast same m in
      and_both
      (eq-eqb (owner (put b p c s) q) slots
      (owner-there q (λ f. neighbours-not-self b.height b.width p (mathlib.Core.List.Memᴰ.cast (sym f) near)) ∙ ap (owner b) same ∙ vacant))
      (any-yes (λ r. eqb (owner (put b p c s) r) s) (neighbours-sym b.height b.width p q near)
      (eq-eqb (owner (put b p c s) p) s owner_here))

  liberty-opening : (q : ℕ) → liberty_of (put b p c s) s q ≡ true → opening (owner b) (neighbours b.height b.width p) q ≡ true
  unfolding liberty_of put
  liberty-opening q e =
      let vacant : owner (put b p c s) q ≡ slots =
      eqb-true (owner (put b p c s) q) slots
      (and_left (eqb (owner (put b p c s) q) slots) (any (λ r. eqb (owner (put b p c s) r) s) (neighbours b.height b.width q)) e) in
      let apart : q ≢ p = λ f. slot-some (sym owner_here ∙ ap (owner (put b p c s)) (sym f) ∙ vacant) in
      let (r, m, t) =
      any_some (λ r. eqb (owner (put b p c s) r) s) (neighbours b.height b.width q)
      (and_right (eqb (owner (put b p c s) q) slots) (any (λ r. eqb (owner (put b p c s) r) s) (neighbours b.height b.width q)) e) in
      let near : Memᴰ q (neighbours b.height b.width p) =
      neighbours-sym b.height b.width q p (mathlib.Core.List.Memᴰ.cast (sym (eqb-true r p (sym (owned-new r) ∙ t))) m) in
      let fits : q < max_area = omega (arith, neighbours-on b.height b.width p q near, area-fits is.table.size) in
      any-yes (λ r. eqb q r && (eqb (owner b r) slots && ltb r max_area)) near
      (and_both (eq-eqb q q refl) (and_both (eq-eqb (owner b q) slots (sym (owner-there q apart) ∙ vacant)) (lt-ltb q max_area fits)))

  liberties-new : (chain_in (put b p c s) s).liberties ≡ set_of (liberty_of (put b p c s) s)
  unfolding new_chain none
  liberties-new =
      ap (λ ch. ch.liberties) chain-new
      ∙ openings-set_of (owner b) (neighbours b.height b.width p) (λ q. false)
      ∙ set_of-ext (λ q. false || opening (owner b) (neighbours b.height b.width p) q) (liberty_of (put b p c s) s)
      (λ q l. same_answer (opening-liberty q) (liberty-opening q))

  -- ---- The chains are exact

  pub exact-new : ExactChain (put b p c s) s
  unfolding put walked
  exact-new =
      record {
        colour = subst Player (sym colour-new) is.player;
        origin = ap (owner (put b p c s)) origin-new ∙ owner_here;
        least = λ q e. omega (arith, alone q e, origin-new);
        connected =
            λ q e.
            subst (λ (o : ℕ). Walk (neighbours b.height b.width) (owner (put b p c s)) s o q) (alone q e ∙ sym origin-new) (here e);
        counted =
            count-new
            ∙ sym (ap (λ (f : ℕ → Bool). count f (below (area b.height b.width))) (fun_ext owned-new)
            ∙ count-equal p (below (area b.height b.width)) (below-distinct (area b.height b.width))
            (mem_below (area b.height b.width) p is.on));
        linked =
            λ k l.
            let first : k ≡ 0 = omega (arith, count-new) in
            ap (λ (j : ℕ). owner (put b p c s) (stepped (put b p c s).next (chain_in (put b p c s) s).origin j)) first
            ∙ ap (owner (put b p c s)) origin-new ∙ owner_here;
        once =
            subst (λ (k : ℕ). Distinct (walked (put b p c s).next (chain_in (put b p c s) s).origin k)) (sym count-new)
            (mathlib.Core.List.Memᴰ.not-nil, tt);
        last =
            λ k e.
            let first : k ≡ 0 = omega (arith, count-new) in
            ap (stepped (put b p c s).next (chain_in (put b p c s) s).origin) first ∙ origin-new ∙ sym last-new;
        back =
            ap (λ (q : ℕ). get_or (put b p c s).next q 0) last-new
            ∙ get_or-set_same b.next p p 0 (omega (arith, point-fits, is.table.shape.links))
            ∙ sym origin-new;
        liberties = liberties-new;
      }
    where
      alone : (q : ℕ) → owner (put b p c s) q ≡ s → q ≡ p
      alone q e = eqb-true q p (sym (owned-new q) ∙ eq-eqb (owner (put b p c s) q) s e)

  module _ (t : ℕ) (h : t < slots) (n : t ≢ s) (x : ExactChain b t) where
    -- p is none of the chain's stones
    stone-apart : (q : ℕ) → owner b q ≡ t → q ≢ p
    stone-apart q e f = let o : t ≡ slots = sym e ∙ ap (owner b) f ∙ is.vacant in omega arith

    steps-kept :
        (k : ℕ) → k ≤ (chain_in b t).count →
        stepped (put b p c s).next (chain_in (put b p c s) t).origin k ≡ stepped b.next (chain_in b t).origin k
    unfolding put
    steps-kept k l =
        ap (λ (o : ℕ). stepped (put b p c s).next o k) (origin-old t h n)
        ∙ stepped-set b.next p p (chain_in b t).origin k
        (λ j m. stone-apart (stepped b.next (chain_in b t).origin j) (x.linked j (omega arith)))

    walk_same :
        walked (put b p c s).next (chain_in (put b p c s) t).origin (chain_in (put b p c s) t).count
        ≡ walked b.next (chain_in b t).origin (chain_in b t).count
    unfolding walked
    walk_same =
        ap (tabulate (stepped (put b p c s).next (chain_in (put b p c s) t).origin) 0) (count-old t h n)
        ∙ tabulate-ext (stepped (put b p c s).next (chain_in (put b p c s) t).origin) (stepped b.next (chain_in b t).origin) 0
        (chain_in b t).count (λ k l. steps-kept (0 + k) (omega arith))

    last-stone : used (chain_in b t) ≡ true → owner b (chain_in b t).last ≡ t
    unfolding used
    last-stone u =
        let some : (chain_in b t).count ≢ 0 = eqb-false (chain_in b t).count 0 (not-true (eqb (chain_in b t).count 0) u) in
        subst (λ (q : ℕ). owner b q ≡ t) (x.last ((chain_in b t).count - 1) (omega arith)) (x.linked ((chain_in b t).count - 1) (omega arith))

    exact-old : used (chain_in b t) ≡ true → ExactChain (put b p c s) t
    unfolding put
    exact-old u =
        record {
          colour = subst Player (sym (colour-old t h n)) x.colour;
          origin = ap (owner (put b p c s)) (origin-old t h n) ∙ owner-kept t h n (chain_in b t).origin x.origin;
          least = λ q e. subst (λ (o : ℕ). o ≤ q) (sym (origin-old t h n)) (x.least q (owner-before t h n q e));
          connected =
              λ q e.
              subst (λ (o : ℕ). Walk (neighbours b.height b.width) (owner (put b p c s)) t o q) (sym (origin-old t h n))
              (walk-agree (owner-kept t h n) (x.connected q (owner-before t h n q e)));
          counted =
              count-old t h n ∙ x.counted
              ∙ ap (λ (f : ℕ → Bool). count f (below (area b.height b.width))) (sym (fun_ext (owned-old t h n)));
          linked =
              λ k l.
              let less : k < (chain_in b t).count = omega (arith, count-old t h n) in
              ap (owner (put b p c s)) (steps-kept k (omega arith))
              ∙ owner-kept t h n (stepped b.next (chain_in b t).origin k) (x.linked k less);
          once = subst Distinct (sym walk_same) x.once;
          last =
              λ k e.
              let end : k + 1 ≡ (chain_in b t).count = e ∙ count-old t h n in
              steps-kept k (omega arith) ∙ x.last k end ∙ sym (last-old t h n);
          back =
              ap (λ (q : ℕ). get_or (put b p c s).next q 0) (last-old t h n)
              ∙ get_or-set_other b.next p (chain_in b t).last p 0 (stone-apart (chain_in b t).last (last-stone u))
              ∙ x.back ∙ sym (origin-old t h n);
          liberties = liberties-old t h n x;
        }

  -- ---- The colours

  pub shape-put : Shaped (put b p c s)
  unfolding put
  shape-put =
      record {
        owners = length-set b.owners p s ∙ is.table.shape.owners;
        links = length-set b.next p p ∙ is.table.shape.links;
        chains =
            length-set (losing (owner b) p (neighbours b.height b.width p) b.chains) s
            (new_chain c p (openings (owner b) (neighbours b.height b.width p) none))
            ∙ length-losing (owner b) p (neighbours b.height b.width p) b.chains
            ∙ is.table.shape.chains;
      }

  pub colour-put : (q : ℕ) → colour_at (put b p c s) q ≡ cond (eqb q p) c (colour_at b q)
  unfolding colour_at
  colour-put q =
      ⊎_elim
      (λ e.
      ap (λ (o : ℕ). (chain_in (put b p c s) o).colour) (ap (owner (put b p c s)) e ∙ owner_here) ∙ colour-new
      ∙ sym (ap (λ (t : Bool). cond t c (colour_at b q)) (eq-eqb q p e)))
      (λ a.
      ap (λ (o : ℕ). (chain_in (put b p c s) o).colour) (owner-there q a) ∙ there
      ∙ sym (ap (λ (t : Bool). cond t c (colour_at b q)) (ne_eqb q p a)))
      (equal_or_not q p)
    where
      there : (chain_in (put b p c s) (owner b q)).colour ≡ (chain_in b (owner b q)).colour
      there =
          ⊎_elim
          (λ none-owns.
          ap (λ (o : ℕ). (chain_in (put b p c s) o).colour) none-owns
          ∙ ap (λ (ch : Chain). ch.colour) (no-chain (put b p c s) shape-put ∙ sym (no-chain b is.table.shape))
          ∙ ap (λ (o : ℕ). (chain_in b o).colour) (sym none-owns))
          (λ some. colour-old (owner b q) (is.table.owned q some).1 (unowned q))
          (equal_or_not (owner b q) slots)

  -- the colours are those of a move before anything is taken
  pub colours-put : colours_of (put b p c s) ≡ coloured (colours_of b) c p
  unfolding coloured put
  colours-put =
      ext_get_or 0 (colours_of (put b p c s)) (set (colours_of b) p c)
      (length-colours (put b p c s) ∙ sym (length-set (colours_of b) p c ∙ length-colours b))
      (λ q l.
      let on : q < area b.height b.width = omega (arith, length-colours (put b p c s)) in
      colours-at (put b p c s) q on ∙ colour-put q
      ∙ ap (λ (x : ℕ). cond (eqb q p) c x) (sym (colours-at b q on))
      ∙ sym (get_d_set (colours_of b) p c q 0 (omega (arith, is.on, length-colours b))))

  -- ---- The table is exact

  pub put-exact : ExactTable (put b p c s)
  unfolding put coloured
  put-exact =
      record {
        size = is.table.size;
        shape = shape-put;
        owned = owned;
        exact =
            λ t h u.
            ⊎_elim (λ e. subst (ExactChain (put b p c s)) (sym e) exact-new)
            (λ n.
            let old : used (chain_in b t) ≡ true = sym (used-old t h n) ∙ u in
            exact-old t h n (is.table.exact t h old) old)
            (equal_or_not t s);
        hashed =
            ap (λ (x : ℕ). bit_xor x (stone_hash p c)) is.table.hashed
            ∙ sym (hash-put (colours_of b) p c (omega (arith, is.on, length-colours b))
            (at-colours b is.table p ∙ empty-unowned b is.table p is.vacant))
            ∙ ap hash (sym colours-put);
      }
    where
      Owned : ℕ → ℕ → Type 0
      Owned q t = (q < area b.height b.width) × (t < slots) × (used (chain_in (put b p c s) t) ≡ true)

      owned : (q : ℕ) → owner (put b p c s) q ≢ slots → Owned q (owner (put b p c s) q)
      owned q some =
          ⊎_elim
          (λ e.
          subst (Owned q) (sym (ap (owner (put b p c s)) e ∙ owner_here))
          (subst (λ (r : ℕ). r < area b.height b.width) (sym e) is.on, is.within, used-new))
          (λ a.
          let (on, below, u) = is.table.owned q (λ z. some (owner-there q a ∙ z)) in
          subst (Owned q) (sym (owner-there q a)) (on, below, used-old (owner b q) below (unowned q) ∙ u))
          (equal_or_not q p)
