-- The judge says yes exactly on true boards. Both ways what is found from the origin of a slot is all that the slot owns, so what the
-- tests say of the points found is what a true board says of the slot's.
use Rattle.std.specs.Prelude.{◌≡◌, refl, Bool, true, ◌&&◌, ◌↔◌, ◌≢◌, ◌⊎◌, ltb, length, get_or}
use Rattle.std.proofs.Common.{sym, ◌∙◌, subst, inl, inr, arith, eqb-true, eq-eqb, le-ltb, lt-ltb}
use Rattle.std.proofs.Math.Path.{ap, fun_ext}
use Rattle.std.proofs.Math.Bool.{cond}
use mathlib.Core.List.{List, Memᴰ}
use Rattle.std.proofs.Math.Logic.{⊎_elim}
use Prim.Native.Nat.{ℕ, suc, ◌+◌, ◌-◌, ◌≤◌, ◌<◌}
use Rattle.std.proofs.Math.Dec.{eqb}
use Rattle.rules.specs.Sizes.{max_area, slots}
use Rattle.rules.specs.Lists.{any, count, below, Distinct}
use Rattle.rules.specs.Points.{area, column, neighbours}
use Rattle.rules.specs.Colours.{empty}
use Rattle.rules.specs.Hash.{hash}
use Rattle.rules.proofs.Laws.Lists.{and_left, and_right, and_both, not-both, decided, equal_or_not, below_or_not, same_answer, get_or-within}
use Rattle.rules.proofs.Laws.Places.{tabulate-ext}
use Rattle.rules.proofs.Laws.Points.{neighbours-on, neighbours-from}
use Rattle.chains.specs.Group.{used, free_chain}
use Rattle.sets.specs.Liberties.{set_of}
use Rattle.chains.specs.Walk.{stepped, walked}
use Rattle.board.specs.declared.goban.Board.{Board}
use Rattle.board.specs.Board.{owner, chain_in, colour_at, colours_of}
use Rattle.board.specs.True.{liberty_of, ExactChain, Shaped, ExactTable, TrueBoard}
use Rattle.flooding.specs.Flood.{found, shore, hash_of}
use Rattle.board.specs.Judge.{found_below, noted, judged}
use Rattle.board.specs.Laws.Board.{no-chain, unowned-empty}
use Rattle.flooding.specs.Laws.Found.{found-says, found-owner}
use Rattle.board.specs.Laws.Ring.{walked_step, ring-distinct, distinct-first, ring_fills}
use Rattle.board.specs.Laws.Pairs.{Before, beside-left, beside-above, beside-pair}
use Rattle.board.specs.Laws.Tests.{used-says, Placed, Apart, Told, Slotted, Judged, judged-says}

-- ---- Short names

abbrev points : Board → ℕ
points b = area b.height b.width

abbrev beside : Board → ℕ → List ℕ
beside b = neighbours b.height b.width

abbrev size : Board → ℕ → ℕ
size b s = (chain_in b s).count

abbrev origin : Board → ℕ → ℕ
origin b s = (chain_in b s).origin

-- the stone k links from the origin of the slot, and all of them
abbrev stone : Board → ℕ → ℕ → ℕ
stone b s = stepped b.next (origin b s)

abbrev stones : Board → ℕ → List ℕ
stones b s = walked b.next (origin b s) (size b s)

-- what is found from the origin of the slot
abbrev reached : Board → ℕ → ℕ → Bool
reached b s = found b.height b.width (owner b) s (origin b s)

-- ---- Where all of a slot's points are found

module _ (b : Board) (s : ℕ) (all : (p : ℕ) → owner b p ≡ s → reached b s p ≡ true) where
  found-is : reached b s ≡ (λ p. eqb (owner b p) s)
  found-is =
      fun_ext
      (λ p.
      same_answer (λ t. eq-eqb (owner b p) s (found-owner b.height b.width (owner b) s (origin b s) p t)) (λ t. all p (eqb-true (owner b p) s t)))

  found-counted : count (reached b s) (below (points b)) ≡ count (λ p. eqb (owner b p) s) (below (points b))
  found-counted = ap (λ (f : ℕ → Bool). count f (below (points b))) found-is

  found-liberties : set_of (shore b.height b.width (owner b) (reached b s)) ≡ set_of (liberty_of b s)
  unfolding shore liberty_of
  found-liberties = ap (λ (f : ℕ → Bool). set_of (λ q. eqb (owner b q) slots && any f (beside b q))) found-is

-- ---- Where all stones are found, a point's note is its colour

module _ (b : Board) (shape : Shaped b) (all : (p : ℕ) → owner b p ≢ slots → found_below b slots p ≡ true) where
  noted-colour : (p : ℕ) → noted b slots p ≡ slots + colour_at b p
  unfolding noted found_below colour_at free_chain
  noted-colour p =
      ⊎_elim
      (λ e.
      let none : (chain_in b (owner b p)).colour ≡ 0 = ap (λ (s : ℕ). (chain_in b s).colour) e ∙ ap (λ c. c.colour) (no-chain b shape) in
      ap
      (λ (t : Bool).
      cond (t && (used (chain_in b (owner b p)) && found b.height b.width (owner b) (owner b p) (chain_in b (owner b p)).origin p)) (slots + (chain_in b (owner b p)).colour)
      (owner b p))
      (le-ltb (owner b p) slots (omega arith))
      ∙ omega arith)
      (λ n. ap (λ (t : Bool). cond t (slots + (chain_in b (owner b p)).colour) (owner b p)) (all p n))
      (equal_or_not (owner b p) slots)

  noted-hash : hash_of b.height b.width (noted b slots) ≡ hash (colours_of b)
  unfolding hash_of colours_of
  noted-hash = ap hash (tabulate-ext (λ p. noted b slots p - slots) (colour_at b) 0 (points b) (λ p l. let e = noted-colour (0 + p) in omega arith))

-- ---- Where all tests say yes, the board is true

module _ (b : Board) (shape : Shaped b) (told : Judged b) where
  -- what has an owner stands on the board, in a slot
  owned_in : (p : ℕ) → owner b p ≢ slots → (p < points b) × (owner b p < slots)
  unfolding owner
  owned_in p n =
      let within : p < max_area = omega (arith, get_or-within b.owners p slots n, shape.owners) in
      ⊎_elim (λ e. absurd (n e)) (λ t. t) (told.placed p within)

  -- and was found
  seen-found : (p : ℕ) → owner b p ≢ slots → found_below b slots p ≡ true
  unfolding noted
  seen-found p n =
      ⊎_elim (λ t. t)
      (λ f.
      let (on, low) = owned_in p n in
      let seen = told.seen p on in
      let note : noted b slots p ≡ owner b p = ap (λ (t : Bool). cond t (slots + colour_at b p) (owner b p)) f in
      absurd (omega arith))
      (decided (found_below b slots p))

  owned-used : (p : ℕ) → owner b p ≢ slots → used (chain_in b (owner b p)) ≡ true
  unfolding found_below
  owned-used p n = and_left _ _ (and_right (ltb (owner b p) slots) _ (seen-found p n))

  owned-found : (p : ℕ) → owner b p ≢ slots → reached b (owner b p) p ≡ true
  unfolding found_below
  owned-found p n = and_right (used (chain_in b (owner b p))) _ (and_right (ltb (owner b p) slots) _ (seen-found p n))

  module _ (s : ℕ) (low : s < slots) (is-used : used (chain_in b s) ≡ true) where
    of-slot : Told b.height b.width (owner b) b.next s (chain_in b s)
    of-slot = ⊎_elim (λ n. absurd (n is-used)) (λ t. t) (told.slotted s low)

    some-stone : 0 < size b s
    some-stone = let n = (used-says (chain_in b s)).0 is-used in omega arith

    stands : (p : ℕ) → owner b p ≡ s → p < points b
    stands p e = (owned_in p (λ z. omega arith)).0

    all_found : (p : ℕ) → owner b p ≡ s → reached b s p ≡ true
    all_found p e = subst (λ (r : ℕ). reached b r p ≡ true) e (owned-found p (λ z. omega arith))

    counted : size b s ≡ count (λ p. eqb (owner b p) s) (below (points b))
    counted = sym of-slot.counted ∙ found-counted b s all_found

    after : (k : ℕ) → 0 < k → k < size b s → origin b s < stone b s k
    after k l m = ⊎_elim (λ z. absurd (omega arith)) (λ a. a) (of-slot.on_ring k m).1

    linked : (k : ℕ) → k < size b s → owner b (stone b s k) ≡ s
    linked k l = (of-slot.on_ring k l).0

    once : Distinct (stones b s)
    once = ring-distinct b.next (origin b s) (size b s) of-slot.back (λ k l m e. omega (arith, after k l m))

    least : (p : ℕ) → owner b p ≡ s → origin b s ≤ p
    least p e =
        let m = ring_fills b.height b.width (owner b) b.next s (origin b s) (size b s) stands linked once counted p e in
        let (k, l, at) = walked_step b.next (origin b s) (size b s) m in
        ⊎_elim (λ z. let first : p ≡ origin b s = at ∙ ap (stone b s) z in omega arith) (λ a. omega arith) (of-slot.on_ring k l).1

    last : (k : ℕ) → k + 1 ≡ size b s → stone b s k ≡ (chain_in b s).last
    last k e = let before : k ≡ size b s - 1 = omega arith in ap (stone b s) before ∙ of-slot.last

    back : get_or b.next (chain_in b s).last 0 ≡ origin b s
    back =
        let whole : suc (size b s - 1) ≡ size b s = omega (arith, some-stone) in
        ap (λ (p : ℕ). get_or b.next p 0) (sym of-slot.last) ∙ ap (stone b s) whole ∙ of-slot.back

    exact-chain : ExactChain b s
    exact-chain =
        record {
          colour = of-slot.colour;
          origin = of-slot.origin;
          least = least;
          connected = λ p e. ((found-says b.height b.width (owner b) s (origin b s) p).0 (all_found p e)).1;
          counted = counted;
          linked = linked;
          once = once;
          last = last;
          back = back;
          liberties = of-slot.liberties ∙ found-liberties b s all_found;
        }

  judged-exact : ExactTable b
  judged-exact =
      record {
        size =
            record {
              tall = told.tall.0;
              low = omega (arith, told.tall.1);
              wide = told.wide.0;
              narrow = omega (arith, told.wide.1);
            };
        shape = shape;
        owned = λ p n. let (on, low) = owned_in p n in (on, low, owned-used p n);
        exact = exact-chain;
        hashed = told.hashed ∙ noted-hash b shape seen-found;
      }

  -- of two stones side by side the test was made at one
  pair : (p q : ℕ) → p < points b → Before b.width p q → colour_at b p ≡ colour_at b q → owner b p ≡ owner b q
  pair p q on d one =
      ⊎_elim
      (λ t. decides t (⊎_elim (λ z. absurd (t.0 z)) (λ a. a) (told.rows p on)))
      (λ t. decides t (⊎_elim (λ z. absurd (omega arith)) (λ a. a) (told.columns p on)))
      d
    where
      decides : {A : Type 0} {x : ℕ} → A × (q ≡ x) → Apart (owner b) (noted b slots) p x → owner b p ≡ owner b q
      decides t a =
          ⊎_elim (λ e. e ∙ ap (owner b) (sym t.1))
          (λ n.
          absurd
          (n
          (noted-colour b shape seen-found p ∙ ap (λ (c : ℕ). slots + c) one
          ∙ sym (noted-colour b shape seen-found q)
          ∙ ap (noted b slots) t.1)))
          a

  judged-largest :
      (p q : ℕ) → Memᴰ q (beside b p) → colour_at b p ≢ empty → colour_at b p ≡ colour_at b q → owner b p ≡ owner b q
  judged-largest p q m stone one =
      ⊎_elim
      (λ d. pair p q (neighbours-from b.height b.width p q m) d one)
      (λ d. sym (pair q p (neighbours-on b.height b.width p q m) d (sym one)))
      (beside-pair b.height b.width p q m)

  judged-board : TrueBoard b
  judged-board = record { table = judged-exact; largest = judged-largest; breathes = λ s low u. (of-slot s low u).breathes }

-- ---- On a true board all tests say yes

module _ (b : Board) (is : TrueBoard b) where
  placed-good : (p : ℕ) → Placed b.height b.width (owner b) p
  placed-good p = ⊎_elim inl (λ n. let (on, low, u) = is.table.owned p n in inr (on, low)) (equal_or_not (owner b p) slots)

  owner-on : (s : ℕ) → s < slots → (p : ℕ) → owner b p ≡ s → p < points b
  owner-on s low p e = (is.table.owned p (λ z. omega arith)).0

  module _ (s : ℕ) (low : s < slots) (is-used : used (chain_in b s) ≡ true) where
    exact : ExactChain b s
    exact = is.table.exact s low is-used

    joined : (p : ℕ) → owner b p ≡ s → reached b s p ≡ true
    joined p e =
        (found-says b.height b.width (owner b) s (origin b s) p).1 (owner-on s low (origin b s) exact.origin, exact.connected p e)

    chain-good : Told b.height b.width (owner b) b.next s (chain_in b s)
    chain-good =
        let c = chain_in b s in
        let n = (used-says c).0 is-used in
        let before : c.count - 1 + 1 ≡ c.count = omega arith in
        let whole : c.count ≡ suc (c.count - 1) = omega arith in
        record {
          colour = exact.colour;
          origin = exact.origin;
          counted = found-counted b s joined ∙ sym exact.counted;
          on_ring = λ k l. (exact.linked k l, after k l);
          last = exact.last (c.count - 1) before;
          back = ap (stepped b.next c.origin) whole ∙ ap (λ (p : ℕ). get_or b.next p 0) (exact.last (c.count - 1) before) ∙ exact.back;
          liberties = exact.liberties ∙ sym (found-liberties b s joined);
          breathes = is.breathes s low is-used;
        }
      where
        after : (k : ℕ) → k < size b s → (k ≡ 0) ⊎ (origin b s < stone b s k)
        after k l =
            ⊎_elim inl
            (λ n.
            let new = distinct-first b.next (origin b s) (size b s) exact.once k (omega arith) l in
            let least = exact.least (stone b s k) (exact.linked k l) in
            inr (omega arith))
            (equal_or_not k 0)

  slot-good : (s : ℕ) → s < slots → Slotted b.height b.width (owner b) b.next s (chain_in b s)
  slot-good s low = ⊎_elim (λ u. inr (chain-good s low u)) (λ f. inl (λ u. not-both u f)) (decided (used (chain_in b s)))

  all-found-good : (p : ℕ) → owner b p ≢ slots → found_below b slots p ≡ true
  unfolding found_below
  all-found-good p n =
      let (on, low, u) = is.table.owned p n in
      and_both (lt-ltb (owner b p) slots low) (and_both u (joined (owner b p) low u p refl))

  note : (p : ℕ) → noted b slots p ≡ slots + colour_at b p
  note = noted-colour b is.table.shape all-found-good

  apart-good : (p q : ℕ) → Memᴰ q (beside b p) → Apart (owner b) (noted b slots) p q
  apart-good p q m =
      ⊎_elim inl
      (λ other.
      inr
      (λ same.
      let one : colour_at b p ≡ colour_at b q = let x = note p in let y = note q in omega arith in
      ⊎_elim
      (λ e. other (unowned-empty b is.table p e ∙ sym (unowned-empty b is.table q (sym one ∙ e))))
      (λ stone. other (is.largest p q m stone one))
      (equal_or_not (colour_at b p) empty)))
      (equal_or_not (owner b p) (owner b q))

  true-judged : Judged b
  true-judged =
      let z = is.table.size in
      record {
        tall = (z.tall, omega arith);
        wide = (z.wide, omega arith);
        placed = λ p l. placed-good p;
        slotted = slot-good;
        seen = λ p l. let e = note p in omega arith;
        rows = λ p l. ⊎_elim inl (λ n. inr (apart-good p (p - 1) (beside-left b.height b.width p l n))) (equal_or_not (column b.width p) 0);
        columns = λ p l. ⊎_elim inl (λ n. inr (apart-good p (p - b.width) (beside-above b.height b.width p l n))) (below_or_not p b.width);
        hashed = is.table.hashed ∙ sym (noted-hash b is.table.shape all-found-good);
      }

-- ---- The theorem

pub judged-true : (b : Board) → Shaped b → judged b ≡ true ↔ TrueBoard b
judged-true b shape = (λ e. judged-board b shape ((judged-says b).0 e), λ is. (judged-says b).1 (true-judged b is))

-- so a board is a true one or it is not, also where its lists have other lengths
pub true-or-not : (b : Board) → TrueBoard b ⊎ ¬ TrueBoard b
true-or-not b =
    ⊎_elim
    (λ o.
    ⊎_elim
    (λ l.
    ⊎_elim
    (λ c.
    let shape : Shaped b = record { owners = o; links = l; chains = c } in
    ⊎_elim (λ y. inl ((judged-true b shape).0 y)) (λ n. inr (λ t. not-both ((judged-true b shape).1 t) n)) (decided (judged b)))
    (λ n. inr (λ t. n t.table.shape.chains))
    (equal_or_not (length b.chains) slots))
    (λ n. inr (λ t. n t.table.shape.links))
    (equal_or_not (length b.next) max_area))
    (λ n. inr (λ t. n t.table.shape.owners))
    (equal_or_not (length b.owners) max_area)
