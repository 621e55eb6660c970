-- What each of the judge's tests says, where it says yes. A test made with &&, || and not says what its parts say.
use Rattle.std.specs.Prelude.{◌≡◌, Bool, false, not, ◌&&◌, ◌||◌, List, ◌↔◌, ◌≢◌, ◌⊎◌, ℕ, ◌-◌, ◌≤◌, ◌<◌, eqb, leb}
use Rattle.std.proofs.Common.{subst, arith}
use Rattle.std.proofs.Math.Bool.{true}
use Rattle.std.proofs.Math.Logic.{inl, inr, ⊎_elim, ⊎_map}
use Rattle.std.proofs.Math.Dec.{ltb}
use borrow.Author.Tests.{eqb-true, eq-eqb, ltb-true, ltb-false, lt-ltb, leb-true, le-leb, not-true}
use Rattle.rules.specs.Sizes.{max_side, max_area, slots}
use Rattle.rules.specs.Lists.{all, count, below, same}
use Rattle.rules.specs.Points.{area, column}
use Rattle.rules.specs.Calls.{side_ok}
use Rattle.rules.specs.Colours.{black, white}
use Rattle.rules.specs.Game.{Player}
use Rattle.rules.proofs.Laws.Lists.{and_left, and_right, and_both, or_cases, or_left, or_right, not_yes, not-both, decided, equal_or_not}
use Rattle.rules.proofs.Laws.Lists.{all-each, all_yes, mem_below, below-mem, same-equal, same_self}
use Rattle.chains.specs.declared.group.Chain.{Chain}
use Rattle.chains.specs.Group.{used}
use Rattle.sets.specs.Liberties.{set_of, number}
use Rattle.chains.specs.Walk.{stepped}
use Rattle.board.specs.declared.goban.Board.{Board}
use Rattle.board.specs.Board.{owner, chain_in}
use Rattle.owning.specs.Owners.{placed, on_ring, ring, apart, row_apart, column_apart}
use Rattle.flooding.specs.Flood.{found, shore, hash_of}
use Rattle.board.specs.Judge.{player, counted, liberties_good, chain_good, slot_good, noted, judged}

-- ---- Tests of any kind

pub and-says : {a b : Bool} {A B : Type 0} → a ≡ true ↔ A → b ≡ true ↔ B → a && b ≡ true ↔ (A × B)
and-says {a} {b} f g = (λ e. (f.0 (and_left a b e), g.0 (and_right a b e)), λ t. and_both (f.1 t.0) (g.1 t.1))

pub or-says : {a b : Bool} {A B : Type 0} → a ≡ true ↔ A → b ≡ true ↔ B → a || b ≡ true ↔ (A ⊎ B)
unfolding ⊎_map
or-says {a} {b} f g = (λ e. ⊎_map f.0 g.0 (or_cases a b e), ⊎_elim (λ x. or_left b (f.1 x)) (λ y. or_right a (g.1 y)))

pub not-says : {a : Bool} {A : Type 0} → a ≡ true ↔ A → not a ≡ true ↔ ¬ A
not-says {a} f = (λ e x. not-both (f.1 x) (not-true a e), λ n. let e : a ≡ false = not_yes (λ y. n (f.0 y)) in rw e)

pub eqb-says : (m n : ℕ) → eqb m n ≡ true ↔ m ≡ n
eqb-says m n = (eqb-true m n, eq-eqb m n)

pub ltb-says : (m n : ℕ) → ltb m n ≡ true ↔ m < n
ltb-says m n = (ltb-true m n, lt-ltb m n)

pub leb-says : (m n : ℕ) → leb m n ≡ true ↔ m ≤ n
leb-says m n = (leb-true m n, le-leb m n)

pub same-says : (xs ys : List ℕ) → same xs ys ≡ true ↔ xs ≡ ys
same-says xs ys = (same-equal xs ys, λ e. subst (λ (l : List ℕ). same xs l ≡ true) e (same_self xs))

pub all-below-says :
    {P : ℕ → Type 0} (f : ℕ → Bool) (n : ℕ) → ((k : ℕ) → f k ≡ true ↔ P k) → all f (below n) ≡ true ↔ ((k : ℕ) → k < n → P k)
all-below-says f n says = (
  λ e k l. (says k).0 (all-each f e (mem_below n k l)),
  λ p. all_yes f (below n) (λ k m. (says k).1 (p k (below-mem n k m))),
)

-- ---- The judge's tests

abbrev pub Side : ℕ → Type 0
Side n = (0 < n) × ¬ (max_side < n)

pub side-says : (n : ℕ) → side_ok n ≡ true ↔ Side n
unfolding side_ok
side-says n = and-says (ltb-says 0 n) (λ e l. omega (arith, leb-true n max_side e), λ no. le-leb n max_side (omega (arith, no)))

pub player-says : (c : ℕ) → player c ≡ true ↔ Player c
unfolding player Player
player-says c = or-says (eqb-says c black) (eqb-says c white)

pub used-says : (c : Chain) → used c ≡ true ↔ c.count ≢ 0
unfolding used
used-says c = not-says (eqb-says c.count 0)

module _ (h w : ℕ) (own : ℕ → ℕ) where
  abbrev pub Placed : ℕ → Type 0
  Placed p = (own p ≡ slots) ⊎ ((p < area h w) × (own p < slots))

  pub placed-says : (p : ℕ) → placed h w own p ≡ true ↔ Placed p
  unfolding placed
  placed-says p = ⊎_elim inside outside (decided (ltb p (area h w)))
    where
      inside : ltb p (area h w) ≡ true → placed h w own p ≡ true ↔ Placed p
      inside t = rw t (
        λ e. let l = leb-true (own p) slots e in ⊎_elim inl (λ n. inr (ltb-true p (area h w) t, omega arith)) (equal_or_not (own p) slots),
        λ q. le-leb (own p) slots (⊎_elim (λ e. omega arith) (λ d. omega arith) q),
      )

      outside : ltb p (area h w) ≡ false → placed h w own p ≡ true ↔ Placed p
      outside f = rw f (
        λ e. inl (eqb-true (own p) slots e),
        λ q. ⊎_elim (eq-eqb (own p) slots) (λ d. let l = ltb-false p (area h w) f in absurd (omega arith)) q,
      )

  module _ (next : List ℕ) (s : ℕ) (c : Chain) where
    abbrev pub OnRing : ℕ → Type 0
    OnRing k = (own (stepped next c.origin k) ≡ s) × ((k ≡ 0) ⊎ (c.origin < stepped next c.origin k))

    on_ring-says : (k : ℕ) → on_ring own next s c k ≡ true ↔ OnRing k
    unfolding on_ring
    on_ring-says k =
        let p = stepped next c.origin k in
        and-says (eqb-says (own p) s) (or-says (eqb-says k 0) (ltb-says c.origin p))

    -- a chain's colour, its origin, its count, its ring and its liberties
    pub record Told : Type 0 where
      pub colour : Player c.colour
      pub origin : own c.origin ≡ s
      pub counted : count (found h w own s c.origin) (below (area h w)) ≡ c.count
      pub on_ring : (k : ℕ) → k < c.count → OnRing k
      pub last : stepped next c.origin (c.count - 1) ≡ c.last
      pub back : stepped next c.origin c.count ≡ c.origin
      pub liberties : c.liberties ≡ set_of (shore h w own (found h w own s c.origin))
      pub breathes : 0 < number c.liberties

    pub chain-says : chain_good h w own next s c ≡ true ↔ Told
    unfolding chain_good counted ring liberties_good
    chain-says = (
      λ e.
          let t = parts.0 e in
          record {
            colour = t.0;
            origin = t.1.0;
            counted = t.1.1.0;
            on_ring = t.1.1.1.0.0;
            last = t.1.1.1.0.1.0;
            back = t.1.1.1.0.1.1;
            liberties = t.1.1.1.1.0;
            breathes = t.1.1.1.1.1;
          },
      λ t. parts.1 (t.colour, (t.origin, (t.counted, ((t.on_ring, (t.last, t.back)), (t.liberties, t.breathes))))),
    )
      where
        parts :
            chain_good h w own next s c ≡ true
            ↔ (Player c.colour
            × ((own c.origin ≡ s)
            × ((count (found h w own s c.origin) (below (area h w)) ≡ c.count)
            × ((((k : ℕ) → k < c.count → OnRing k)
            × ((stepped next c.origin (c.count - 1) ≡ c.last) × (stepped next c.origin c.count ≡ c.origin)))
            × ((c.liberties ≡ set_of (shore h w own (found h w own s c.origin))) × (0 < number c.liberties))))))
        parts =
            and-says (player-says c.colour)
            (and-says (eqb-says (own c.origin) s)
            (and-says (eqb-says (count (found h w own s c.origin) (below (area h w))) c.count)
            (and-says
            (and-says (all-below-says (on_ring own next s c) c.count on_ring-says)
            (and-says (eqb-says (stepped next c.origin (c.count - 1)) c.last) (eqb-says (stepped next c.origin c.count) c.origin)))
            (and-says (same-says c.liberties (set_of (shore h w own (found h w own s c.origin)))) (ltb-says 0 (number c.liberties))))))

    abbrev pub Slotted : Type 0
    Slotted = ¬ (used c ≡ true) ⊎ Told

    pub slot-says : slot_good h w own next s c ≡ true ↔ Slotted
    unfolding slot_good
    slot-says = or-says (not-says (λ u. u, λ u. u)) chain-says

module _ (own note : ℕ → ℕ) where
  abbrev pub Apart : ℕ → ℕ → Type 0
  Apart p q = (own p ≡ own q) ⊎ ¬ (note p ≡ note q)

  apart-says : (p q : ℕ) → apart own note p q ≡ true ↔ Apart p q
  unfolding apart
  apart-says p q = or-says (eqb-says (own p) (own q)) (not-says (eqb-says (note p) (note q)))

  pub row-says : (w p : ℕ) → row_apart own note w p ≡ true ↔ ((column w p ≡ 0) ⊎ Apart p (p - 1))
  unfolding row_apart
  row-says w p = or-says (eqb-says (column w p) 0) (apart-says p (p - 1))

  pub column-says : (w p : ℕ) → column_apart own note w p ≡ true ↔ ((p < w) ⊎ Apart p (p - w))
  unfolding column_apart
  column-says w p = or-says (ltb-says p w) (apart-says p (p - w))

-- ---- All of them

pub record Judged (b : Board) : Type 0 where
  pub tall : Side b.height
  pub wide : Side b.width
  pub placed : (p : ℕ) → p < max_area → Placed b.height b.width (owner b) p
  pub slotted : (s : ℕ) → s < slots → Slotted b.height b.width (owner b) b.next s (chain_in b s)
  pub seen : (p : ℕ) → p < area b.height b.width → slots ≤ noted b slots p
  pub rows : (p : ℕ) → p < area b.height b.width → (column b.width p ≡ 0) ⊎ Apart (owner b) (noted b slots) p (p - 1)
  pub columns : (p : ℕ) → p < area b.height b.width → (p < b.width) ⊎ Apart (owner b) (noted b slots) p (p - b.width)
  pub hashed : b.hash ≡ hash_of b.height b.width (noted b slots)

pub judged-says : (b : Board) → judged b ≡ true ↔ Judged b
unfolding judged
judged-says b = (
  λ e.
      let t = parts.0 e in
      record {
        tall = t.0;
        wide = t.1.0;
        placed = t.1.1.0;
        slotted = t.1.1.1.0;
        seen = t.1.1.1.1.0;
        rows = t.1.1.1.1.1.0;
        columns = t.1.1.1.1.1.1.0;
        hashed = t.1.1.1.1.1.1.1;
      },
  λ t. parts.1 (t.tall, (t.wide, (t.placed, (t.slotted, (t.seen, (t.rows, (t.columns, t.hashed))))))),
)
  where
    h : ℕ
    h = b.height

    w : ℕ
    w = b.width

    parts :
        judged b ≡ true
        ↔ (Side h × (Side w
        × (((p : ℕ) → p < max_area → Placed h w (owner b) p)
        × (((s : ℕ) → s < slots → Slotted h w (owner b) b.next s (chain_in b s))
        × (((p : ℕ) → p < area h w → slots ≤ noted b slots p)
        × (((p : ℕ) → p < area h w → (column w p ≡ 0) ⊎ Apart (owner b) (noted b slots) p (p - 1))
        × (((p : ℕ) → p < area h w → (p < w) ⊎ Apart (owner b) (noted b slots) p (p - w))
        × (b.hash ≡ hash_of h w (noted b slots)))))))))
    parts =
        and-says (side-says h) (and-says (side-says w)
        (and-says (all-below-says (placed h w (owner b)) max_area (placed-says h w (owner b)))
        (and-says
        (all-below-says (λ s. slot_good h w (owner b) b.next s (chain_in b s)) slots (λ s. slot-says h w (owner b) b.next s (chain_in b s)))
        (and-says (all-below-says (λ p. leb slots (noted b slots p)) (area h w) (λ p. leb-says slots (noted b slots p)))
        (and-says (all-below-says (row_apart (owner b) (noted b slots) w) (area h w) (row-says (owner b) (noted b slots) w))
        (and-says (all-below-says (column_apart (owner b) (noted b slots) w) (area h w) (column-says (owner b) (noted b slots) w))
        (eqb-says b.hash (hash_of h w (noted b slots)))))))))
