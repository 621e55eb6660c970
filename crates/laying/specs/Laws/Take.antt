-- Taking: the enemy chains without liberty beside the new stone are lifted, one after the other. The invariant: what is gone is a list of
-- slots, all dead before the first was lifted; a neighbour is still to come, or is gone if its chain was dead. A chain gains no liberty by
-- the lifting of another of its colour, since the two do not touch, so being dead does not change on the way.
use Rattle.std.specs.Prelude.{◌≡◌, refl, Bool, true, false, ◌&&◌, ◌||◌, ◌≢◌, ◌⊎◌, ℕ, ◌+◌, ◌<◌, eqb}
use Rattle.std.proofs.Math.Path.{sym, ap₂}
use Rattle.std.proofs.Common.{ap, ◌∙◌, subst}
use Rattle.std.proofs.Math.Bool.{cond}
use mathlib.Core.List.Memᴰ
use mathlib.Core.List.{List, [], ◌∷◌, Memᴰ}
use Rattle.std.proofs.Math.Logic.{inl, inr, ⊎_elim}
use native.Mathlib.Omega.{arith}
use borrow.Author.Tests.{eqb-true, eqb-false, eq-eqb, ne_eqb}
use Rattle.rules.specs.Sizes.{slots}
use Rattle.rules.specs.Lists.{count, below, has}
use Rattle.rules.specs.Points.{area, neighbours}
use Rattle.rules.specs.Colours.{empty}
use Rattle.rules.specs.Reach.{Walk, Reaches}
use Rattle.rules.proofs.Laws.Lists.{and_left, and_right, and_both, or_cases, or_left, or_right, decided, not-both, not_yes, not-no, cond-or}
use Rattle.rules.proofs.Laws.Counting.{count_same, count-or}
use Rattle.rules.proofs.Laws.Reach.{walk-last, walk_kept, walk-agree}
use Rattle.chains.specs.Group.{used}
use Rattle.sets.specs.Liberties.{number}
use Rattle.board.specs.declared.goban.Board.{Board}
use Rattle.board.specs.Board.{owner, chain_in, colour_at}
use Rattle.board.specs.True.{ExactTable}
use Rattle.board.specs.Laws.Board.{stone-owned, unowned-empty}
use Rattle.board.specs.Laws.Chains.{Largest, owner-colour, walk-owned, breath-reaches}
use Rattle.steps.specs.Steps.{remove}
use Rattle.laying.specs.Lay.{dead, Haul, lifted, take_all}
use Rattle.steps.specs.Laws.Remove.{owner-remove, colour-remove, exact-remove}

-- a chain that is dead does not reach empty, and the other way round
module _ (b : Board) (is : ExactTable b) (largest : Largest b) (p : ℕ) (owned : owner b p ≢ slots) where
  pub dead-reaches : dead b (owner b p) ≡ true → ¬ Reaches (neighbours b.height b.width) (colour_at b) p empty
  unfolding dead
  dead-reaches d r =
      let some-liberty = (breath-reaches b is largest p owned).1 r in
      let no-liberty = eqb-true (number (chain_in b (owner b p)).liberties) 0 d in
      omega arith

  pub alive-reaches : dead b (owner b p) ≡ false → Reaches (neighbours b.height b.width) (colour_at b) p empty
  unfolding dead
  alive-reaches d =
      let some-liberty = eqb-false (number (chain_in b (owner b p)).liberties) 0 d in
      (breath-reaches b is largest p owned).0 (omega arith)

module _ (start : Board) (is : ExactTable start) (largest : Largest start) (foe : ℕ) (stone : foe ≢ empty) where
  -- the points that the slots of the list own are gone
  abbrev lost : List ℕ → ℕ → Bool
  lost gone x = has gone (owner start x)

  pub record Taken (near qs : List ℕ) (h : Haul) : Type 0 where
    pub table : ExactTable h.board
    pub tall : h.board.height ≡ start.height
    pub wide : h.board.width ≡ start.width
    pub gone : List ℕ
    pub owners : (x : ℕ) → owner h.board x ≡ cond (lost gone x) slots (owner start x)
    pub colours : (x : ℕ) → colour_at h.board x ≡ cond (lost gone x) empty (colour_at start x)
    pub dead-ones : (t : ℕ) → has gone t ≡ true → (t < slots) × ((chain_in start t).colour ≡ foe) × (dead start t ≡ true)
    pub counted : h.stones ≡ count (lost gone) (below (area start.height start.width))
    pub sample : h.stones ≢ 0 → (h.point < area start.height start.width) × (lost gone h.point ≡ true)
    pub todo : (q : ℕ) → Memᴰ q near → Memᴰ q qs ⊎ (colour_at start q ≡ foe → dead start (owner start q) ≡ true → lost gone q ≡ true)

  module _ {near qs : List ℕ} {h : Haul} (t : Taken near qs h) where
    abbrev board : Board
    board = h.board

    -- what is gone had the enemy's colour and is empty; what is not gone is as before
    pub lost-foe : (x : ℕ) → lost t.gone x ≡ true → colour_at start x ≡ foe
    lost-foe x y = owner-colour start (owner start x) x refl ∙ (t.dead-ones (owner start x) y).1

    pub lost-empty : (x : ℕ) → lost t.gone x ≡ true → colour_at board x ≡ empty
    lost-empty x y = t.colours x ∙ ap (λ (u : Bool). cond u empty (colour_at start x)) y

    lost-none : (x : ℕ) → lost t.gone x ≡ true → owner board x ≡ slots
    lost-none x y = t.owners x ∙ ap (λ (u : Bool). cond u slots (owner start x)) y

    pub kept-colour : (x : ℕ) → lost t.gone x ≡ false → colour_at board x ≡ colour_at start x
    kept-colour x y = t.colours x ∙ ap (λ (u : Bool). cond u empty (colour_at start x)) y

    pub kept-owner : (x : ℕ) → lost t.gone x ≡ false → owner board x ≡ owner start x
    kept-owner x y = t.owners x ∙ ap (λ (u : Bool). cond u slots (owner start x)) y

    -- a stone that still stands is not gone
    stands : (x : ℕ) → colour_at board x ≢ empty → lost t.gone x ≡ false
    stands x n = not_yes (λ y. n (lost-empty x y))

    pub taken-largest : Largest board
    taken-largest p q m n e =
        let k = stands p n in
        let k' = stands q (λ z. n (e ∙ z)) in
        kept-owner p k
        ∙ largest p q (rw (sym t.tall, sym t.wide) m) (λ z. n (kept-colour p k ∙ z)) (sym (kept-colour p k) ∙ e ∙ kept-colour q k')
        ∙ sym (kept-owner q k')

    same_beside : neighbours board.height board.width ≡ neighbours start.height start.width
    same_beside = ap₂ neighbours t.tall t.wide

    -- what still stands, as it stood
    stood : (x : ℕ) → colour_at board x ≡ foe → colour_at start x ≡ foe
    stood x e = sym (kept-colour x (stands x (λ z. stone (sym e ∙ z)))) ∙ e

    -- what is gone was owned
    lost-owned : has t.gone slots ≡ false
    lost-owned = not_yes (λ y. let under = (t.dead-ones slots y).0 in omega arith)

    -- an enemy stone that still stands reaches empty exactly if it did at the start
    reached_then :
        (q : ℕ) → colour_at board q ≡ foe → Reaches (neighbours start.height start.width) (colour_at board) q empty →
        Reaches (neighbours start.height start.width) (colour_at start) q empty
    reached_then q e r =
        let v = subst (λ (c : ℕ). Walk (neighbours start.height start.width) (colour_at board) c q r.last) e r.walk in
        let v' = walk-agree {col' = colour_at start} stood v in
        let standing = stands r.last (λ z. stone (sym (walk-last v) ∙ z)) in
        let there : colour_at start r.target ≡ empty =
        ⊎_elim
        (λ y.
        let touching =
        largest r.last r.target r.next (λ z. stone (sym (walk-last v') ∙ z)) (walk-last v' ∙ sym (lost-foe r.target y)) in
        absurd (not-both (ap (has t.gone) touching ∙ y) standing))
        (λ y. sym (kept-colour r.target y) ∙ r.there)
        (decided (lost t.gone r.target)) in
        record {
          apart = λ z. stone (sym (stood q e) ∙ z);
          last = r.last;
          walk = subst (λ (c : ℕ). Walk (neighbours start.height start.width) (colour_at start) c q r.last) (sym (stood q e)) v';
          target = r.target;
          next = r.next;
          there = there;
        }

    reached-now :
        (q : ℕ) → colour_at board q ≡ foe → Reaches (neighbours start.height start.width) (colour_at start) q empty →
        Reaches (neighbours start.height start.width) (colour_at board) q empty
    reached-now q e r =
        let v = subst (λ (c : ℕ). Walk (neighbours start.height start.width) (colour_at start) c q r.last) (stood q e) r.walk in
        let standing = stands q (λ z. stone (sym e ∙ z)) in
        let v' =
        walk_kept {col' = colour_at board}
        (λ x u.
        kept-colour x (ap (has t.gone) (sym (walk-owned start is largest stone u)) ∙ standing) ∙ walk-last u)
        v in
        let vacant = unowned-empty start is r.target r.there in
        record {
          apart = λ z. stone (sym e ∙ z);
          last = r.last;
          walk = subst (λ (c : ℕ). Walk (neighbours start.height start.width) (colour_at board) c q r.last) (sym e) v';
          target = r.target;
          next = r.next;
          there = kept-colour r.target (ap (has t.gone) vacant ∙ lost-owned) ∙ r.there;
        }

    owned-now : (q : ℕ) → colour_at board q ≡ foe → owner board q ≢ slots
    owned-now q e = stone-owned board t.table q (λ z. stone (sym e ∙ z))

    same-owner : (q : ℕ) → colour_at board q ≡ foe → owner board q ≡ owner start q
    same-owner q e = kept-owner q (stands q (λ z. stone (sym e ∙ z)))

    -- dead now is dead at the start
    dead-then : (q : ℕ) → colour_at board q ≡ foe → dead board (owner board q) ≡ true → dead start (owner board q) ≡ true
    dead-then q e d =
        rw (same-owner q e)
        (not-no
        (λ alive.
        dead-reaches board t.table taken-largest q (owned-now q e) d
        (rw same_beside
        (reached-now q e (alive-reaches start is largest q (λ z. owned-now q e (same-owner q e ∙ z)) alive)))))

    dead-now : (q : ℕ) → colour_at board q ≡ foe → dead start (owner start q) ≡ true → dead board (owner board q) ≡ true
    dead-now q e d =
        not-no
        (λ alive.
        dead-reaches start is largest q (λ z. owned-now q e (same-owner q e ∙ z)) d
        (reached_then q e (rw same_beside at (alive-reaches board t.table taken-largest q (owned-now q e) alive))))

  -- ---- One neighbour

  pass-by :
      (near : List ℕ) (q : ℕ) (qs : List ℕ) (h : Haul) → Taken near (q ∷ qs) h →
      eqb (colour_at h.board q) foe && dead h.board (owner h.board q) ≡ false → Taken near qs h
  pass-by near q qs h t f =
      record {
        table = t.table;
        tall = t.tall;
        wide = t.wide;
        gone = t.gone;
        owners = t.owners;
        colours = t.colours;
        dead-ones = t.dead-ones;
        counted = t.counted;
        sample = t.sample;
        todo =
            λ r m.
            ⊎_elim
            (λ i. ⊎_elim (λ e. inr (subst (λ (x : ℕ). colour_at start x ≡ foe → dead start (owner start x) ≡ true → lost t.gone x ≡ true) (sym e) away)) inl (Memᴰ.cases_cons i))
            inr
            (t.todo r m);
      }
    where
      away : colour_at start q ≡ foe → dead start (owner start q) ≡ true → lost t.gone q ≡ true
      away e d =
          not-no
          (λ y.
          let now = kept-colour t q y ∙ e in
          not-both (and_both (eq-eqb (colour_at h.board q) foe now) (dead-now t q now d)) f)

  lift-one :
      (near : List ℕ) (q : ℕ) (qs : List ℕ) (h : Haul) → Taken near (q ∷ qs) h →
      colour_at h.board q ≡ foe → dead h.board (owner h.board q) ≡ true → Taken near qs (lifted q h)
  unfolding lifted has remove
  lift-one near q qs h t e d =
      record {
        table = exact-remove board t.table o owned.1 owned.2;
        tall = t.tall;
        wide = t.wide;
        gone = o ∷ t.gone;
        owners = λ x. owner-remove board t.table o owned.1 owned.2 x ∙ ap₂ (λ (u : Bool) (k : ℕ). cond u slots k) (owns x) (t.owners x) ∙ cond-or (eqb (owner start x) o) (lost t.gone x) slots (owner start x);
        colours = λ x. colour-remove board t.table o owned.1 owned.2 x ∙ ap₂ (λ (u : Bool) (k : ℕ). cond u empty k) (owns x) (t.colours x) ∙ cond-or (eqb (owner start x) o) (lost t.gone x) empty (colour_at start x);
        dead-ones = λ u y. ⊎_elim (λ k. last_one u (eqb-true u o k)) (t.dead-ones u) (or_cases (eqb u o) _ y);
        counted = sum;
        sample = λ _. (subst (λ (n : ℕ). point < n) (ap₂ area t.tall t.wide) (t.table.owned point (λ z. owned-now t q e (sym origin ∙ z))).0, or_left _ (sym (owns point) ∙ eq-eqb (owner board point) o origin));
        todo =
            λ r m.
            ⊎_elim
            (λ i. ⊎_elim (λ k. inr (λ _ _. or_left _ (eq-eqb (owner start r) o (ap (owner start) k ∙ sym was)))) inl (Memᴰ.cases_cons i))
            (λ f. inr (λ k k'. or_right (eqb (owner start r) o) (f k k')))
            (t.todo r m);
      }
    where
      board : Board
      board = h.board

      o : ℕ
      o = owner board q

      owned : (q < area board.height board.width) × (o < slots) × (used (chain_in board o) ≡ true)
      owned = t.table.owned q (owned-now t q e)

      was : o ≡ owner start q
      was = same-owner t q e

      -- the slot was not gone before
      fresh : has t.gone o ≡ false
      fresh = ap (has t.gone) was ∙ stands t q (λ z. stone (sym e ∙ z))

      -- what the slot owns now is what it owned at the start
      owns : (x : ℕ) → eqb (owner board x) o ≡ eqb (owner start x) o
      owns x =
          ⊎_elim
          (λ y.
          ne_eqb (owner board x) o (λ k. owned-now t q e (sym k ∙ lost-none t x y))
          ∙ sym (ne_eqb (owner start x) o (λ k. not-both (ap (has t.gone) (sym k) ∙ y) fresh)))
          (λ y. ap (λ (k : ℕ). eqb k o) (kept-owner t x y))
          (decided (lost t.gone x))

      point : ℕ
      point = (chain_in board o).origin

      origin : owner board point ≡ o
      origin = (t.table.exact o owned.1 owned.2).origin

      last_one : (u : ℕ) → u ≡ o → (u < slots) × ((chain_in start u).colour ≡ foe) × (dead start u ≡ true)
      last_one u k =
          subst (λ (v : ℕ). (v < slots) × ((chain_in start v).colour ≡ foe) × (dead start v ≡ true)) (sym k)
          (owned.1, sym (owner-colour start o q (sym was)) ∙ stood t q e, dead-then t q e d)

      points : List ℕ
      points = below (area start.height start.width)

      size : (chain_in board o).count ≡ count (λ x. eqb (owner start x) o) points
      size =
          (t.table.exact o owned.1 owned.2).counted
          ∙ ap (λ (n : ℕ). count (λ x. eqb (owner board x) o) (below n)) (ap₂ area t.tall t.wide)
          ∙ count_same (λ x. eqb (owner board x) o) (λ x. eqb (owner start x) o) points (λ x m. owns x)

      sum : h.stones + (chain_in board o).count ≡ count (λ x. eqb (owner start x) o || lost t.gone x) points
      sum =
          let both =
          count-or (λ x. eqb (owner start x) o) (lost t.gone) points
          (λ x m k. ap (has t.gone) (eqb-true (owner start x) o k) ∙ fresh) in
          let before = t.counted in
          omega (arith, size)

  one_more :
      (near : List ℕ) (q : ℕ) (qs : List ℕ) (h : Haul) → Taken near (q ∷ qs) h →
      ((h' : Haul) → Taken near qs h' → Taken near [] (take_all foe qs h')) → Taken near [] (take_all foe (q ∷ qs) h)
  one_more near q qs h t rest =
      ⊎_elim
      (λ (y : eqb (colour_at h.board q) foe && dead h.board (owner h.board q) ≡ true).
      rw (y, take_all)
      (rest (lifted q h) (lift-one near q qs h t (eqb-true _ foe (and_left _ _ y)) (and_right (eqb (colour_at h.board q) foe) _ y))))
      (λ (f : eqb (colour_at h.board q) foe && dead h.board (owner h.board q) ≡ false).
      rw (f, take_all) (rest h (pass-by near q qs h t f)))
      (decided (eqb (colour_at h.board q) foe && dead h.board (owner h.board q)))

  pub taken : (near qs : List ℕ) (h : Haul) → Taken near qs h → Taken near [] (take_all foe qs h)
  taken near [] h t = t
  taken near (q ∷ qs) h t = one_more near q qs h t (taken near qs)
