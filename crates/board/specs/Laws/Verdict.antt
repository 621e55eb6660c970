-- Laws of the whole judgement: what the notes say after some slots, that each test that fails is a no, and that when all but the hash are
-- passed the hash decides.
use Rattle.std.specs.Prelude.{◌≡◌, false, ◌&&◌, List, ◌≢◌, eqb, ltb, leb, length, replicate}
use Rattle.std.proofs.Math.Path.{sym, ap, fun_ext}
use Rattle.std.proofs.Common.{◌∙◌, mul-le-mul, mul-le-mul_right, mul-pos, one-mul, ext_get_or}
use Rattle.std.proofs.Math.Bool.{Bool, true, cond}
use Rattle.std.proofs.Math.Logic.{⊎_elim}
use Prim.Native.Nat.{ℕ, ◌+◌, ◌-◌, ◌≤◌, ◌<◌}
use native.Mathlib.Omega.{arith}
use Rattle.std.proofs.Math.ListN.{length-replicate}
use borrow.Author.Count.{below_none, below_more}
use borrow.Author.Tests.{leb-true, ltb-true, ltb-false, lt-ltb, le-ltb, ne_eqb}
use Rattle.rules.specs.Sizes.{max_side, max_area, slots}
use Rattle.rules.specs.Lists.{all, below, tabulate}
use Rattle.rules.specs.Points.{area}
use Rattle.rules.specs.Calls.{side_ok}
use Rattle.rules.specs.Colours.{empty}
use Rattle.rules.specs.Hash.{entry, hash}
use Rattle.rules.proofs.Laws.Lists.{and_left, and_right, all-each, mem_below, not_yes, decided, equal_or_not, get_or-within, length-tabulate, get_or-tabulate-zero, get_or-replicate-same}
use Rattle.rules.proofs.Laws.Colours.{player-stone}
use Rattle.chains.specs.declared.group.Chain.{Chain}
use Rattle.chains.specs.Group.{used}
use Rattle.board.specs.declared.goban.Board.{Board}
use Rattle.board.specs.Board.{owner, chain_in, colour_at}
use Rattle.board.specs.True.{Shaped}
use Rattle.owning.specs.Owners.{owner_in, placed, row_apart, column_apart, RowStarts}
use Rattle.flooding.specs.Flood.{found, hash_of, Passed}
use Rattle.board.specs.Judge.{chain_good, slot_good, found_below, noted, judged, Lent}
use Rattle.owning.specs.Laws.Lists.{all-below, all-fails-below, and-fails, then-fails}
use Rattle.board.specs.Laws.NewBoard.{hash-none}
use Rattle.flooding.specs.Laws.Found.{found-not, found-same}
use Rattle.board.specs.Laws.Slot.{chain_same, free-good, used-good}
use Rattle.board.specs.Laws.Tests.{used-says, placed-says, slot-says}

-- ---- Sizes

side-low : (n : ℕ) → side_ok n ≡ true → n ≤ max_side
unfolding side_ok
side-low n e = leb-true n max_side (and_right (ltb 0 n) (leb n max_side) e)

pub side-some : (n : ℕ) → side_ok n ≡ true → 0 < n
unfolding side_ok
side-some n e = ltb-true 0 n (and_left (ltb 0 n) (leb n max_side) e)

pub sides-fit : (h w : ℕ) → side_ok h ≡ true → side_ok w ≡ true → area h w ≤ max_area
unfolding area
sides-fit h w tall wide = mul-le-mul (side-low h tall) (side-low w wide)

pub sides-some : (h w : ℕ) → 0 < h → 0 < w → 0 < area h w
unfolding area
sides-some h w tall wide = mul-pos tall wide

pub sides-wide : (h w : ℕ) → 0 < h → w ≤ area h w
unfolding area
sides-wide h w tall = let one = mul-le-mul_right w tall in omega (arith, one-mul w)

-- ---- Points that are well placed

-- after some slots: those passed are good, and their stones are noted
pub record Judging (b : Board) (notes queue : List ℕ) (sum slot : ℕ) : Type 0 where
  pub within : slot ≤ slots
  pub good : (s : ℕ) → s < slot → slot_good b.height b.width (owner b) b.next s (chain_in b s) ≡ true
  pub notes_long : length notes ≡ max_area
  pub queue_long : length queue ≡ max_area
  pub hashed : sum ≡ hash_of b.height b.width (owner_in notes)
  pub notes-are : (p : ℕ) → owner_in notes p ≡ noted b slot p

module _ (b : Board) (shape : Shaped b) (on : all (placed b.height b.width (owner b)) (below max_area) ≡ true) where
  placed_at : (p : ℕ) → owner b p ≢ slots → (p < area b.height b.width) × (owner b p < slots)
  unfolding owner
  placed_at p n =
      let within : p < max_area = omega (arith, get_or-within b.owners p slots n, shape.owners) in
      ⊎_elim (λ e. absurd (n e)) (λ t. t) ((placed-says b.height b.width (owner b) p).0 (all-each (placed b.height b.width (owner b)) on (mem_below max_area p within)))

  pub placed-low : (p : ℕ) → owner b p ≤ slots
  placed-low p = ⊎_elim (λ e. omega arith) (λ n. let (_, l) = placed_at p n in omega arith) (equal_or_not (owner b p) slots)

  placed_on : (p : ℕ) → owner b p < slots → p < area b.height b.width
  placed_on p l = (placed_at p (λ e. omega arith)).0

  -- ---- The notes, slot by slot

  -- before the first slot they are the owners
  noted-none : (p : ℕ) → noted b 0 p ≡ owner b p
  unfolding noted found_below
  noted-none p =
      ap
      (λ (t : Bool).
      cond (t && (used (chain_in b (owner b p)) && found b.height b.width (owner b) (owner b p) (chain_in b (owner b p)).origin p)) (slots + colour_at b p) (owner b p))
      (le-ltb (owner b p) 0 (omega arith))

  -- and have no stone's number in the hash
  hash-start : 0 ≡ hash_of b.height b.width (owner b)
  unfolding hash_of hash
  hash-start =
      let n = area b.height b.width in
      let cols = tabulate (λ p. owner b p - slots) 0 n in
      sym
      (ap hash
      (ext_get_or empty cols (replicate n empty) (length-tabulate (λ p. owner b p - slots) 0 n ∙ sym (length-replicate {A = ℕ} n empty))
      (λ p l.
      let low = placed-low p in
      get_or-tabulate-zero (λ p. owner b p - slots) n p empty (omega (arith, length-tabulate (λ p. owner b p - slots) 0 n))
      ∙ omega arith
      ∙ sym (get_or-replicate-same n p empty)))
      ∙ hash-none n 0)

  -- one slot more
  noted-next :
      (n p : ℕ) →
      cond (used (chain_in b n) && found b.height b.width (owner b) n (chain_in b n).origin p) (slots + (chain_in b n).colour) (noted b n p)
      ≡ noted b (n + 1) p
  unfolding noted found_below colour_at
  noted-next n p = ⊎_elim here else (equal_or_not (owner b p) n)
    where
      test : ℕ → Bool
      test s = used (chain_in b s) && found b.height b.width (owner b) s (chain_in b s).origin p

      here :
          owner b p ≡ n →
          cond (test n) (slots + (chain_in b n).colour) (cond (ltb (owner b p) n && test (owner b p)) (slots + (chain_in b (owner b p)).colour) (owner b p))
          ≡ cond (ltb (owner b p) (n + 1) && test (owner b p)) (slots + (chain_in b (owner b p)).colour) (owner b p)
      here e =
          ap (λ (s : ℕ). cond (test s) (slots + (chain_in b s).colour) (cond (ltb (owner b p) n && test (owner b p)) (slots + (chain_in b (owner b p)).colour) (owner b p)))
          (sym e)
          ∙ ap (λ (t : Bool). cond (test (owner b p)) (slots + (chain_in b (owner b p)).colour) (cond (t && test (owner b p)) (slots + (chain_in b (owner b p)).colour) (owner b p)))
          (le-ltb (owner b p) n (omega arith))
          ∙ ap (λ (t : Bool). cond (t && test (owner b p)) (slots + (chain_in b (owner b p)).colour) (owner b p)) (sym (lt-ltb (owner b p) (n + 1) (omega arith)))

      else :
          owner b p ≢ n →
          cond (test n) (slots + (chain_in b n).colour) (cond (ltb (owner b p) n && test (owner b p)) (slots + (chain_in b (owner b p)).colour) (owner b p))
          ≡ cond (ltb (owner b p) (n + 1) && test (owner b p)) (slots + (chain_in b (owner b p)).colour) (owner b p)
      else a =
          ap (λ (t : Bool). cond t (slots + (chain_in b n).colour) (cond (ltb (owner b p) n && test (owner b p)) (slots + (chain_in b (owner b p)).colour) (owner b p)))
          (then-fails (used (chain_in b n)) (found-not b.height b.width (owner b) n (chain_in b n).origin p a))
          ∙ ap (λ (t : Bool). cond (t && test (owner b p)) (slots + (chain_in b (owner b p)).colour) (owner b p))
          (⊎_elim (λ l. l ∙ sym (lt-ltb (owner b p) (n + 1) (let k = ltb-true (owner b p) n l in omega arith)))
          (λ f. f ∙ sym (le-ltb (owner b p) (n + 1) (let k = ltb-false (owner b p) n f in omega arith))) (decided (ltb (owner b p) n)))

  -- ---- After some slots

  pub judging-begin : Judging b b.owners (replicate max_area 0) 0 0
  unfolding owner owner_in
  judging-begin = record {
    within = omega arith;
    good = below_none _;
    notes_long = shape.owners;
    queue_long = length-replicate {A = ℕ} max_area 0;
    hashed = hash-start;
    notes-are = λ p. sym (noted-none p);
  }

  module _ {notes queue : List ℕ} {sum slot : ℕ} (is : Judging b notes queue sum slot) (low : slot < slots) where
    -- a stone that was found is of a slot passed, and has a colour
    noted_other : (p : ℕ) → found_below b slot p ≡ true → (owner b p < slot) × (noted b slot p ≢ slots) × (slots ≤ noted b slot p)
    unfolding noted found_below colour_at
    noted_other p t =
        let s = owner b p in
        let under : s < slot = ltb-true s slot (and_left (ltb s slot) _ t) in
        let u : used (chain_in b s) ≡ true = and_left _ _ (and_right (ltb s slot) _ t) in
        let told = ⊎_elim (λ n. absurd (n u)) (λ x. x) ((slot-says b.height b.width (owner b) b.next s (chain_in b s)).0 (is.good s under)) in
        let stone = player-stone (chain_in b s).colour told.colour in
        let e : cond (found_below b slot p) (slots + (chain_in b s).colour) s ≡ slots + (chain_in b s).colour = ap (λ (x : Bool). cond x (slots + (chain_in b s).colour) s) t in
        (under, λ z. stone (omega arith), omega arith)

    noted-owner : (p : ℕ) → found_below b slot p ≡ false → noted b slot p ≡ owner b p
    unfolding noted
    noted-owner p f = ap (λ (t : Bool). cond t (slots + colour_at b p) (owner b p)) f

    -- of the slot's points and of the empty ones the notes say what the owners say
    ours : (p : ℕ) → eqb (owner_in notes p) slot ≡ eqb (owner b p) slot
    ours p =
        ap (λ (x : ℕ). eqb x slot) (is.notes-are p)
        ∙ ⊎_elim
        (λ t. let (under, _, above) = noted_other p t in ne_eqb (noted b slot p) slot (λ z. omega arith) ∙ sym (ne_eqb (owner b p) slot (λ z. omega arith)))
        (λ f. ap (λ (x : ℕ). eqb x slot) (noted-owner p f)) (decided (found_below b slot p))

    vacant : (p : ℕ) → eqb (owner_in notes p) slots ≡ eqb (owner b p) slots
    vacant p =
        ap (λ (x : ℕ). eqb x slots) (is.notes-are p)
        ∙ ⊎_elim (λ t. let (under, n, _) = noted_other p t in ne_eqb (noted b slot p) slots n ∙ sym (ne_eqb (owner b p) slots (λ z. omega arith)))
        (λ f. ap (λ (x : ℕ). eqb x slots) (noted-owner p f)) (decided (found_below b slot p))

    standing : (p : ℕ) → owner_in notes p < slots → p < area b.height b.width
    standing p l =
        ⊎_elim (λ t. let (_, _, above) = noted_other p t in let e = is.notes-are p in absurd (omega arith))
        (λ f. let e = is.notes-are p ∙ noted-owner p f in placed_on p (omega arith)) (decided (found_below b slot p))

    -- so a used slot is judged as its chain is by the notes
    pub judging-chain :
        {chain : Chain} → chain ≡ chain_in b slot → chain.count ≢ 0
        → slot_good b.height b.width (owner b) b.next slot (chain_in b slot) ≡ chain_good b.height b.width (owner_in notes) b.next slot chain
    judging-chain {chain} at some =
        ap (slot_good b.height b.width (owner b) b.next slot) (sym at)
        ∙ used-good b.height b.width (owner b) b.next slot chain ((used-says chain).1 some)
        ∙ sym (chain_same b.height b.width (owner_in notes) (owner b) b.next slot chain ours vacant)

    pub judging-lent :
        {starts : List Bool} → RowStarts b.height b.width starts
        → area b.height b.width ≤ max_area → Lent b.height b.width slot b.next starts notes queue sum
    judging-lent starting fits = record {
      low = low;
      fits = fits;
      links_long = shape.links;
      notes_long = is.notes_long;
      queue_long = is.queue_long;
      starting = starting;
      hashed = is.hashed;
      standing = standing;
    }

    -- one slot more
    judging-next :
        {notes' queue' : List ℕ} {sum' : ℕ} {chain : Chain} → chain ≡ chain_in b slot
        → slot_good b.height b.width (owner b) b.next slot (chain_in b slot) ≡ true
        → Passed b.height b.width (λ p. used chain && found b.height b.width (owner_in notes) slot chain.origin p) chain.colour notes notes' queue' sum'
        → Judging b notes' queue' sum' (slot + 1)
    judging-next {notes'} {queue'} {sum'} {chain} at good passed = record {
      within = omega arith;
      good = below_more _ slot is.good good;
      notes_long = passed.notes_long;
      queue_long = passed.queue_long;
      hashed = passed.hashed;
      notes-are = λ p.
          passed.painted p
          ∙ ap (λ (c : Chain). cond (used c && found b.height b.width (owner_in notes) slot c.origin p) (slots + c.colour) (owner_in notes p)) at
          ∙ ap (λ (f : ℕ → Bool). cond (used (chain_in b slot) && f p) (slots + (chain_in b slot).colour) (owner_in notes p))
          (found-same b.height b.width (owner_in notes) (owner b) slot (chain_in b slot).origin ours)
          ∙ ap (cond (used (chain_in b slot) && found b.height b.width (owner b) slot (chain_in b slot).origin p) (slots + (chain_in b slot).colour)) (is.notes-are p)
          ∙ noted-next slot p;
    }

    -- of a free one nothing is painted
    pub judging-free : {chain : Chain} → chain ≡ chain_in b slot → chain.count ≡ 0 → Judging b notes queue sum (slot + 1)
    judging-free {chain} at none =
        let free : used chain ≡ false = not_yes (λ u. (used-says chain).0 u none) in
        judging-next at (ap (slot_good b.height b.width (owner b) b.next slot) (sym at) ∙ free-good b.height b.width (owner b) b.next slot chain free)
        (record { notes_long = is.notes_long; queue_long = is.queue_long; hashed = is.hashed; painted = λ p. rw free })

    pub judging-used :
        {notes' queue' : List ℕ} {sum' : ℕ} {chain : Chain} → chain ≡ chain_in b slot → chain.count ≢ 0
        → chain_good b.height b.width (owner_in notes) b.next slot chain ≡ true
        → Passed b.height b.width (found b.height b.width (owner_in notes) slot chain.origin) chain.colour notes notes' queue' sum'
        → Judging b notes' queue' sum' (slot + 1)
    judging-used {chain = chain} at some good passed = judging-next at (judging-chain at some ∙ good) (rw ((used-says chain).1 some) passed)

  -- after all of them
  module _ {notes queue : List ℕ} {sum slot : ℕ} (is : Judging b notes queue sum slot) (done : slots ≤ slot) where
    pub notes-all : owner_in notes ≡ noted b slots
    notes-all = fun_ext (λ p. is.notes-are p ∙ ap (λ (n : ℕ). noted b n p) (let e : slot ≡ slots = omega (arith, is.within) in e))

-- ---- Each test of the code is one of the judgement

module _ (b : Board) where
  abbrev slots_good : Bool
  slots_good = all (λ s. slot_good b.height b.width (owner b) b.next s (chain_in b s)) (below slots)

  abbrev pub seen_good : (ℕ → ℕ) → Bool
  seen_good note = all (λ p. leb slots (note p)) (below (area b.height b.width))

  abbrev pub rows_good : (ℕ → ℕ) → Bool
  rows_good note = all (row_apart (owner b) note b.width) (below (area b.height b.width))

  abbrev pub columns_good : (ℕ → ℕ) → Bool
  columns_good note = all (column_apart (owner b) note b.width) (below (area b.height b.width))

  abbrev all_placed : Bool
  all_placed = all (placed b.height b.width (owner b)) (below max_area)

  pub no-height : side_ok b.height ≡ false → judged b ≡ false
  unfolding judged
  no-height e = and-fails _ e

  pub no-width : side_ok b.width ≡ false → judged b ≡ false
  unfolding judged
  no-width e = then-fails (side_ok b.height) (and-fails _ e)

  pub not-placed : all_placed ≡ false → judged b ≡ false
  unfolding judged
  not-placed e = then-fails (side_ok b.height) (then-fails (side_ok b.width) (and-fails _ e))

  pub bad-slot : (s : ℕ) → s < slots → slot_good b.height b.width (owner b) b.next s (chain_in b s) ≡ false → judged b ≡ false
  unfolding judged
  bad-slot s l e =
      then-fails (side_ok b.height) (then-fails (side_ok b.width) (then-fails all_placed
      (and-fails _ (all-fails-below (λ s. slot_good b.height b.width (owner b) b.next s (chain_in b s)) slots s l e))))

  pub not_seen : seen_good (noted b slots) ≡ false → judged b ≡ false
  unfolding judged
  not_seen e = then-fails (side_ok b.height) (then-fails (side_ok b.width) (then-fails all_placed (then-fails slots_good (and-fails _ e))))

  pub not-rows : rows_good (noted b slots) ≡ false → judged b ≡ false
  unfolding judged
  not-rows e =
      then-fails (side_ok b.height) (then-fails (side_ok b.width) (then-fails all_placed (then-fails slots_good
      (then-fails (seen_good (noted b slots)) (and-fails _ e)))))

  pub not-columns : columns_good (noted b slots) ≡ false → judged b ≡ false
  unfolding judged
  not-columns e =
      then-fails (side_ok b.height) (then-fails (side_ok b.width) (then-fails all_placed (then-fails slots_good
      (then-fails (seen_good (noted b slots)) (then-fails (rows_good (noted b slots)) (and-fails _ e))))))

  pub hash-decides :
      side_ok b.height ≡ true
      → side_ok b.width ≡ true
      → all_placed ≡ true
      → ((s : ℕ) → s < slots → slot_good b.height b.width (owner b) b.next s (chain_in b s) ≡ true)
      → seen_good (noted b slots) ≡ true
      → rows_good (noted b slots) ≡ true
      → columns_good (noted b slots) ≡ true
      → judged b ≡ eqb b.hash (hash_of b.height b.width (noted b slots))
  unfolding judged
  hash-decides tall wide on good seen far near =
      rw (tall, wide, on, all-below (λ s. slot_good b.height b.width (owner b) b.next s (chain_in b s)) slots good, seen, far, near)
