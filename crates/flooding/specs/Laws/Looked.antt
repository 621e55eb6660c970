-- Laws of a look at some points: at none, at one that the slot does not want or does, and looks that follow each other.
use Rattle.std.specs.Prelude.{◌≡◌, refl, Bool, false, ◌&&◌, ◌||◌, List, [], ◌∷◌, ◌++◌, ◌≢◌, ℕ, ◌+◌, ◌-◌, ◌≤◌, ◌<◌, length, get_or, set, Option, None, Some}
use Rattle.std.proofs.Math.Path.{sym, ap}
use Rattle.std.proofs.Common.{◌∙◌, subst, le_trans, lt_of_lt_of_le, arith, length-set, ext_get_or}
use Rattle.std.proofs.Math.Bool.{true, cond, and-false, or-false, or-true}
use Rattle.std.proofs.Math.Logic.{⊎_elim}
use Rattle.std.proofs.Math.Nat.{le_refl}
use Rattle.std.specs.Int.Bits.{bit_xor}
use Rattle.std.proofs.Math.Dec.{eqb}
use Rattle.std.proofs.Math.Seq.{get_or-set_same, get_or-set_other}
use borrow.Author.Tests.{eqb-true, eq-eqb, ne_eqb}
use Rattle.rules.specs.Sizes.{max_area, slots}
use Rattle.rules.specs.Lists.{count, below, has, tabulate, present}
use Rattle.rules.specs.Points.{area, back, stay, forth, towards, sides, neighbours}
use Rattle.rules.specs.Colours.{empty, at}
use Rattle.rules.specs.Hash.{hash, stone_hash}
use Rattle.rules.proofs.Laws.Lists.{and_left, and_right, and_both, or_cases, or_left, or_right, not-both, decided, equal_or_not, below_or_not, cond-or}
use Rattle.rules.proofs.Laws.Lists.{length-tabulate, get_or-tabulate-zero, mem_below}
use Rattle.rules.proofs.Laws.Counting.{count_same, count-or, count-equal, below-distinct}
use Rattle.rules.proofs.Laws.Hash.{hash-put}
use Rattle.owning.specs.Owners.{owner_in}
use Rattle.flooding.specs.Flood.{hash_of, seen_words, sees, Saw, Queued, Ready, wanted, Looked}
use Rattle.owning.specs.Laws.Lists.{has-append, has_one}

-- ---- What the slot wants

-- only what it still has
unwanted : (s : ℕ) (ps notes : List ℕ) (p : ℕ) → owner_in notes p ≢ s → wanted s ps notes p ≡ false
unfolding wanted
unwanted s ps notes p n = rw (ne_eqb (owner_in notes p) s n) (and-false (has ps p))

-- and of one point that point alone
wanted-one : (s : ℕ) (notes : List ℕ) (q p : ℕ) → owner_in notes q ≡ s → wanted s (q ∷ []) notes p ≡ eqb p q
unfolding wanted
wanted-one s notes q p e =
    ap (λ (t : Bool). t && eqb (owner_in notes p) s) (has_one q p)
    ∙ ⊎_elim (λ (same : p ≡ q). rw (same, eq-eqb q q refl, eq-eqb (owner_in notes q) s e)) (λ n. rw (ne_eqb p q n)) (equal_or_not p q)

-- ---- What is seen

-- a stone is not
stone-unseen : (notes : List ℕ) (q : ℕ) → owner_in notes q ≢ slots → (b : Bool) (x : ℕ) → b ≡ (b || (eqb (owner_in notes x) slots && has (q ∷ []) x))
stone-unseen notes q stone b x =
    sym
    (ap (λ (t : Bool). b || (eqb (owner_in notes x) slots && t)) (has_one q x)
    ∙ ⊎_elim (λ (same : x ≡ q). rw (same, ne_eqb (owner_in notes q) slots stone) (or-false b))
    (λ n. rw (ne_eqb x q n) (ap (λ (t : Bool). b || t) (and-false (eqb (owner_in notes x) slots)) ∙ or-false b))
    (equal_or_not x q))

-- an empty point is
empty-seen : (notes : List ℕ) (q : ℕ) → owner_in notes q ≡ slots → (x : ℕ) → eqb x q ≡ (eqb (owner_in notes x) slots && has (q ∷ []) x)
empty-seen notes q vacant x =
    ⊎_elim
    (λ (same : x ≡ q). rw (same, has_one q q, eq-eqb q q refl, eq-eqb (owner_in notes q) slots vacant))
    (λ n. rw (has_one q x, ne_eqb x q n) (sym (and-false (eqb (owner_in notes x) slots))))
    (equal_or_not x q)

-- ---- At no point, and at one that the slot does not want

module _ {h w s c : ℕ} {notes queue : List ℕ} {tail hash : ℕ} (is : Ready h w s c notes queue tail hash) (seen : List ℕ) (long : length seen ≡ seen_words) where
  pub looked-none : Looked h w s c [] notes queue seen tail notes queue seen tail hash
  unfolding wanted has
  looked-none = record {
    ready = is;
    longer = le_refl tail;
    kept = λ k l. refl;
    painted = λ p. refl;
    taken = λ k l m. absurd (omega arith);
    stands = λ p t. absurd (not-both t refl);
    balance = refl;
    seen_long = long;
    shored = λ q. sym (ap (λ (t : Bool). sees seen q || t) (and-false (eqb (owner_in notes q) slots)) ∙ or-false (sees seen q));
  }

  module _ (q : ℕ) (other : owner_in notes q ≢ s) where
    never : (p : ℕ) → wanted s (q ∷ []) notes p ≡ false
    unfolding wanted
    never p =
        ap (λ (t : Bool). t && eqb (owner_in notes p) s) (has_one q p)
        ∙ ⊎_elim (λ (same : p ≡ q). rw (same, ne_eqb (owner_in notes q) s other) (and-false (eqb q q))) (λ n. rw (ne_eqb p q n)) (equal_or_not p q)

    -- whatever is then seen, if the point is exactly where it is empty
    looked-kept :
        {seen' : List ℕ} → length seen' ≡ seen_words
        → ((x : ℕ) → sees seen' x ≡ (sees seen x || (eqb (owner_in notes x) slots && has (q ∷ []) x)))
        → Looked h w s c (q ∷ []) notes queue seen tail notes queue seen' tail hash
    looked-kept long' shored = record {
      ready = is;
      longer = le_refl tail;
      kept = λ k l. refl;
      painted = λ p. rw (never p);
      taken = λ k l m. absurd (omega arith);
      stands = λ p t. absurd (not-both t (never p));
      balance = refl;
      seen_long = long';
      shored = shored;
    }

    pub looked-past : owner_in notes q ≢ slots → Looked h w s c (q ∷ []) notes queue seen tail notes queue seen tail hash
    looked-past stone = looked-kept long (λ x. stone-unseen notes q stone (sees seen x) x)

    pub looked-empty : {seen' : List ℕ} → owner_in notes q ≡ slots → Saw q seen seen' → Looked h w s c (q ∷ []) notes queue seen tail notes queue seen' tail hash
    looked-empty vacant saw = looked-kept saw.long (λ x. saw.points x ∙ ap (λ (t : Bool). sees seen x || t) (empty-seen notes q vacant x))

-- ---- At a point that the slot wants

-- a list made anew where one place changes
tabulate-set : (f g : ℕ → ℕ) (n q v : ℕ) → q < n → g q ≡ v → ((p : ℕ) → p ≢ q → g p ≡ f p) → tabulate g 0 n ≡ set (tabulate f 0 n) q v
tabulate-set f g n q v on here else =
    ext_get_or 0 (tabulate g 0 n) (set (tabulate f 0 n) q v)
    (length-tabulate g 0 n ∙ sym (length-set (tabulate f 0 n) q v ∙ length-tabulate f 0 n))
    (λ p l.
    let m : p < n = omega (arith, length-tabulate g 0 n) in
    get_or-tabulate-zero g n p 0 m
    ∙ ⊎_elim
    (λ (same : p ≡ q).
    rw same (here ∙ sym (get_or-set_same (tabulate f 0 n) q v 0 (omega (arith, length-tabulate f 0 n)))))
    (λ d. else p d ∙ sym (get_or-set_other (tabulate f 0 n) q p v 0 d ∙ get_or-tabulate-zero f n p 0 m))
    (equal_or_not p q))

module _ {h w s c : ℕ} {notes queue : List ℕ} {tail sum : ℕ} (is : Ready h w s c notes queue tail sum) (q : ℕ) (on : q < area h w) (e : owner_in notes q ≡ s) where
  within : q < length notes
  within = omega (arith, is.fits, is.notes_long)

  paint-here : owner_in (set notes q (slots + c)) q ≡ slots + c
  unfolding owner_in
  paint-here = get_or-set_same notes q (slots + c) slots within

  paint-else : (p : ℕ) → p ≢ q → owner_in (set notes q (slots + c)) p ≡ owner_in notes p
  unfolding owner_in
  paint-else p n = get_or-set_other notes q p (slots + c) slots n

  -- one point less is left
  left : count (λ p. eqb (owner_in notes p) s) (below (area h w)) ≡ count (λ p. eqb (owner_in (set notes q (slots + c)) p) s) (below (area h w)) + 1
  left =
      count_same (λ p. eqb (owner_in notes p) s) (λ p. eqb (owner_in (set notes q (slots + c)) p) s || eqb p q) (below (area h w)) (λ p m. each p)
      ∙ count-or (λ p. eqb (owner_in (set notes q (slots + c)) p) s) (λ p. eqb p q) (below (area h w))
      (λ p m t. ne_eqb p q (λ same. painted (sym (ap (owner_in (set notes q (slots + c))) same ∙ paint-here) ∙ eqb-true _ s t)))
      ∙ ap (λ (n : ℕ). count (λ p. eqb (owner_in (set notes q (slots + c)) p) s) (below (area h w)) + n)
      (count-equal q (below (area h w)) (below-distinct (area h w)) (mem_below (area h w) q on))
    where
      painted : slots + c ≢ s
      painted z = omega (arith, is.low)

      each : (p : ℕ) → eqb (owner_in notes p) s ≡ (eqb (owner_in (set notes q (slots + c)) p) s || eqb p q)
      each p =
          ⊎_elim
          (λ (same : p ≡ q). rw (same, eq-eqb (owner_in notes q) s e, eq-eqb q q refl) (sym (or-true (eqb (owner_in (set notes q (slots + c)) q) s))))
          (λ n. rw (paint-else p n, ne_eqb p q n) (sym (or-false (eqb (owner_in notes p) s))))
          (equal_or_not p q)

  -- there is room for it in the queue
  pub room : tail < max_area
  room = let one = left in omega (arith, is.room)

  hashed : bit_xor sum (stone_hash q c) ≡ hash_of h w (owner_in (set notes q (slots + c)))
  unfolding hash_of at
  hashed =
      let old = tabulate (λ p. owner_in notes p - slots) 0 (area h w) in
      let long = length-tabulate (λ p. owner_in notes p - slots) 0 (area h w) in
      ap (λ (x : ℕ). bit_xor x (stone_hash q c)) is.hashed
      ∙ sym
      (ap hash
      (tabulate-set (λ p. owner_in notes p - slots) (λ p. owner_in (set notes q (slots + c)) p - slots) (area h w) q c on
      (let here = paint-here in omega arith) (λ p n. ap (λ (x : ℕ). x - slots) (paint-else p n)))
      ∙ hash-put old q c (omega arith)
      (get_or-tabulate-zero (λ p. owner_in notes p - slots) (area h w) q empty on ∙ omega (arith, is.low)))

  pub looked-new :
      (seen : List ℕ) → length seen ≡ seen_words
      → Looked h w s c (q ∷ []) notes queue seen tail (set notes q (slots + c)) (set queue tail q) seen (tail + 1) (bit_xor sum (stone_hash q c))
  looked-new seen long = record {
    ready = record {
      low = is.low;
      coloured = is.coloured;
      fits = is.fits;
      notes_long = length-set notes q (slots + c) ∙ is.notes_long;
      queue_long = length-set queue tail q ∙ is.queue_long;
      room = let one = left in omega (arith, is.room);
      hashed = hashed;
    };
    longer = omega arith;
    kept = λ k l. get_or-set_other queue tail k q 0 (λ z. omega arith);
    painted = λ p.
        ⊎_elim
        (λ (same : p ≡ q). rw (same, wanted-one s notes q q e, eq-eqb q q refl) paint-here)
        (λ n. paint-else p n ∙ rw (wanted-one s notes q p e, ne_eqb p q n))
        (equal_or_not p q);
    taken = λ k l m.
        let last : k ≡ tail = omega arith in
        ap (λ (x : ℕ). wanted s (q ∷ []) notes (get_or (set queue tail q) x 0)) last
        ∙ ap (wanted s (q ∷ []) notes) stands_here ∙ wanted-one s notes q q e ∙ eq-eqb q q refl;
    stands = λ p t. (tail, omega arith, stands_here ∙ sym (eqb-true p q (sym (wanted-one s notes q p e) ∙ t)));
    balance = let one = left in omega arith;
    seen_long = long;
    shored = λ x. stone-unseen notes q (λ v. omega (arith, is.low)) (sees seen x) x;
  }
    where
      stands_here : get_or (set queue tail q) tail 0 ≡ q
      stands_here = let r = room in get_or-set_same queue tail q 0 (omega (arith, is.queue_long))

-- ---- One look after another

module _ {h w s c : ℕ} {xs ys notes notes' notes'' queue queue' queue'' seen seen' seen'' : List ℕ} {tail tail' tail'' sum' sum'' : ℕ}
    (a : Looked h w s c xs notes queue seen tail notes' queue' seen' tail' sum')
    (b : Looked h w s c ys notes' queue' seen' tail' notes'' queue'' seen'' tail'' sum'') where
  painted-not : slots + c ≢ s
  painted-not z = omega (arith, a.ready.low)

  -- what the second look wants is what the first did not want already
  wanted-then : (p : ℕ) → wanted s (xs ++ ys) notes p ≡ (wanted s ys notes' p || wanted s xs notes p)
  unfolding wanted
  wanted-then p = ⊎_elim first second (decided (wanted s xs notes p))
    where
      first : wanted s xs notes p ≡ true → wanted s (xs ++ ys) notes p ≡ (wanted s ys notes' p || wanted s xs notes p)
      first t =
          and_both (has-append xs ys p ∙ or_left (has ys p) (and_left (has xs p) (eqb (owner_in notes p) s) t)) (and_right (has xs p) (eqb (owner_in notes p) s) t)
          ∙ sym (or_right (wanted s ys notes' p) t)

      neither : (x y e : Bool) → (x && e) ≡ false → ((x || y) && e) ≡ (y && e || x && e)
      neither true y true f = absurd (not-both refl f)
      neither true y false f = sym (ap (λ (t : Bool). t || false) (and-false y))
      neither false y e f = sym (or-false (y && e))

      second : wanted s xs notes p ≡ false → wanted s (xs ++ ys) notes p ≡ (wanted s ys notes' p || wanted s xs notes p)
      second f =
          let same : owner_in notes' p ≡ owner_in notes p = a.painted p ∙ ap (λ (t : Bool). cond t (slots + c) (owner_in notes p)) f in
          ap (λ (t : Bool). t && eqb (owner_in notes p) s) (has-append xs ys p)
          ∙ neither (has xs p) (has ys p) (eqb (owner_in notes p) s) f
          ∙ ap (λ (n : ℕ). (has ys p && eqb n s) || (has xs p && eqb (owner_in notes p) s)) (sym same)

  -- a look leaves the empty points
  empty-kept : (q : ℕ) → eqb (owner_in notes' q) slots ≡ eqb (owner_in notes q) slots
  unfolding wanted
  empty-kept q = ⊎_elim first second (decided (wanted s xs notes q))
    where
      first : wanted s xs notes q ≡ true → eqb (owner_in notes' q) slots ≡ eqb (owner_in notes q) slots
      first t =
          let e = eqb-true (owner_in notes q) s (and_right (has xs q) _ t) in
          let painted : owner_in notes' q ≡ slots + c = a.painted q ∙ ap (λ (t : Bool). cond t (slots + c) (owner_in notes q)) t in
          ne_eqb (owner_in notes' q) slots (λ z. omega (arith, a.ready.coloured)) ∙ sym (ne_eqb (owner_in notes q) slots (λ z. omega (arith, a.ready.low)))

      second : wanted s xs notes q ≡ false → eqb (owner_in notes' q) slots ≡ eqb (owner_in notes q) slots
      second f = ap (λ (n : ℕ). eqb n slots) (a.painted q ∙ ap (λ (t : Bool). cond t (slots + c) (owner_in notes q)) f)

  pub looked-then : Looked h w s c (xs ++ ys) notes queue seen tail notes'' queue'' seen'' tail'' sum''
  looked-then = record {
    ready = b.ready;
    longer = le_trans a.longer b.longer;
    kept = λ k l. b.kept k (lt_of_lt_of_le l a.longer) ∙ a.kept k l;
    painted = λ p.
        b.painted p
        ∙ ap (cond (wanted s ys notes' p) (slots + c)) (a.painted p)
        ∙ cond-or (wanted s ys notes' p) (wanted s xs notes p) (slots + c) (owner_in notes p)
        ∙ ap (λ (t : Bool). cond t (slots + c) (owner_in notes p)) (sym (wanted-then p));
    taken = λ k l m. ⊎_elim (old k l) (new k m) (below_or_not k tail');
    stands = λ p t. ⊎_elim (b.stands p) (λ u. let (k, l, e) = a.stands p u in (k, lt_of_lt_of_le l b.longer, b.kept k l ∙ e)) (or_cases _ _ (sym (wanted-then p) ∙ t));
    balance = b.balance ∙ a.balance;
    seen_long = b.seen_long;
    shored = λ q.
        b.shored q
        ∙ ap (λ (t : Bool). t || (eqb (owner_in notes' q) slots && has ys q)) (a.shored q)
        ∙ ap (λ (t : Bool). (sees seen q || (eqb (owner_in notes q) slots && has xs q)) || (t && has ys q)) (empty-kept q)
        ∙ both (sees seen q) (eqb (owner_in notes q) slots) (has xs q) (has ys q)
        ∙ ap (λ (t : Bool). sees seen q || (eqb (owner_in notes q) slots && t)) (sym (has-append xs ys q));
  }
    where
      old : (k : ℕ) → tail ≤ k → k < tail' → wanted s (xs ++ ys) notes (get_or queue'' k 0) ≡ true
      old k l m =
          wanted-then (get_or queue'' k 0)
          ∙ or_right (wanted s ys notes' (get_or queue'' k 0)) (ap (wanted s xs notes) (b.kept k m) ∙ a.taken k l m)

      new : (k : ℕ) → k < tail'' → tail' ≤ k → wanted s (xs ++ ys) notes (get_or queue'' k 0) ≡ true
      new k m l = wanted-then (get_or queue'' k 0) ∙ or_left (wanted s xs notes (get_or queue'' k 0)) (b.taken k l m)

      both : (f e x y : Bool) → ((f || (e && x)) || (e && y)) ≡ (f || (e && (x || y)))
      both true e x y = refl
      both false true x y = refl
      both false false x y = refl

-- as the code pushes
pub looked-pushed :
    {h w s c : ℕ} {notes queue notes' queue' : List ℕ} {tail sum tail' sum' : ℕ} (seen : List ℕ) → length seen ≡ seen_words → Ready h w s c notes queue tail sum
    → {q : ℕ} → q < area h w → owner_in notes q ≡ s → Queued c q notes queue tail sum notes' queue' tail' sum'
    → Looked h w s c (q ∷ []) notes queue seen tail notes' queue' seen tail' sum'
looked-pushed seen long is {q} on e push = rw (push.noted, push.queued, push.counted, push.hashed) (looked-new is q on e seen long)

-- ---- At the four sides of a point

four : (a b c d : Option ℕ) → present (a ∷ []) ++ present (b ∷ []) ++ present (c ∷ []) ++ present (d ∷ []) ≡ present (a ∷ b ∷ c ∷ d ∷ [])
four None None None d = refl
four None None (Some z) d = refl
four None (Some y) None d = refl
four None (Some y) (Some z) d = refl
four (Some x) None None d = refl
four (Some x) None (Some z) d = refl
four (Some x) (Some y) None d = refl
four (Some x) (Some y) (Some z) d = refl

pub looked-around :
    (h w p : ℕ) {s c tail tail₁ tail₂ tail₃ tail₄ sum₁ sum₂ sum₃ sum₄ : ℕ} {a b d e : Option ℕ}
    {notes queue seen notes₁ queue₁ seen₁ notes₂ queue₂ seen₂ notes₃ queue₃ seen₃ notes₄ queue₄ seen₄ : List ℕ}
    → a ≡ towards h w p forth stay → b ≡ towards h w p back stay → d ≡ towards h w p stay forth → e ≡ towards h w p stay back
    → Looked h w s c (present (a ∷ [])) notes queue seen tail notes₁ queue₁ seen₁ tail₁ sum₁
    → Looked h w s c (present (b ∷ [])) notes₁ queue₁ seen₁ tail₁ notes₂ queue₂ seen₂ tail₂ sum₂
    → Looked h w s c (present (d ∷ [])) notes₂ queue₂ seen₂ tail₂ notes₃ queue₃ seen₃ tail₃ sum₃
    → Looked h w s c (present (e ∷ [])) notes₃ queue₃ seen₃ tail₃ notes₄ queue₄ seen₄ tail₄ sum₄
    → Looked h w s c (neighbours h w p) notes queue seen tail notes₄ queue₄ seen₄ tail₄ sum₄
unfolding neighbours sides
looked-around h w p {s} {c} {tail} {tail₄} {sum₄} {a} {b} {d} {e} {notes} {queue} {seen} {notes₄} {queue₄} {seen₄} down up east west first second third last =
    let sides-are : present (a ∷ b ∷ d ∷ e ∷ [])
    ≡ present (towards h w p forth stay ∷ towards h w p back stay ∷ towards h w p stay forth ∷ towards h w p stay back ∷ []) =
    λ i. present (down i ∷ up i ∷ east i ∷ west i ∷ []) in
    subst (λ (ps : List ℕ). Looked h w s c ps notes queue seen tail notes₄ queue₄ seen₄ tail₄ sum₄)
    (four a b d e ∙ sides-are) (looked-then (looked-then (looked-then first second) third) last)
