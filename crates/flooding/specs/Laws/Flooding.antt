-- Laws of the flood of one slot: what stands in the queue was reached from the origin, what was looked at has all its kin painted, and
-- so at the end exactly what is joined with the origin is painted.
use Rattle.std.specs.Prelude.{◌≡◌, refl, Bool, true, false, cond, ◌&&◌, ◌||◌, ◌≢◌, ◌⊎◌, ℕ, ◌+◌, ◌≤◌, ◌<◌, length}
use Rattle.std.proofs.Math.Path.{sym, ap, subst}
use Rattle.std.proofs.Common.{ap₂, ◌∙◌, inl, inr, not-suc-le-zero, lt_of_lt_of_le, arith, below_more}
use Rattle.std.proofs.Math.Bool.{and-false, or-false, and-or_distrib_left}
use mathlib.Core.List.{List, [], ◌∷◌, Memᴰ}
use Rattle.std.proofs.Math.Logic.{⊎_elim}
use Rattle.std.proofs.Math.Dec.{eqb}
use Rattle.std.proofs.Math.ListN.{get_or}
use borrow.Author.Tests.{eqb-true, eq-eqb, ne_eqb}
use Rattle.rules.specs.Sizes.{slots}
use Rattle.rules.specs.Lists.{any, count, below, has}
use Rattle.rules.specs.Points.{area, neighbours}
use Rattle.rules.specs.Reach.{Walk, here, step}
use Rattle.rules.proofs.Laws.Lists.{and_left, and_right, and_both, not_yes, decided, equal_or_not, below_or_not, same_answer}
use Rattle.rules.proofs.Laws.Lists.{any-yes, any_some, mem_below, below-mem, mem-has, has-mem}
use Rattle.rules.proofs.Laws.Counting.{count_same, count-or}
use Rattle.rules.proofs.Laws.Points.{neighbours-sym}
use Rattle.rules.proofs.Laws.Reach.{walk-on}
use Rattle.owning.specs.Owners.{owner_in}
use Rattle.flooding.specs.Flood.{found, shore, seen_words, sees, Ready, wanted, Looked, Flooded}
use Rattle.owning.specs.Laws.Lists.{has_one, any_append, any_same, below_next}
use Rattle.flooding.specs.Laws.Found.{found-says, found-owner, found-not}

-- what the queue's first n points have beside them
abbrev beside : ℕ → ℕ → List ℕ → ℕ → ℕ → Bool
beside h w queue n q = any (λ k. has (neighbours h w (get_or queue k 0)) q) (below n)

module _ (h w s c o : ℕ) (before : List ℕ) where
  -- after `head` points were looked at
  pub record Flooding (notes queue seen : List ℕ) (tail sum head : ℕ) : Type 0 where
    pub ready : Ready h w s c notes queue tail sum
    pub within : head ≤ tail
    pub others : (p : ℕ) → owner_in before p ≢ s → owner_in notes p ≡ owner_in before p
    pub split : (p : ℕ) → owner_in before p ≡ s → (owner_in notes p ≡ s) ⊎ (owner_in notes p ≡ slots + c)
    pub begun : owner_in notes o ≢ s
    pub reached : (k : ℕ) → k < tail → Walk (neighbours h w) (owner_in before) s o (get_or queue k 0)
    pub standing : (k : ℕ) → k < tail → owner_in notes (get_or queue k 0) ≢ s
    pub stands : (p : ℕ) → owner_in before p ≡ s → owner_in notes p ≢ s → (k : ℕ) × (k < tail) × (get_or queue k 0 ≡ p)
    pub spread : (k : ℕ) → k < head → (q : ℕ) → Memᴰ q (neighbours h w (get_or queue k 0)) → owner_in notes q ≢ s
    pub balance :
        tail + count (λ p. eqb (owner_in notes p) s) (below (area h w)) ≡ count (λ p. eqb (owner_in before p) s) (below (area h w))
    pub seen_long : length seen ≡ seen_words
    pub shored : (q : ℕ) → sees seen q ≡ (eqb (owner_in before q) slots && beside h w queue head q)

  -- ---- What a look does to one point

  module _ {ps notes queue seen notes' queue' seen' : List ℕ} {tail tail' sum' : ℕ}
      (look : Looked h w s c ps notes queue seen tail notes' queue' seen' tail' sum') where
    paint-not : slots + c ≢ s
    paint-not z = omega (arith, look.ready.low)

    when-wanted : (p : ℕ) → wanted s ps notes p ≡ true → owner_in notes' p ≡ slots + c
    when-wanted p t = look.painted p ∙ ap (λ (t : Bool). cond t (slots + c) (owner_in notes p)) t

    when-not : (p : ℕ) → wanted s ps notes p ≡ false → owner_in notes' p ≡ owner_in notes p
    when-not p f = look.painted p ∙ ap (λ (t : Bool). cond t (slots + c) (owner_in notes p)) f

    was : (p : ℕ) → wanted s ps notes p ≡ true → owner_in notes p ≡ s
    unfolding wanted
    was p t = eqb-true (owner_in notes p) s (and_right (has ps p) _ t)

    of-them : (p : ℕ) → wanted s ps notes p ≡ true → Memᴰ p ps
    unfolding wanted
    of-them p t = has-mem ps p (and_left (has ps p) _ t)

    wants : (p : ℕ) → Memᴰ p ps → owner_in notes p ≡ s → wanted s ps notes p ≡ true
    unfolding wanted
    wants p m e = and_both (mem-has m) (eq-eqb (owner_in notes p) s e)

    -- what the slot has no more it has no more
    stays : (p : ℕ) → owner_in notes p ≢ s → owner_in notes' p ≢ s
    stays p n = ⊎_elim (λ t. absurd (n (was p t))) (λ f e. n (sym (when-not p f) ∙ e)) (decided (wanted s ps notes p))

    done : (p : ℕ) → Memᴰ p ps → owner_in notes' p ≢ s
    done p m = ⊎_elim (λ e z. paint-not (sym (when-wanted p (wants p m e)) ∙ z)) (stays p) (equal_or_not (owner_in notes p) s)

    either : (p : ℕ) → (owner_in notes p ≡ s) ⊎ (owner_in notes p ≡ slots + c) → (owner_in notes' p ≡ s) ⊎ (owner_in notes' p ≡ slots + c)
    either p d =
        ⊎_elim (λ t. inr (when-wanted p t)) (λ f. ⊎_elim (λ e. inl (when-not p f ∙ e)) (λ e. inr (when-not p f ∙ e)) d) (decided (wanted s ps notes p))

  -- ---- The beginning: the origin is looked at

  pub flooding-begin :
      {queue notes' queue' seen : List ℕ} {tail' sum' : ℕ} → owner_in before o ≡ s → ((q : ℕ) → sees seen q ≡ false)
      → Looked h w s c (o ∷ []) before queue seen 0 notes' queue' seen tail' sum'
      → Flooding notes' queue' seen tail' sum' 0
  unfolding below
  flooding-begin {notes'} {queue'} {seen} {tail'} e nothing look = record {
    ready = look.ready;
    within = omega arith;
    others = λ p n. ⊎_elim (λ t. absurd (n (was look p t))) (when-not look p) (decided (wanted s (o ∷ []) before p));
    split = λ p z. either look p (inl z);
    begun = done look o (has-mem (o ∷ []) o (has_one o o ∙ eq-eqb o o refl));
    reached = λ k l. subst (λ (x : ℕ). Walk (neighbours h w) (owner_in before) s o x) (sym (first k l)) (here e);
    standing = λ k l z. paint-not look (sym (when-wanted look _ (look.taken k (omega arith) l)) ∙ z);
    stands = λ p z n. ⊎_elim (look.stands p) (λ f. absurd (n (when-not look p f ∙ z))) (decided (wanted s (o ∷ []) before p));
    spread = λ k l. absurd (not-suc-le-zero l);
    balance = look.balance ∙ omega arith;
    seen_long = look.seen_long;
    shored = λ q. nothing q ∙ sym (and-false (eqb (owner_in before q) slots));
  }
    where
      first : (k : ℕ) → k < tail' → get_or queue' k 0 ≡ o
      first k l =
          let m = of-them look (get_or queue' k 0) (look.taken k (omega arith) l) in
          eqb-true _ o (sym (has_one o (get_or queue' k 0)) ∙ mem-has m)

  -- ---- One point more

  pub flooding-next :
      {notes queue seen notes' queue' seen' : List ℕ} {tail sum head point tail' sum' : ℕ}
      → Flooding notes queue seen tail sum head → head < tail → point ≡ get_or queue head 0
      → Looked h w s c (neighbours h w point) notes queue seen tail notes' queue' seen' tail' sum'
      → Flooding notes' queue' seen' tail' sum' (head + 1)
  flooding-next {notes} {queue} {seen} {notes'} {queue'} {seen'} {tail} {head} {point} {tail'} is l at look = record {
    ready = look.ready;
    within = omega (arith, look.longer);
    others = λ p n. when-not look p (unwanted p n) ∙ is.others p n;
    split = λ p e. either look p (is.split p e);
    begun = stays look o is.begun;
    reached = λ k m. ⊎_elim (λ old. walk-to (look.kept k old) (is.reached k old)) (λ new. further k new m) (below_or_not k tail);
    standing = λ k m.
        ⊎_elim (λ old. stays look _ (subst (λ (x : ℕ). owner_in notes x ≢ s) (sym (look.kept k old)) (is.standing k old)))
        (λ new z. paint-not look (sym (when-wanted look _ (look.taken k new m)) ∙ z)) (below_or_not k tail);
    stands = λ p e n.
        ⊎_elim (look.stands p)
        (λ f. let (k, m, x) = is.stands p e (λ z. n (when-not look p f ∙ z)) in (k, lt_of_lt_of_le m look.longer, look.kept k m ∙ x))
        (decided (wanted s (neighbours h w point) notes p));
    spread = below_more Spread head (λ k m q i. stays look q (is.spread k m q (old-beside k (omega (arith, is.within)) q i)))
        (λ q i. done look q (subst (λ (x : ℕ). Memᴰ q (neighbours h w x)) (sym at) (old-beside head l q i)));
    balance = look.balance ∙ is.balance;
    seen_long = look.seen_long;
    shored = λ q.
        look.shored q
        ∙ ap (λ (t : Bool). t || (eqb (owner_in notes q) slots && has (neighbours h w point) q)) (is.shored q)
        ∙ ap (λ (t : Bool). (eqb (owner_in before q) slots && beside h w queue head q) || (t && has (neighbours h w point) q)) (empty-kept q)
        ∙ sym (and-or_distrib_left (eqb (owner_in before q) slots) (beside h w queue head q) (has (neighbours h w point) q))
        ∙ ap (λ (t : Bool). eqb (owner_in before q) slots && t) (sym (one_more q));
  }
    where
      unwanted : (p : ℕ) → owner_in before p ≢ s → wanted s (neighbours h w point) notes p ≡ false
      unwanted p n = not_yes (λ t. n (sym (is.others p n) ∙ was look p t))

      -- what the slot still has it had from the start
      had : (p : ℕ) → owner_in notes p ≡ s → owner_in before p ≡ s
      had p e = ⊎_elim (λ z. z) (λ n. absurd (n (sym (is.others p n) ∙ e))) (equal_or_not (owner_in before p) s)

      walk-to : {x y : ℕ} → x ≡ y → Walk (neighbours h w) (owner_in before) s o y → Walk (neighbours h w) (owner_in before) s o x
      walk-to e v = subst (λ (z : ℕ). Walk (neighbours h w) (owner_in before) s o z) (sym e) v

      further : (k : ℕ) → tail ≤ k → k < tail' → Walk (neighbours h w) (owner_in before) s o (get_or queue' k 0)
      further k new m =
          let t = look.taken k new m in
          walk-on (walk-to at (is.reached head l)) (of-them look _ t) (had _ (was look _ t))

      Spread : ℕ → Type 0
      Spread k = (q : ℕ) → Memᴰ q (neighbours h w (get_or queue' k 0)) → owner_in notes' q ≢ s

      old-beside : (k : ℕ) → k < tail → (q : ℕ) → Memᴰ q (neighbours h w (get_or queue' k 0)) → Memᴰ q (neighbours h w (get_or queue k 0))
      old-beside k m q i = subst (λ (x : ℕ). Memᴰ q (neighbours h w x)) (look.kept k m) i

      empty-kept : (q : ℕ) → eqb (owner_in notes q) slots ≡ eqb (owner_in before q) slots
      empty-kept q =
          ⊎_elim
          (λ e.
          ⊎_elim (λ z. ne_eqb (owner_in notes q) slots (λ v. omega (arith, look.ready.low))) (λ z. ne_eqb (owner_in notes q) slots (λ v. omega (arith, look.ready.coloured))) (is.split q e)
          ∙ sym (ne_eqb (owner_in before q) slots (λ v. omega (arith, look.ready.low))))
          (λ n. ap (λ (x : ℕ). eqb x slots) (is.others q n))
          (equal_or_not (owner_in before q) s)

      one_more : (q : ℕ) → beside h w queue' (head + 1) q ≡ (beside h w queue head q || has (neighbours h w point) q)
      one_more q =
          ap (any (λ k. has (neighbours h w (get_or queue' k 0)) q)) (below_next head)
          ∙ any_append (λ k. has (neighbours h w (get_or queue' k 0)) q) (below head) (head ∷ [])
          ∙ ap₂ (λ (a b : Bool). a || b)
          (any_same _ _ (below head) (λ k m. ap (λ (x : ℕ). has (neighbours h w x) q) (look.kept k (let d = below-mem head k m in omega (arith, is.within)))))
          (or-false (has (neighbours h w (get_or queue' head 0)) q) ∙ ap (λ (x : ℕ). has (neighbours h w x) q) (look.kept head l ∙ sym at))

  -- ---- The end: all that is in the queue was looked at

  module _ {notes queue seen : List ℕ} {tail sum head : ℕ} (on : o < area h w) (is : Flooding notes queue seen tail sum head) (looked : tail ≤ head) where
    -- what is painted is painted with all its kin, so all along a walk
    along : {x y : ℕ} → Walk (neighbours h w) (owner_in before) s x y → owner_in notes x ≢ s → owner_in notes y ≢ s
    along (here e) n = n
    along (step {p} {q} e m v) n =
        let (k, l, f) = is.stands p e n in
        along v (is.spread k (omega arith) q (subst (λ (x : ℕ). Memᴰ q (neighbours h w x)) (sym f) m))

    painted-found : (p : ℕ) → owner_in before p ≡ s → owner_in notes p ≢ s → found h w (owner_in before) s o p ≡ true
    painted-found p e n =
        let (k, l, f) = is.stands p e n in
        (found-says h w (owner_in before) s o p).1 (on, subst (λ (x : ℕ). Walk (neighbours h w) (owner_in before) s o x) f (is.reached k l))

    found-painted : (p : ℕ) → found h w (owner_in before) s o p ≡ true → owner_in notes p ≢ s
    found-painted p t = along ((found-says h w (owner_in before) s o p).0 t).1 is.begun

    paint : (p : ℕ) → owner_in notes p ≡ cond (found h w (owner_in before) s o p) (slots + c) (owner_in before p)
    paint p =
        ⊎_elim
        (λ e.
        ⊎_elim
        (λ z. z ∙ sym e ∙ sym (ap (λ (t : Bool). cond t (slots + c) (owner_in before p)) (not_yes (λ t. found-painted p t z))))
        (λ z. z ∙ sym (ap (λ (t : Bool). cond t (slots + c) (owner_in before p)) (painted-found p e (λ y. omega (arith, is.ready.low)))))
        (is.split p e))
        (λ n. is.others p n ∙ sym (ap (λ (t : Bool). cond t (slots + c) (owner_in before p)) (found-not h w (owner_in before) s o p n)))
        (equal_or_not (owner_in before p) s)

    -- the slot's points are those found and those left
    parts : (p : ℕ) → eqb (owner_in before p) s ≡ (found h w (owner_in before) s o p || eqb (owner_in notes p) s)
    parts p =
        ⊎_elim
        (λ e.
        eq-eqb (owner_in before p) s e
        ∙ sym
        (⊎_elim (λ z. rw (eq-eqb (owner_in notes p) s z, not_yes (λ t. found-painted p t z)))
        (λ n. rw (painted-found p e n)) (equal_or_not (owner_in notes p) s)))
        (λ n.
        ne_eqb (owner_in before p) s n
        ∙ sym (rw (found-not h w (owner_in before) s o p n, is.others p n, ne_eqb (owner_in before p) s n)))
        (equal_or_not (owner_in before p) s)

    counted : tail ≡ count (found h w (owner_in before) s o) (below (area h w))
    counted =
        let all =
        count_same (λ p. eqb (owner_in before p) s) (λ p. found h w (owner_in before) s o p || eqb (owner_in notes p) s) (below (area h w)) (λ p m. parts p)
        ∙ count-or (found h w (owner_in before) s o) (λ p. eqb (owner_in notes p) s) (below (area h w)) (λ p m t. ne_eqb _ s (found-painted p t)) in
        let sum = is.balance in
        omega arith

    shore-all : (q : ℕ) → beside h w queue head q ≡ any (found h w (owner_in before) s o) (neighbours h w q)
    shore-all q = same_answer there back
      where
        there : beside h w queue head q ≡ true → any (found h w (owner_in before) s o) (neighbours h w q) ≡ true
        there t =
            let (k, m, y) = any_some (λ k. has (neighbours h w (get_or queue k 0)) q) (below head) t in
            let low : k < tail = let d = below-mem head k m in omega (arith, is.within) in
            any-yes (found h w (owner_in before) s o) (neighbours-sym h w (get_or queue k 0) q (has-mem _ q y))
            ((found-says h w (owner_in before) s o (get_or queue k 0)).1 (on, is.reached k low))

        back : any (found h w (owner_in before) s o) (neighbours h w q) ≡ true → beside h w queue head q ≡ true
        back t =
            let (x, m, y) = any_some (found h w (owner_in before) s o) (neighbours h w q) t in
            let (k, l, e) = is.stands x (found-owner h w (owner_in before) s o x y) (found-painted x y) in
            any-yes (λ k. has (neighbours h w (get_or queue k 0)) q) (mem_below head k (omega arith))
            (mem-has (subst (λ (z : ℕ). Memᴰ q (neighbours h w z)) (sym e) (neighbours-sym h w q x m)))

    pub flooding-end : Flooded h w s c o before notes queue seen tail sum
    unfolding shore
    flooding-end = record {
      passed = record { notes_long = is.ready.notes_long; queue_long = is.ready.queue_long; hashed = is.ready.hashed; painted = paint };
      counted = counted;
      shored = λ q. is.shored q ∙ ap (λ (t : Bool). eqb (owner_in before q) slots && t) (shore-all q);
    }
