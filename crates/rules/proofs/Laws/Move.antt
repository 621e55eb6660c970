-- What an accepted stone does to the colours is Tromp-Taylor 7. The idea: a chain that loses its last liberty to the stone lies beside it;
-- after a capture, and wherever the suicide test fails, the new stone reaches empty, and through it every own stone that it might have
-- choked. So where SUICIDE is set, clearing one's own colour would change nothing.
use Rattle.std.specs.Prelude.{◌≡◌, refl, true, false, ◌&&◌, ◌≢◌, ◌⊎◌, length}
use Rattle.std.proofs.Math.Path.{sym, ap, subst}
use Rattle.std.proofs.Common.{◌∙◌}
use Rattle.std.proofs.Math.Bool.{not}
use mathlib.Core.List.{List, Memᴰ}
use Rattle.std.proofs.Math.Logic.{inl, inr, ⊎_elim}
use Prim.Native.Nat.{ℕ, ◌<◌}
use native.Mathlib.Omega.{arith}
use Rattle.std.proofs.Math.Dec.{eqb}
use Rattle.std.proofs.Math.ListN.{length-set}
use Rattle.std.proofs.Math.Seq.{get_or-set_same, get_or-set_other, ext_get_or}
use borrow.Author.Tests.{eqb-true, eqb-false, not-true}
use Rattle.rules.specs.Lists.{any, count, below}
use Rattle.rules.specs.Colours.{empty, other, at}
use Rattle.rules.specs.Points.{area, neighbours}
use Rattle.rules.specs.Reach.{Walk, here, step, Reaches, Clearing, Move}
use Rattle.rules.specs.Flood.{chain, clear}
use Rattle.rules.specs.Chain.{liberty, liberties}
use Rattle.rules.specs.Flags.{SUICIDE, forbids}
use Rattle.rules.specs.Tests.{in_atari, suicide}
use Rattle.rules.specs.Move.{coloured, captured, played}
use Rattle.rules.specs.Game.{Player, TrueColours}
use Rattle.rules.proofs.Laws.Lists.{and_left, and_right, and_both, decided, not-both, equal_or_not, any_some, mem_below}
use Rattle.rules.proofs.Laws.Counting.{count-other, count-two, below-distinct}
use Rattle.rules.proofs.Laws.Colours.{player-stone, player-cases, other-player, other-apart}
use Rattle.rules.proofs.Laws.Points.{neighbours-sym, neighbours-on, neighbours-not-self}
use Rattle.rules.proofs.Laws.Reach.{walk-last, walk-on, walk-reverse, walk_kept, walk-agree, walk-reaches}
use Rattle.rules.proofs.Laws.Flood.{reaches-decided, clear-length, clear-clearing}
use Rattle.rules.proofs.Laws.Chain.{liberty-of-chain}

-- ---- Clearing leaves no stone of its colour that does not reach empty, and takes no liberty from another

module _ (h w : ℕ) (cols : List ℕ) (whole : length cols ≡ area h w) (c : ℕ) (stone : c ≢ empty) where
  abbrev cleared : Clearing (neighbours h w) (at cols) c (at (clear h w c cols))
  cleared = clear-clearing h w cols whole c stone

  empty-stays : (q : ℕ) → at cols q ≡ empty → at (clear h w c cols) q ≡ empty
  empty-stays q e = cleared.others q (λ z. stone (sym z ∙ e)) ∙ e

  -- what is left of the colour was there and reached empty
  left_over : (q : ℕ) → at (clear h w c cols) q ≡ c → (at cols q ≡ c) × Reaches (neighbours h w) (at cols) q empty
  left_over q e =
      ⊎_elim
      (λ s. ⊎_elim (λ r. (s, r)) (λ n. absurd (stone (sym e ∙ cleared.emptied q s n))) (reaches-decided h w cols q empty))
      (λ n. absurd (n (sym (cleared.others q n) ∙ e)))
      (equal_or_not (at cols q) c)

  pub cleared-breathes : (q : ℕ) → at (clear h w c cols) q ≡ c → Reaches (neighbours h w) (at (clear h w c cols)) q empty
  cleared-breathes q e =
      let (was, r) = left_over q e in
      record {
        apart = λ z. stone (sym e ∙ z);
        last = r.last;
        walk =
            subst (λ (x : ℕ). Walk (neighbours h w) (at (clear h w c cols)) x q r.last) (sym e)
            (walk_kept (λ x v. cleared.alive x (walk-last v) (walk-reaches (walk-reverse (neighbours-sym h w) v) r))
            (subst (λ (x : ℕ). Walk (neighbours h w) (at cols) x q r.last) was r.walk));
        target = r.target;
        next = r.next;
        there = empty-stays r.target r.there;
      }

  pub cleared-spares :
      (q : ℕ) → at cols q ≢ c → Reaches (neighbours h w) (at cols) q empty → Reaches (neighbours h w) (at (clear h w c cols)) q empty
  cleared-spares q n r =
      let same : at (clear h w c cols) q ≡ at cols q = cleared.others q n in
      record {
        apart = λ z. r.apart (sym same ∙ z);
        last = r.last;
        walk =
            subst (λ (x : ℕ). Walk (neighbours h w) (at (clear h w c cols)) x q r.last) (sym same)
            (walk-agree (λ x e. cleared.others x (λ z. n (sym e ∙ z)) ∙ e) r.walk);
        target = r.target;
        next = r.next;
        there = empty-stays r.target r.there;
      }

  -- a stone that is left is the stone that was there
  pub cleared-stone : (q : ℕ) → at (clear h w c cols) q ≢ empty → at (clear h w c cols) q ≡ at cols q
  cleared-stone q n =
      ⊎_elim
      (λ e. ⊎_elim (λ r. cleared.alive q e r ∙ sym e) (λ k. absurd (n (cleared.emptied q e k))) (reaches-decided h w cols q empty))
      (λ k. cleared.others q k)
      (equal_or_not (at cols q) c)

  -- where every stone of the colour reaches empty, clearing changes nothing
  pub cleared-same : ((q : ℕ) → at cols q ≡ c → Reaches (neighbours h w) (at cols) q empty) → clear h w c cols ≡ cols
  unfolding at
  cleared-same breathes =
      ext_get_or empty (clear h w c cols) cols (clear-length h w cols c ∙ sym whole)
      (λ q l.
      ⊎_elim (λ e. cleared.alive q e (breathes q e) ∙ sym e) (λ n. cleared.others q n) (equal_or_not (at cols q) c))

-- ---- A stone of a player on an empty point of true colours

module _ (h w : ℕ) (cols : List ℕ) (is : TrueColours h w cols) (own : ℕ) (player : Player own) (p : ℕ) (on : p < area h w) (free : at cols p ≡ empty) where
  abbrev beside : ℕ → List ℕ
  beside = neighbours h w

  abbrev before : ℕ → ℕ
  before = at cols

  abbrev put : ℕ → ℕ
  put = at (coloured cols own p)

  abbrev after : ℕ → ℕ
  after = at (captured h w cols own p)

  -- the two colours
  abbrev ours : own ≢ empty
  ours = player-stone own player

  abbrev theirs : other own ≢ empty
  theirs = player-stone (other own) (other-player own player)

  abbrev apart : own ≢ other own
  apart = other-apart own player

  pub put-length : length (coloured cols own p) ≡ area h w
  unfolding coloured
  put-length = length-set cols p own ∙ is.covers

  pub put-here : put p ≡ own
  unfolding coloured at
  put-here = get_or-set_same cols p own empty (rw is.covers on)

  put-else : (q : ℕ) → q ≢ p → put q ≡ before q
  unfolding coloured at
  put-else q n = get_or-set_other cols p q own empty n

  abbrev taking : Clearing beside put (other own) after
  unfolding captured
  taking = clear-clearing h w (coloured cols own p) put-length (other own) theirs

  pub after-length : length (captured h w cols own p) ≡ area h w
  unfolding captured
  after-length = clear-length h w (coloured cols own p) (other own)

  -- a point that held something else than the new stone is not the point played
  was-else : (q c : ℕ) → c ≢ empty → before q ≡ c → q ≢ p
  was-else q c n e s = n (sym e ∙ ap before s ∙ free)

  own_put : (q : ℕ) → before q ≡ own → put q ≡ own
  own_put q e = put-else q (was-else q own ours e) ∙ e

  pub own-after : (q : ℕ) → put q ≡ own → after q ≡ own
  own-after q e = taking.others q (λ z. apart (sym e ∙ z)) ∙ e

  here-after : after p ≡ own
  here-after = own-after p put-here

  empty-after : (q : ℕ) → q ≢ p → before q ≡ empty → after q ≡ empty
  empty-after q n e = let v = put-else q n ∙ e in taking.others q (λ z. theirs (sym z ∙ v)) ∙ v

  pub enemy-put : (q : ℕ) → before q ≡ other own → put q ≡ other own
  enemy-put q e = put-else q (was-else q (other own) theirs e) ∙ e

  enemy-else : (q : ℕ) → put q ≡ other own → q ≢ p
  enemy-else q e s = apart (sym put-here ∙ ap put (sym s) ∙ e)

  enemy-before : (q : ℕ) → put q ≡ other own → before q ≡ other own
  enemy-before q e = sym (put-else q (enemy-else q e)) ∙ e

  -- an own stone after the captures: it is the new one or was there before
  pub own-was : (q : ℕ) → after q ≡ own → put q ≡ own
  own-was q e =
      ⊎_elim
      (λ s.
      ⊎_elim (λ r. absurd (apart (sym e ∙ taking.alive q s r))) (λ n. absurd (ours (sym e ∙ taking.emptied q s n)))
      (reaches-decided h w (coloured cols own p) q empty))
      (λ n. sym (taking.others q n) ∙ e)
      (equal_or_not (put q) (other own))

  -- the new stone, with what it reaches after the captures
  from-here : (q r : ℕ) → Walk beside after own p r → Memᴰ q (beside r) → after q ≡ empty → Reaches beside after p empty
  from-here q r v m e =
      record {
        apart = λ z. ours (sym here-after ∙ z);
        last = r;
        walk = subst (λ (x : ℕ). Walk beside after x p r) (sym here-after) v;
        target = q;
        next = m;
        there = e;
      }

  -- ---- Only enemy chains beside the stone can lose their last liberty

  -- a captured stone has a stone of its chain beside the new one, captured with it
  pub captured-beside :
      (x : ℕ) → put x ≡ other own → after x ≡ empty →
      (s : ℕ) × Memᴰ s (beside p) × Walk beside before (other own) x s × (after s ≡ empty)
  captured-beside x e gone =
      let was = enemy-before x e in
      let r = is.breathes x (λ z. theirs (sym was ∙ z)) in
      let v = subst (λ (c : ℕ). Walk beside before c x r.last) was r.walk in
      let v' = walk-agree {col' = put} enemy-put v in
      let choked : ¬ Reaches beside put x empty = λ k. theirs (sym (taking.alive x e k) ∙ gone) in
      ⊎_elim
      (λ (s : r.target ≡ p). (
        r.last,
        neighbours-sym h w r.last p (subst (λ (t : ℕ). Memᴰ t (beside r.last)) s r.next),
        v,
        taking.emptied r.last (walk-last v') (λ k. choked (walk-reaches v' k)),
      ))
      (λ n.
      absurd (choked (record {
        apart = λ z. theirs (sym e ∙ z);
        last = r.last;
        walk = subst (λ (c : ℕ). Walk beside put c x r.last) (sym e) v';
        target = r.target;
        next = r.next;
        there = put-else r.target n ∙ r.there;
      })))
      (equal_or_not r.target p)

  -- ---- Where the new stone reaches empty, so does every own stone

  -- an own stone that reaches empty no more is connected with the new one
  pub own-choked : (q : ℕ) → after q ≡ own → ¬ Reaches beside after q empty → Walk beside after own q p
  own-choked q e n =
      ⊎_elim
      (λ s. subst (λ (x : ℕ). Walk beside after own q x) s (here e))
      (λ k.
      let was : before q ≡ own = sym (put-else q k) ∙ own-was q e in
      let r = is.breathes q (λ z. ours (sym was ∙ z)) in
      let v = subst (λ (c : ℕ). Walk beside before c q r.last) was r.walk in
      let v' = walk-agree {col' = after} (λ x u. own-after x (own_put x u)) v in
      ⊎_elim
      (λ (s : r.target ≡ p). walk-on v' (subst (λ (t : ℕ). Memᴰ t (beside r.last)) s r.next) here-after)
      (λ l.
      absurd (n (record {
        apart = λ z. ours (sym e ∙ z);
        last = r.last;
        walk = subst (λ (c : ℕ). Walk beside after c q r.last) (sym e) v';
        target = r.target;
        next = r.next;
        there = empty-after r.target l r.there;
      })))
      (equal_or_not r.target p))
      (equal_or_not q p)

  pub own-breathes : Reaches beside after p empty → (q : ℕ) → after q ≡ own → Reaches beside after q empty
  own-breathes new q e =
      ⊎_elim (λ r. r) (λ n. walk-reaches (own-choked q e n) new) (reaches-decided h w (captured h w cols own p) q empty)

  -- clearing one's own colour then changes nothing
  pub own-stays : Reaches beside after p empty → clear h w own (captured h w cols own p) ≡ captured h w cols own p
  own-stays new = cleared-same h w (captured h w cols own p) after-length own ours (own-breathes new)

  -- ---- Own stones are never cleared after a capture

  pub capture-spares-own :
      (x : ℕ) → put x ≡ other own → after x ≡ empty → clear h w own (captured h w cols own p) ≡ captured h w cols own p
  capture-spares-own x e gone =
      let (s, m, v, k) = captured-beside x e gone in
      own-stays (from-here s p (here here-after) m k)

  -- ---- Own stones are never cleared where the suicide test fails

  -- p is a liberty of each chain beside it
  liberty-here : (r : ℕ) → Memᴰ r (beside p) → liberty h w cols (chain h w cols r) p ≡ true
  liberty-here r m = (liberty-of-chain h w cols r p).1 (free, (r, m, here refl))

  -- an empty neighbour
  by-empty : (r : ℕ) → Memᴰ r (beside p) → before r ≡ empty → Reaches beside after p empty
  by-empty r m e = from-here r p (here here-after) m (empty-after r (λ s. neighbours-not-self h w p (subst (λ (x : ℕ). Memᴰ x (beside p)) s m)) e)

  -- an own chain with another liberty
  by-own : (r : ℕ) → Memᴰ r (beside p) → before r ≡ own → in_atari h w cols r ≡ false → Reaches beside after p empty
  unfolding in_atari liberties
  by-own r m e more =
      let (l, i, y, n) =
      count-other (liberty h w cols (chain h w cols r)) p (below (area h w)) (below-distinct (area h w)) (mem_below (area h w) p on)
      (liberty-here r m) (eqb-false _ 1 more) in
      let (vacant, (s, k, v)) = (liberty-of-chain h w cols r l).0 y in
      let v' = walk-agree {col' = after} (λ x z. own-after x (own_put x z)) (subst (λ (c : ℕ). Walk beside before c r s) e v) in
      from-here l s (step here-after m v') (neighbours-sym h w l s k) (empty-after l n vacant)

  -- an enemy chain with no other liberty: it is captured
  by-capture : (r : ℕ) → Memᴰ r (beside p) → before r ≡ other own → in_atari h w cols r ≡ true → Reaches beside after p empty
  unfolding in_atari liberties
  by-capture r m e atari = from-here r p (here here-after) m (taking.emptied r (enemy-put r e) choked)
    where
      choked : ¬ Reaches beside put r empty
      choked k =
          let v = subst (λ (c : ℕ). Walk beside put c r k.last) (enemy-put r e) k.walk in
          let v' = subst (λ (c : ℕ). Walk beside before c r k.last) (sym e) (walk-agree {col' = before} enemy-before v) in
          let n : k.target ≢ p = λ s. ours (sym put-here ∙ ap put (sym s) ∙ k.there) in
          let vacant : before k.target ≡ empty = sym (put-else k.target n) ∙ k.there in
          let y = (liberty-of-chain h w cols r k.target).1 (vacant, (k.last, neighbours-sym h w k.last k.target k.next, v')) in
          let two =
          count-two (liberty h w cols (chain h w cols r)) (below (area h w))
          (mem_below (area h w) k.target (neighbours-on h w k.last k.target k.next))
          (mem_below (area h w) p on) n y (liberty-here r m) in
          let one = eqb-true (count (liberty h w cols (chain h w cols r)) (below (area h w))) 1 atari in
          omega arith

  pub no-suicide-reaches : suicide h w cols own p ≡ false → Reaches beside after p empty
  unfolding suicide
  no-suicide-reaches e =
      ⊎_elim
      (λ a. let (r, m, y) = any_some (λ q. eqb (at cols q) empty) (beside p) a in by-empty r m (eqb-true (before r) empty y))
      (λ a.
      ⊎_elim
      (λ b.
      let (r, m, y) = any_some (λ q. eqb (at cols q) own && not (in_atari h w cols q)) (beside p) b in
      by-own r m (eqb-true (before r) own (and_left _ _ y)) (not-true _ (and_right (eqb (before r) own) _ y)))
      (λ b.
      ⊎_elim
      (λ c.
      let (r, m, y) = any_some (λ q. eqb (at cols q) (other own) && in_atari h w cols q) (beside p) c in
      by-capture r m (eqb-true (before r) (other own) (and_left _ _ y)) (and_right (eqb (before r) (other own)) _ y))
      (λ c. absurd (not-both (and_both (and_both (ap not a) (ap not b)) (ap not c)) e))
      (decided (any (λ q. eqb (at cols q) (other own) && in_atari h w cols q) (beside p))))
      (decided (any (λ q. eqb (at cols q) own && not (in_atari h w cols q)) (beside p))))
      (decided (any (λ q. eqb (at cols q) empty) (beside p)))

  -- ---- The stone, by the flags

  -- the stone is not refused as suicide
  module _ (flags : ℕ) (allowed : forbids flags SUICIDE && suicide h w cols own p ≡ false) where
    new-reaches : forbids flags SUICIDE ≡ true → Reaches beside after p empty
    new-reaches e = no-suicide-reaches (rw e at allowed)

    -- the board is the same as if one's own colour were always cleared
    pub played-both : played h w flags cols own p ≡ clear h w own (captured h w cols own p)
    unfolding played
    played-both = ⊎_elim (λ e. rw e (sym (own-stays (new-reaches e)))) (λ e. rw e) (decided (forbids flags SUICIDE))

    pub played-move : Move beside before own p (at (played h w flags cols own p))
    unfolding captured
    played-move =
        record {
          vacant = free;
          coloured = put;
          put = put-here;
          rest = put-else;
          captured = after;
          opponent = taking;
          self = rw played-both (clear-clearing h w (captured h w cols own p) after-length own ours);
        }

    -- each point is as the stone coloured it, or empty
    pub played-else : (q : ℕ) → (at (played h w flags cols own p) q ≡ put q) ⊎ (at (played h w flags cols own p) q ≡ empty)
    unfolding captured
    played-else q =
        ⊎_elim inr
        (λ n.
        let one = ap (λ (l : List ℕ). at l q) played-both in
        let two = cleared-stone h w (captured h w cols own p) after-length own ours q (λ z. n (one ∙ z)) in
        inl (one ∙ two ∙ cleared-stone h w (coloured cols own p) put-length (other own) theirs q (λ z. n (one ∙ two ∙ z))))
        (equal_or_not (at (played h w flags cols own p) q) empty)

    -- the colours are true again
    pub played-true : TrueColours h w (played h w flags cols own p)
    unfolding captured
    played-true = rw played-both (record { covers = clear-length h w (captured h w cols own p) own; known = known; breathes = breathes })
      where
        result : List ℕ
        result = clear h w own (captured h w cols own p)

        was-after : (q : ℕ) → at result q ≢ empty → at result q ≡ after q
        was-after q n = cleared-stone h w (captured h w cols own p) after-length own ours q n

        was-put : (q : ℕ) → at result q ≢ empty → at result q ≡ put q
        was-put q n =
            was-after q n
            ∙ cleared-stone h w (coloured cols own p) put-length (other own) theirs q (λ z. n (was-after q n ∙ z))

        known : (q : ℕ) → at result q ≢ empty → Player (at result q)
        known q n =
            subst Player (sym (was-put q n))
            (⊎_elim (λ s. subst Player (sym (ap put s ∙ put-here)) player)
            (λ k. subst Player (sym (put-else q k)) (is.known q (λ z. n (was-put q n ∙ put-else q k ∙ z))))
            (equal_or_not q p))

        breathes : (q : ℕ) → at result q ≢ empty → Reaches beside (at result) q empty
        breathes q n =
            ⊎_elim
            (λ mine. cleared-breathes h w (captured h w cols own p) after-length own ours q mine)
            (λ foe.
            let stood : after q ≡ other own = sym (was-after q n) ∙ foe in
            cleared-spares h w (captured h w cols own p) after-length own ours q (λ z. apart (sym z ∙ stood))
            (cleared-breathes h w (coloured cols own p) put-length (other own) theirs q stood))
            (player-cases (at result q) own (known q n) player)
