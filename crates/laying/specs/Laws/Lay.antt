-- A laid stone leaves a true board whose colours are those of the move. The idea: the chains that were taken are exactly the enemy stones
-- that do not reach empty (Clearing), since such a stone has one of its chain beside the new one; the own chain is lifted exactly where
-- clearing one's own colour would empty it; and an exact table of largest sets over true colours is a true board.
use Rattle.std.proofs.Math.Path.{◌≡◌, sym, ap, ap₂, fun_ext}
use Rattle.std.specs.Prelude.{refl, Bool, true, false, not, ◌&&◌, ◌≢◌, ℕ, ◌≤◌, ◌<◌, length, Option, None, Some}
use Rattle.std.proofs.Common.{◌∙◌, subst, zero-le, suc-le-suc, arith, ext_get_or}
use Rattle.std.proofs.Math.Bool.{cond}
use mathlib.Core.List.Memᴰ
use mathlib.Core.List.{List, [], ◌∷◌, Memᴰ}
use Rattle.std.proofs.Math.Logic.{inl, ⊎_elim}
use Rattle.std.proofs.Math.Dec.{eqb}
use borrow.Author.Tests.{eqb-true, eq-eqb, ne_eqb}
use Rattle.rules.specs.Sizes.{slots}
use Rattle.rules.specs.Lists.{count, below, has}
use Rattle.rules.specs.Points.{area, neighbours}
use Rattle.rules.specs.Colours.{empty, other, at}
use Rattle.rules.specs.Reach.{Walk, Reaches, Clearing}
use Rattle.rules.specs.Flood.{clear}
use Rattle.rules.specs.Flags.{SUICIDE, forbids}
use Rattle.rules.specs.Tests.{suicide}
use Rattle.rules.specs.Move.{coloured, captured, played, removed, sole_of}
use Rattle.rules.specs.Game.{TrueColours}
use Rattle.rules.proofs.Laws.Lists.{and_left, and_right, and_both, decided, not-both, not_yes, not-no, equal_or_not, mem_below, mem-pick}
use Rattle.rules.proofs.Laws.Counting.{count_none, count_same, length-pick}
use Rattle.rules.proofs.Laws.Colours.{player-stone, other-player, other-apart}
use Rattle.rules.proofs.Laws.Reach.{walk-last, walk-agree}
use Rattle.rules.proofs.Laws.Flood.{clear-clearing, clearing-clear}
use Rattle.rules.proofs.Laws.Move.{put-length, after-length, put-here, enemy-put, captured-beside, own-choked, own-was, own-after, own-stays, played-both, played-true}
use Rattle.chains.specs.Group.{used}
use Rattle.board.specs.declared.goban.Board.{Board}
use Rattle.board.specs.Board.{owner, chain_in, colour_at, colours_of}
use Rattle.board.specs.True.{ExactTable, TrueBoard}
use Rattle.board.specs.Laws.Board.{length-colours, at-colours, empty-unowned, stone-owned}
use Rattle.board.specs.Laws.Chains.{Largest, owner-colour, walk-owned, true-colours, colours-true}
use Rattle.steps.specs.Steps.{put, remove}
use Rattle.steps.specs.Putting.{Putting}
use Rattle.laying.specs.Lay.{Joined, join_all, dead, Haul, take_all, finished, lay}
use Rattle.steps.specs.Laws.Put.{put-exact, colours-put}
use Rattle.steps.specs.Laws.Remove.{owner-other, colour-remove, exact-remove}
use Rattle.laying.specs.Laws.Gather.{Gathered, put-gathered, gathered-largest}
use Rattle.laying.specs.Laws.Take.{dead-reaches, alive-reaches, Taken, taken, taken-largest, lost-foe, lost-empty, kept-colour, kept-owner}

-- two boards' colours, point by point and as lists
same-colours :
    (b : Board) (is : ExactTable b) (h w : ℕ) (cols : List ℕ) → area b.height b.width ≡ area h w → length cols ≡ area h w →
    ((q : ℕ) → colour_at b q ≡ at cols q) → colours_of b ≡ cols
unfolding at
same-colours b is h w cols same whole each =
    ext_get_or empty (colours_of b) cols (length-colours b ∙ same ∙ sym whole) (λ q l. at-colours b is q ∙ each q)

-- the one element of a list, if it has one
sole : (xs : List ℕ) (x : ℕ) → (length xs ≡ 1 → Memᴰ x xs) → cond (eqb (length xs) 1) (Some x) None ≡ sole_of xs
unfolding sole_of
sole [] x is = refl
sole (y ∷ []) x is = ap {B = Option ℕ} Some (Memᴰ.eq_of_singleton (is refl))
sole (y ∷ z ∷ zs) x is =
    ap (λ (u : Bool). cond u (Some x) None) (ne_eqb (length (y ∷ z ∷ zs)) 1 (λ e. let l : 2 ≤ length (y ∷ z ∷ zs) = suc-le-suc (suc-le-suc zero-le) in omega arith))

module _ (b : Board) (is : TrueBoard b) (p c s : ℕ) (putting : Putting b p c s) where
  -- ---- The boards on the way

  abbrev beside : ℕ → List ℕ
  beside = neighbours b.height b.width

  abbrev cols : List ℕ
  cols = colours_of b

  abbrev foe : ℕ
  foe = other c

  abbrev joined : Joined
  joined = join_all c (beside p) (put b p c s) s

  abbrev g : Gathered (put b p c s) p c [] joined.board joined.slot
  g = put-gathered b is.largest p c s putting

  abbrev whole : Board
  whole = joined.board

  abbrev haul : Haul
  haul = take_all foe (beside p) (record { board = whole; stones = 0; point = 0 })

  abbrev after : Board
  after = haul.board

  -- ---- What is known of the two colours and the point

  abbrev ours : c ≢ empty
  ours = player-stone c putting.player

  abbrev theirs : foe ≢ empty
  theirs = player-stone foe (other-player c putting.player)

  abbrev apart : c ≢ foe
  apart = other-apart c putting.player

  abbrev true-cols : TrueColours b.height b.width cols
  true-cols = true-colours b is

  free : at cols p ≡ empty
  free = at-colours b is.table p ∙ empty-unowned b is.table p putting.vacant

  -- ---- The board with the stone, joined: its colours are the coloured ones

  abbrev whole-largest : Largest whole
  whole-largest = gathered-largest b is.largest p c s putting g

  whole-colour : (q : ℕ) → colour_at whole q ≡ at (coloured cols c p) q
  whole-colour q = g.colours q ∙ sym (at-colours (put b p c s) (put-exact putting) q) ∙ ap (λ (l : List ℕ). at l q) (colours-put putting)

  whole-at : colour_at whole ≡ at (coloured cols c p)
  whole-at = fun_ext whole-colour

  same_area : neighbours whole.height whole.width ≡ beside
  unfolding put
  same_area = ap₂ neighbours g.tall g.wide

  -- ---- The board with the dead enemy lifted

  start-taken : Taken whole g.table whole-largest foe theirs (beside p) (beside p) (record { board = whole; stones = 0; point = 0 })
  unfolding has
  start-taken =
      record {
        table = g.table;
        tall = refl;
        wide = refl;
        gone = [];
        owners = λ x. refl;
        colours = λ x. refl;
        dead-ones = λ t y. absurd (not-both y refl);
        counted = sym (count_none (λ x. false) (below (area whole.height whole.width)) (λ x m. refl));
        sample = λ n. absurd (n refl);
        todo = λ q m. inl m;
      }

  abbrev t : Taken whole g.table whole-largest foe theirs (beside p) [] haul
  t = taken whole g.table whole-largest foe theirs (beside p) (beside p) (record { board = whole; stones = 0; point = 0 }) start-taken

  after-largest : Largest after
  after-largest = taken-largest whole g.table whole-largest foe theirs t

  taking : Clearing beside (at (coloured cols c p)) foe (at (captured b.height b.width cols c p))
  unfolding captured
  taking =
      clear-clearing b.height b.width (coloured cols c p)
      (put-length b.height b.width cols true-cols c putting.player p putting.on free) foe theirs

  -- an enemy stone beside the new one that does not reach empty is gone
  gone-beside : (q : ℕ) → Memᴰ q (beside p) → colour_at whole q ≡ foe → ¬ Reaches beside (colour_at whole) q empty → has t.gone (owner whole q) ≡ true
  gone-beside q m e n =
      ⊎_elim (λ i. absurd (Memᴰ.not-nil i))
      (λ f.
      f e
      (not-no
      (λ alive.
      n
      (subst (λ (nb : ℕ → List ℕ). Reaches nb (colour_at whole) q empty) same_area
      (alive-reaches whole g.table whole-largest q (stone-owned whole g.table q (λ z. theirs (sym e ∙ z))) alive)))))
      (t.todo q m)

  -- every enemy stone that does not reach empty is gone: its chain has a stone beside the new one
  gone-dead : (q : ℕ) → colour_at whole q ≡ foe → ¬ Reaches beside (colour_at whole) q empty → has t.gone (owner whole q) ≡ true
  gone-dead q e n =
      let put-foe : at (coloured cols c p) q ≡ foe = sym (whole-colour q) ∙ e in
      let choked : ¬ Reaches beside (at (coloured cols c p)) q empty =
      λ r. n (subst (λ (k : ℕ → ℕ). Reaches beside k q empty) (sym whole-at) r) in
      let (r, m, v, k) =
      captured-beside b.height b.width cols true-cols c putting.player p putting.on free q put-foe (taking.emptied q put-foe choked) in
      let v' =
      walk-agree {col' = colour_at whole}
      (λ x u. whole-colour x ∙ enemy-put b.height b.width cols true-cols c putting.player p putting.on free x u) v in
      let there : colour_at whole r ≡ foe = walk-last v' in
      let one-owner : owner whole q ≡ owner whole r =
      walk-owned whole g.table whole-largest theirs (subst (λ (nb : ℕ → List ℕ). Walk nb (colour_at whole) foe q r) (sym same_area) v') in
      ap (has t.gone) one-owner
      ∙ gone-beside r m there
      (λ z.
      theirs
      (sym (taking.alive r (sym (whole-colour r) ∙ there) (subst (λ (l : ℕ → ℕ). Reaches beside l r empty) whole-at z)) ∙ k))

  -- lifting them is clearing the enemy's colour
  taken-clearing : Clearing beside (at (coloured cols c p)) foe (colour_at after)
  taken-clearing =
      subst (λ (l : ℕ → ℕ). Clearing beside l foe (colour_at after)) whole-at
      (record {
        emptied = λ q e n. lost-empty whole g.table whole-largest foe theirs t q (gone-dead q e n);
        alive = λ q e r. kept-colour whole g.table whole-largest foe theirs t q (not-gone q e r) ∙ e;
        others =
            λ q n.
            kept-colour whole g.table whole-largest foe theirs t q
            (not_yes (λ y. n (lost-foe whole g.table whole-largest foe theirs t q y)));
      })
    where
      not-gone : (q : ℕ) → colour_at whole q ≡ foe → Reaches beside (colour_at whole) q empty → has t.gone (owner whole q) ≡ false
      not-gone q e r =
          not_yes
          (λ y.
          dead-reaches whole g.table whole-largest q (stone-owned whole g.table q (λ z. theirs (sym e ∙ z)))
          (t.dead-ones (owner whole q) y).2
          (subst (λ (nb : ℕ → List ℕ). Reaches nb (colour_at whole) q empty) (sym same_area) r))

  after-colour : (q : ℕ) → colour_at after q ≡ at (captured b.height b.width cols c p) q
  unfolding captured
  after-colour =
      clearing-clear b.height b.width (coloured cols c p)
      (put-length b.height b.width cols true-cols c putting.player p putting.on free) foe theirs taken-clearing

  after-at : colour_at after ≡ at (captured b.height b.width cols c p)
  after-at = fun_ext after-colour

  after-beside : neighbours after.height after.width ≡ beside
  after-beside = ap₂ neighbours t.tall t.wide ∙ same_area

  after-area : area after.height after.width ≡ area b.height b.width
  unfolding put
  after-area = ap₂ area (t.tall ∙ g.tall) (t.wide ∙ g.wide)

  -- ---- The own chain

  whole_here : colour_at whole p ≡ c
  whole_here = whole-colour p ∙ put-here b.height b.width cols true-cols c putting.player p putting.on free

  standing : has t.gone (owner whole p) ≡ false
  standing = not_yes (λ y. apart (sym whole_here ∙ lost-foe whole g.table whole-largest foe theirs t p y))

  here-colour : colour_at after p ≡ c
  here-colour = kept-colour whole g.table whole-largest foe theirs t p standing ∙ whole_here

  -- the new stone is in the slot where the joining ended
  here-owner : owner after p ≡ joined.slot
  here-owner = kept-owner whole g.table whole-largest foe theirs t p standing ∙ g.stone

  here-owned : owner after p ≢ slots
  here-owned = stone-owned after t.table p (λ z. ours (sym here-colour ∙ z))

  pub slot-low : joined.slot < slots
  slot-low = rw here-owner at (t.table.owned p here-owned).1

  pub slot-used : used (chain_in after joined.slot) ≡ true
  slot-used = subst (λ (k : ℕ). used (chain_in after k) ≡ true) here-owner (t.table.owned p here-owned).2

  pub after-table : ExactTable after
  after-table = t.table

  slot-colour : (q : ℕ) → owner after q ≡ joined.slot → colour_at after q ≡ c
  slot-colour q e = owner-colour after joined.slot q e ∙ sym (owner-colour after joined.slot p here-owner) ∙ here-colour

  -- a point's reach on the board and on the colours
  reach-after : (q : ℕ) → Reaches (neighbours after.height after.width) (colour_at after) q empty → Reaches beside (at (captured b.height b.width cols c p)) q empty
  reach-after q r =
      subst (λ (l : ℕ → ℕ). Reaches beside l q empty) after-at (subst (λ (nb : ℕ → List ℕ). Reaches nb (colour_at after) q empty) after-beside r)

  reach-board : (q : ℕ) → Reaches beside (at (captured b.height b.width cols c p)) q empty → Reaches (neighbours after.height after.width) (colour_at after) q empty
  reach-board q r =
      subst (λ (nb : ℕ → List ℕ). Reaches nb (colour_at after) q empty) (sym after-beside) (subst (λ (l : ℕ → ℕ). Reaches beside l q empty) (sym after-at) r)

  -- where the own chain is dead, lifting it is clearing one's own colour
  module _ (choked : dead after joined.slot ≡ true) where
    abbrev emptied : Board
    emptied = remove after joined.slot

    emptied-colour : (q : ℕ) → colour_at emptied q ≡ cond (eqb (owner after q) joined.slot) empty (colour_at after q)
    emptied-colour = colour-remove after t.table joined.slot slot-low slot-used

    left-colour : (q : ℕ) → owner after q ≢ joined.slot → colour_at emptied q ≡ colour_at after q
    left-colour q n = emptied-colour q ∙ ap (λ (u : Bool). cond u empty (colour_at after q)) (ne_eqb (owner after q) joined.slot n)

    gone-colour : (q : ℕ) → owner after q ≡ joined.slot → colour_at emptied q ≡ empty
    gone-colour q e = emptied-colour q ∙ ap (λ (u : Bool). cond u empty (colour_at after q)) (eq-eqb (owner after q) joined.slot e)

    emptied-clearing : Clearing beside (at (captured b.height b.width cols c p)) c (colour_at emptied)
    emptied-clearing =
        record {
          emptied =
              λ q e n.
              let v = own-choked b.height b.width cols true-cols c putting.player p putting.on free q e n in
              gone-colour q
              (walk-owned after t.table after-largest ours
              (subst (λ (nb : ℕ → List ℕ). Walk nb (colour_at after) c q p) (sym after-beside)
              (subst (λ (l : ℕ → ℕ). Walk beside l c q p) (sym after-at) v))
              ∙ here-owner);
          alive =
              λ q e r.
              left-colour q
              (λ k.
              dead-reaches after t.table after-largest q (λ z. here-owned (here-owner ∙ sym k ∙ z)) (subst (λ (x : ℕ). dead after x ≡ true) (sym k) choked)
              (reach-board q r))
              ∙ after-colour q
              ∙ e;
          others = λ q n. left-colour q (λ k. n (sym (after-colour q) ∙ slot-colour q k)) ∙ after-colour q;
        }

    emptied-largest : Largest emptied
    unfolding remove
    emptied-largest x y m n e =
        let k = stays x n in
        let k' = stays y (λ z. n (e ∙ z)) in
        owner-other after t.table joined.slot slot-low slot-used x k
        ∙ after-largest x y m (λ z. n (left-colour x k ∙ z)) (sym (left-colour x k) ∙ e ∙ left-colour y k')
        ∙ sym (owner-other after t.table joined.slot slot-low slot-used y k')
      where
        stays : (q : ℕ) → colour_at emptied q ≢ empty → owner after q ≢ joined.slot
        stays q z k = z (gone-colour q k)

  -- ---- The end, by the flags

  module _ (flags : ℕ) (allowed : forbids flags SUICIDE && suicide b.height b.width cols c p ≡ false) where
    abbrev moved : List ℕ
    moved = played b.height b.width flags cols c p

    pub record Ends (r : Board) : Type 0 where
      pub table : ExactTable r
      pub largest : Largest r
      pub tall : r.height ≡ b.height
      pub wide : r.width ≡ b.width
      pub colours : (q : ℕ) → colour_at r q ≡ at moved q

    ends-after : captured b.height b.width cols c p ≡ moved → Ends after
    unfolding put
    ends-after same =
        record {
          table = t.table;
          largest = after-largest;
          tall = t.tall ∙ g.tall;
          wide = t.wide ∙ g.wide;
          colours = λ q. after-colour q ∙ ap (λ (l : List ℕ). at l q) same;
        }

    ends-emptied : dead after joined.slot ≡ true → clear b.height b.width c (captured b.height b.width cols c p) ≡ moved → Ends (remove after joined.slot)
    unfolding put remove
    ends-emptied choked same =
        record {
          table = exact-remove after t.table joined.slot slot-low slot-used;
          largest = emptied-largest choked;
          tall = t.tall ∙ g.tall;
          wide = t.wide ∙ g.wide;
          colours =
              λ q.
              clearing-clear b.height b.width (captured b.height b.width cols c p)
              (after-length b.height b.width cols true-cols c putting.player p putting.on free) c ours (emptied-clearing choked) q
              ∙ ap (λ (l : List ℕ). at l q) same;
        }

    -- the own chain still has a liberty: clearing it would change nothing
    spared : dead after joined.slot ≡ false → clear b.height b.width c (captured b.height b.width cols c p) ≡ captured b.height b.width cols c p
    spared alive =
        own-stays b.height b.width cols true-cols c putting.player p putting.on free
        (reach-after p (alive-reaches after t.table after-largest p here-owned (subst (λ (k : ℕ). dead after k ≡ false) (sym here-owner) alive)))

    pub ends : Ends (lay b p c s (forbids flags SUICIDE)).board
    unfolding lay finished played
    ends =
        ⊎_elim
        (λ (k : forbids flags SUICIDE ≡ true). rw k (ends-after (sym (rw k))))
        (λ (k : forbids flags SUICIDE ≡ false).
        ⊎_elim
        (λ (d : dead after joined.slot ≡ true). rw (k, d) (ends-emptied d (sym (rw k))))
        (λ (d : dead after joined.slot ≡ false). rw (k, d) (ends-after (sym (spared d) ∙ sym (rw k))))
        (decided (dead after joined.slot)))
        (decided (forbids flags SUICIDE))

    -- ---- The promise of a laid stone: a true board, with the colours of the move

    pub lay-colours : colours_of (lay b p c s (forbids flags SUICIDE)).board ≡ played b.height b.width flags cols c p
    lay-colours =
        same-colours (lay b p c s (forbids flags SUICIDE)).board ends.table b.height b.width moved (ap₂ area ends.tall ends.wide)
        (played-true b.height b.width cols true-cols c putting.player p putting.on free flags allowed).covers ends.colours

    pub lay-true : TrueBoard (lay b p c s (forbids flags SUICIDE)).board
    lay-true =
        colours-true (lay b p c s (forbids flags SUICIDE)).board ends.table ends.largest
        (subst (λ (h : ℕ). TrueColours h (lay b p c s (forbids flags SUICIDE)).board.width (colours_of (lay b p c s (forbids flags SUICIDE)).board)) (sym ends.tall)
        (subst (λ (w : ℕ). TrueColours b.height w (colours_of (lay b p c s (forbids flags SUICIDE)).board)) (sym ends.wide)
        (subst (λ (l : List ℕ). TrueColours b.height b.width l) (sym lay-colours)
        (played-true b.height b.width cols true-cols c putting.player p putting.on free flags allowed))))

    -- ---- What was taken

    abbrev before : List ℕ
    before = coloured cols c p

    -- what the captures left of any other colour stays
    moved-else : (q : ℕ) → at (captured b.height b.width cols c p) q ≢ c → at moved q ≡ at (captured b.height b.width cols c p) q
    moved-else q n =
        ap (λ (l : List ℕ). at l q) (played-both b.height b.width cols true-cols c putting.player p putting.on free flags allowed)
        ∙ (clear-clearing b.height b.width (captured b.height b.width cols c p)
        (after-length b.height b.width cols true-cols c putting.player p putting.on free) c ours).others q n

    -- a point is gone exactly if it was the enemy's and is empty
    gone-test : (q : ℕ) → has t.gone (owner whole q) ≡ (eqb (at before q) foe && eqb (at moved q) empty)
    gone-test q =
        ⊎_elim
        (λ y.
        let vacant : at (captured b.height b.width cols c p) q ≡ empty =
        sym (after-colour q) ∙ lost-empty whole g.table whole-largest foe theirs t q y in
        y
        ∙ sym (and_both (eq-eqb (at before q) foe (sym (whole-colour q) ∙ lost-foe whole g.table whole-largest foe theirs t q y))
        (eq-eqb (at moved q) empty (moved-else q (λ z. ours (sym z ∙ vacant)) ∙ vacant))))
        (λ y.
        y
        ∙ sym (not_yes
        (λ both.
        let e = eqb-true (at before q) foe (and_left _ _ both) in
        let stays : at (captured b.height b.width cols c p) q ≡ foe =
        sym (after-colour q) ∙ kept-colour whole g.table whole-largest foe theirs t q y ∙ whole-colour q ∙ e in
        theirs
        (sym (moved-else q (λ z. apart (sym z ∙ stays)) ∙ stays) ∙ eqb-true (at moved q) empty (and_right (eqb (at before q) foe) _ both)))))
        (decided (has t.gone (owner whole q)))

    same_points : below (area whole.height whole.width) ≡ below (area b.height b.width)
    unfolding put
    same_points = ap below (ap₂ area g.tall g.wide)

    pub lay-taken : (lay b p c s (forbids flags SUICIDE)).taken ≡ length (removed b.height b.width foe before moved)
    unfolding lay finished removed
    lay-taken =
        t.counted
        ∙ ap (count (λ q. has t.gone (owner whole q))) same_points
        ∙ count_same (λ q. has t.gone (owner whole q)) (λ q. eqb (at before q) foe && eqb (at moved q) empty) (below (area b.height b.width))
        (λ q m. gone-test q)
        ∙ sym (length-pick (λ q. eqb (at before q) foe && eqb (at moved q) empty) (below (area b.height b.width)))

    pub lay-ko : (lay b p c s (forbids flags SUICIDE)).ko_point ≡ sole_of (removed b.height b.width foe before moved)
    unfolding lay finished removed
    lay-ko =
        ap (λ (n : ℕ). cond (eqb n 1) (Some haul.point) None) lay-taken
        ∙ sole (removed b.height b.width foe before moved) haul.point
        (λ one.
        let (on, y) = t.sample (λ z. let bad : ◌≡◌ {A = ℕ} 1 0 = sym one ∙ sym lay-taken ∙ z in omega arith) in
        mem-pick (λ q. eqb (at before q) foe && eqb (at moved q) empty) (rw same_points at (mem_below _ haul.point on)) (sym (gone-test haul.point) ∙ y))

    own-test : ℕ → Bool
    own-test q = eqb (at before q) c && eqb (at moved q) empty

    -- where the captures are all, no own stone is gone
    none-lost : captured b.height b.width cols c p ≡ moved → length (removed b.height b.width c before moved) ≡ 0
    unfolding removed own-test
    none-lost same =
        length-pick own-test (below (area b.height b.width))
        ∙ count_none own-test (below (area b.height b.width))
        (λ q m.
        not_yes
        (λ both.
        let e = eqb-true (at before q) c (and_left _ _ both) in
        let kept = own-after b.height b.width cols true-cols c putting.player p putting.on free q e in
        ours
        (sym kept ∙ ap (λ (l : List ℕ). at l q) same ∙ eqb-true (at moved q) empty (and_right (eqb (at before q) c) _ both))))

    -- where the own chain is lifted, its points are the own stones that are gone
    all-lost :
        (choked : dead after joined.slot ≡ true) → Ends (remove after joined.slot) →
        (chain_in after joined.slot).count ≡ length (removed b.height b.width c before moved)
    unfolding removed own-test
    all-lost choked end =
        (t.table.exact joined.slot slot-low slot-used).counted
        ∙ ap (λ (n : ℕ). count (λ q. eqb (owner after q) joined.slot) (below n)) after-area
        ∙ count_same (λ q. eqb (owner after q) joined.slot) own-test (below (area b.height b.width)) (λ q m. each q)
        ∙ sym (length-pick own-test (below (area b.height b.width)))
      where
        each : (q : ℕ) → eqb (owner after q) joined.slot ≡ own-test q
        each q =
            ⊎_elim
            (λ k.
            let mine : at (captured b.height b.width cols c p) q ≡ c = sym (after-colour q) ∙ slot-colour q k in
            eq-eqb (owner after q) joined.slot k
            ∙ sym (and_both (eq-eqb (at before q) c (own-was b.height b.width cols true-cols c putting.player p putting.on free q mine))
            (eq-eqb (at moved q) empty (sym (end.colours q) ∙ gone-colour choked q k))))
            (λ n.
            ne_eqb (owner after q) joined.slot n
            ∙ sym (not_yes
            (λ both.
            let e = eqb-true (at before q) c (and_left _ _ both) in
            let kept = own-after b.height b.width cols true-cols c putting.player p putting.on free q e in
            let vacant = eqb-true (at moved q) empty (and_right (eqb (at before q) c) _ both) in
            ours (sym kept ∙ sym (after-colour q) ∙ sym (left-colour choked q n) ∙ end.colours q ∙ vacant))))
            (equal_or_not (owner after q) joined.slot)

    pub lay-lost : (lay b p c s (forbids flags SUICIDE)).lost ≡ length (removed b.height b.width c before moved)
    unfolding lay finished played
    lay-lost =
        ⊎_elim
        (λ (k : forbids flags SUICIDE ≡ true). ap (λ (u : Bool). cond (not u && dead after joined.slot) (chain_in after joined.slot).count 0) k ∙ sym (none-lost (sym (rw k))))
        (λ (k : forbids flags SUICIDE ≡ false).
        ap (λ (u : Bool). cond (not u && dead after joined.slot) (chain_in after joined.slot).count 0) k
        ∙ ⊎_elim
        (λ (d : dead after joined.slot ≡ true).
        ap (λ (u : Bool). cond u (chain_in after joined.slot).count 0) d ∙ all-lost d (ends-emptied d (sym (rw k))))
        (λ (d : dead after joined.slot ≡ false).
        ap (λ (u : Bool). cond u (chain_in after joined.slot).count 0) d ∙ sym (none-lost (sym (spared d) ∙ sym (rw k))))
        (decided (dead after joined.slot)))
        (decided (forbids flags SUICIDE))
