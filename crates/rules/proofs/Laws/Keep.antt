-- Every accepted call keeps a game true. For a stone: the colours are true again, one stone more was put, and what is missing is held.
use Rattle.std.specs.Prelude.{◌≡◌, Bool, true, false, ◌&&◌, ◌≢◌, ◌⊎◌, ℕ, ◌+◌, ◌≤◌, ◌<◌, leb, length, set, Some}
use Rattle.std.proofs.Math.Path.{refl, ap, subst}
use Rattle.std.proofs.Common.{sym, ◌∙◌, true≢false}
use Rattle.std.proofs.Math.Bool.{not}
use mathlib.Core.List.Memᴰ.{head}
use mathlib.Core.List.{List, [], ◌∷◌, Memᴰ}
use Rattle.std.proofs.Math.Logic.{inl, inr, ⊎_elim}
use Rattle.std.proofs.lemmas.Option.{same_Some, none-some}
use native.Mathlib.Omega.{arith}
use Rattle.std.proofs.Math.Dec.{eqb}
use Rattle.std.proofs.Math.ListN.{get_or, length-set}
use Rattle.std.proofs.Math.Seq.{get_or-set_same, get_or-set_other, set_out}
use Rattle.std.proofs.Math.Nat.{mul-le-mul}
use borrow.Author.Tests.{eqb-true, eqb-false, ne_eqb, leb-false, not-false}
use Rattle.rules.specs.Sizes.{max_stones}
use Rattle.rules.specs.Lists.{below}
use Rattle.rules.specs.Points.{area, index, neighbours}
use Rattle.rules.specs.Reach.{Reaches}
use Rattle.rules.specs.Chain.{liberties}
use Rattle.rules.specs.Colours.{empty, black, white, other, at}
use Rattle.rules.specs.Answers.{GamePaused, OffBoard, PointNotEmpty, MoveLimit, NotAtStart, NoLiberty, number, accepts}
use Rattle.rules.specs.Move.{coloured, removed, sole_of}
use Rattle.rules.specs.Game.{Game, TrueGame, TrueColours, Unbegun, Player, stones}
use Rattle.rules.specs.Calls.{paused, pause_answer, pass_game, resign_game, resume_game, point_answer, resulting, stone_answer, one_if, stone_game, outside, Spot, lay_black, spots_answer, lay_answer, handicap_answer, handicap_game, choked}
use Rattle.rules.proofs.Laws.Lists.{and_both, or-none-left, or-none-right, not-both, decided, equal_or_not, below_or_not, any-no, pick-mem, mem_below, below-mem}
use Rattle.rules.proofs.Laws.Points.{index_on}
use Rattle.rules.proofs.Laws.Colours.{at-within, other-player}
use Rattle.rules.proofs.Laws.Chain.{liberties-reaches}
use Rattle.rules.proofs.Laws.Stones.{stones-put, stones-removed, stones-most}
use Rattle.rules.proofs.Laws.Move.{put-length, played-else}
use Rattle.rules.proofs.Laws.Calls.{then-first, then-second, refuse-not, accepted-on, accepted-empty, accepted-no-suicide, point-accepted, stone-true}

-- a begun game asks nothing of one that is not
begun-not : {A : Type 0} {b : Bool} → b ≡ true → b ≡ false → A
begun-not y n = absurd (true≢false (sym y ∙ n))

-- ---- Pass, resign, resume

module _ (g : Game) (is : TrueGame g) where
  -- a game that is not paused has room for one more pass
  pub unpaused : accepts (pause_answer g) ≡ true → g.passes + 1 ≤ 2
  unfolding pause_answer paused accepts number
  unpaused yes' =
      let n = eqb-false g.passes 2 (refuse-not GamePaused (eqb g.passes 2) refl yes') in
      let l = is.pauses in
      omega arith

  pub pass-true : accepts (pause_answer g) ≡ true → TrueGame (pass_game g)
  unfolding pass_game
  pass-true yes' =
      record {
        size = is.size;
        flagged = is.flagged;
        board = is.board;
        mover = other-player g.turn is.mover;
        pauses = unpaused yes';
        ko_on = λ k e. absurd (none-some k e);
        named = is.named;
        limited = is.limited;
        handicapped = is.handicapped;
        black_kept = is.black_kept;
        white_kept = is.white_kept;
        both_put = is.both_put;
        unbegun = λ n. begun-not refl n;
      }

  pub resign-true : (player : ℕ) → Player player → TrueGame (resign_game g player)
  unfolding resign_game
  resign-true player names =
      record {
        size = is.size;
        flagged = is.flagged;
        board = is.board;
        mover = is.mover;
        pauses = is.pauses;
        ko_on = is.ko_on;
        named = λ c e. subst Player (same_Some player c e) names;
        limited = is.limited;
        handicapped = is.handicapped;
        black_kept = is.black_kept;
        white_kept = is.white_kept;
        both_put = is.both_put;
        unbegun = λ n. begun-not refl n;
      }

  pub resume-true : TrueGame (resume_game g)
  unfolding resume_game
  resume-true =
      record {
        size = is.size;
        flagged = is.flagged;
        board = is.board;
        mover = is.mover;
        pauses = omega arith;
        ko_on = is.ko_on;
        named = is.named;
        limited = is.limited;
        handicapped = is.handicapped;
        black_kept = is.black_kept;
        white_kept = is.white_kept;
        both_put = is.both_put;
        unbegun =
            λ n.
            let u = is.unbegun n in
            record { bare = u.bare; unput = u.unput; unrecorded = u.unrecorded; unpassed = refl; undecided = u.undecided };
      }

-- ---- Stone

-- the one element comes from the list
sole_of-mem : (xs : List ℕ) (k : ℕ) → sole_of xs ≡ Some k → Memᴰ k xs
unfolding sole_of
sole_of-mem [] k e = absurd (none-some k e)
sole_of-mem (x ∷ []) k e = head (sym (same_Some x k e))
sole_of-mem (x ∷ y ∷ xs) k e = absurd (none-some k e)

-- the player to move is one of two
one_of_two : (own : ℕ) → Player own → one_if own black + one_if own white ≡ 1
unfolding one_if Player
one_of_two own (inl b) = rw b
one_of_two own (inr w) = rw w

module _ (g : Game) (bytes : List ℕ) (r c : ℕ) (is : TrueGame g) (accepted : accepts (stone_answer g bytes r c) ≡ true) where
  abbrev here : ℕ
  here = index g.width r c

  abbrev point : accepts (point_answer g bytes g.flags r c) ≡ true
  point = point-accepted g bytes r c is accepted

  on : here < area g.height g.width
  on = accepted-on g bytes r c g.flags point

  vacant : at g.colours here ≡ empty
  vacant = accepted-empty g bytes r c g.flags point

  more : g.accepted + 1 ≤ max_stones
  unfolding stone_answer accepts number
  more =
      let n = leb-false max_stones g.accepted (refuse-not MoveLimit (leb max_stones g.accepted) refl (then-first _ _ (then-second _ _ (then-second _ _ accepted)))) in
      omega arith

  -- for each colour: put before and now, on the board and held
  kept :
      (k put held : ℕ) → k ≢ empty → put ≡ stones g.colours k + held →
      put + one_if g.turn k
      ≡ stones (resulting g here) k + (held + length (removed g.height g.width k (coloured g.colours g.turn here) (resulting g here)))
  unfolding resulting coloured
  kept k put held stone e =
      let one = stones-put g.colours here g.turn k (rw is.board.covers on) vacant stone in
      let gone =
      stones-removed g.height g.width k (coloured g.colours g.turn here) (resulting g here)
      (put-length g.height g.width g.colours is.board g.turn is.mover here on vacant)
      (stone-true g bytes r c is accepted).covers stone
      (played-else g.height g.width g.colours is.board g.turn is.mover here on vacant g.flags
      (accepted-no-suicide g bytes r c g.flags point)) in
      omega arith

  pub stone-keeps : TrueGame (stone_game g bytes here)
  unfolding stone_game removed
  stone-keeps =
      record {
        size = is.size;
        flagged = is.flagged;
        board = stone-true g bytes r c is accepted;
        mover = other-player g.turn is.mover;
        pauses = omega arith;
        ko_on = λ k e. below-mem _ k (pick-mem _ (below (area g.height g.width)) (sole_of-mem (removed g.height g.width (other g.turn) (coloured g.colours g.turn here) (resulting g here)) k e)).0;
        named = is.named;
        limited = more;
        handicapped = is.handicapped;
        black_kept = kept black g.black_put g.black_held (λ e. omega arith) is.black_kept;
        white_kept = kept white g.white_put g.white_held (λ e. omega arith) is.white_kept;
        both_put = omega (arith, is.both_put, one_of_two g.turn is.mover);
        unbegun = λ n. begun-not refl n;
      }

-- ---- Handicap

-- each spot is one Black stone more, and takes none of White's
module _ (h w : ℕ) where
  laid-length : (cols : List ℕ) (spots : List Spot) → length (lay_black w cols spots) ≡ length cols
  unfolding coloured
  laid-length cols [] = refl
  laid-length cols (s ∷ spots) = laid-length (coloured cols black (index w s.row s.column)) spots ∙ length-set cols (index w s.row s.column) black

  module _ (cols : List ℕ) (s : Spot) (spots : List Spot) (whole : length cols ≡ area h w) (accepted : accepts (spots_answer h w cols (s ∷ spots)) ≡ true) where
    spot_on : index w s.row s.column < area h w
    unfolding accepts number outside
    spot_on =
        let inside = refuse-not OffBoard (outside h w s.row s.column) refl (then-first _ _ accepted) in
        index_on (leb-false h s.row (or-none-left _ _ inside)) (leb-false w s.column (or-none-right (leb h s.row) _ inside))

    spot-vacant : at cols (index w s.row s.column) ≡ empty
    unfolding accepts number
    spot-vacant =
        eqb-true (at cols (index w s.row s.column)) empty
        (not-false _ (refuse-not PointNotEmpty (not (eqb (at cols (index w s.row s.column)) empty)) refl (then-first _ _ (then-second _ _ accepted))))

    spot-stones : (c : ℕ) → c ≢ empty → stones (coloured cols black (index w s.row s.column)) c ≡ stones cols c + one_if black c
    unfolding coloured
    spot-stones c stone = stones-put cols (index w s.row s.column) black c (rw whole spot_on) spot-vacant stone

    rest-accepted : accepts (spots_answer h w (coloured cols black (index w s.row s.column)) spots) ≡ true
    rest-accepted = then-second _ _ (then-second _ _ accepted)

    rest-whole : length (coloured cols black (index w s.row s.column)) ≡ area h w
    unfolding coloured
    rest-whole = length-set cols (index w s.row s.column) black ∙ whole

  laid-black :
      (cols : List ℕ) (spots : List Spot) → length cols ≡ area h w → accepts (spots_answer h w cols spots) ≡ true →
      stones (lay_black w cols spots) black ≡ stones cols black + length spots
  unfolding one_if
  laid-black cols [] whole accepted = omega arith
  laid-black cols (s ∷ spots) whole accepted =
      let ih =
      laid-black (coloured cols black (index w s.row s.column)) spots (rest-whole cols s spots whole accepted) (rest-accepted cols s spots whole accepted) in
      let one = spot-stones cols s spots whole accepted black (λ e. omega arith) in
      omega arith

  laid-white :
      (cols : List ℕ) (spots : List Spot) → length cols ≡ area h w → accepts (spots_answer h w cols spots) ≡ true →
      stones (lay_black w cols spots) white ≡ stones cols white
  unfolding one_if
  laid-white cols [] whole accepted = refl
  laid-white cols (s ∷ spots) whole accepted =
      let ih =
      laid-white (coloured cols black (index w s.row s.column)) spots (rest-whole cols s spots whole accepted) (rest-accepted cols s spots whole accepted) in
      let one = spot-stones cols s spots whole accepted white (λ e. omega arith) in
      omega arith

  -- what stands there stood there before, or is Black
  laid-else : (cols : List ℕ) (spots : List Spot) (p : ℕ) → (at (lay_black w cols spots) p ≡ at cols p) ⊎ (at (lay_black w cols spots) p ≡ black)
  unfolding coloured at
  laid-else cols [] p = inl refl
  laid-else cols (s ∷ spots) p =
      let q = index w s.row s.column in
      ⊎_elim
      (λ e.
      ⊎_elim
      (λ k.
      ⊎_elim (λ l. inr (e ∙ ap (λ (x : ℕ). get_or (set cols q black) x empty) k ∙ get_or-set_same cols q black empty l))
      (λ l. inl (e ∙ ap (λ (xs : List ℕ). get_or xs p empty) (set_out cols q black l)))
      (below_or_not q (length cols)))
      (λ n. inl (e ∙ get_or-set_other cols q p black empty n))
      (equal_or_not p q))
      inr
      (laid-else (coloured cols black q) spots p)

  -- where no chain is choked, every stone reaches empty
  pub unchoked : (cols : List ℕ) → length cols ≡ area h w → choked h w cols ≡ false → (p : ℕ) → at cols p ≢ empty → Reaches (neighbours h w) (at cols) p empty
  unfolding choked
  unchoked cols whole free p stone =
      let on : p < area h w = rw whole at (at-within cols p stone) in
      let no_zero = any-no (λ q. not (eqb (at cols q) empty) && eqb (liberties h w cols q) 0) free (mem_below (area h w) p on) in
      (liberties-reaches h w cols p stone).0
      (⊎_elim (λ z. absurd (not-both (and_both (ap not (ne_eqb (at cols p) empty stone)) z) no_zero))
      (λ z. let n = eqb-false (liberties h w cols p) 0 z in omega arith)
      (decided (eqb (liberties h w cols p) 0)))

module _ (g : Game) (spots : List Spot) (is : TrueGame g) (accepted : accepts (handicap_answer g spots) ≡ true) where
  abbrev laid : List ℕ
  laid = lay_black g.width g.colours spots

  fresh : Unbegun g
  unfolding handicap_answer accepts number
  fresh = is.unbegun (refuse-not NotAtStart g.begun refl (then-first _ _ accepted))

  spots-accepted : accepts (spots_answer g.height g.width g.colours spots) ≡ true
  unfolding handicap_answer lay_answer
  spots-accepted = then-first _ _ (then-second _ _ accepted)

  laid-free : choked g.height g.width laid ≡ false
  unfolding handicap_answer lay_answer accepts number
  laid-free = refuse-not NoLiberty (choked g.height g.width laid) refl (then-second _ _ (then-second _ _ accepted))

  laid-whole : length laid ≡ area g.height g.width
  laid-whole = laid-length g.height g.width g.colours spots ∙ is.board.covers

  laid-true : TrueColours g.height g.width laid
  unfolding Player
  laid-true =
      record {
        covers = laid-whole;
        known =
            λ p n.
            ⊎_elim (λ e. subst Player (sym e) (is.board.known p (λ z. n (e ∙ z)))) (λ e. inl e)
            (laid-else g.height g.width g.colours spots p);
        breathes = unchoked g.height g.width laid laid-whole laid-free;
      }

  pub handicap-keeps : TrueGame (handicap_game g spots)
  unfolding handicap_game Player area
  handicap-keeps =
      record {
        size = is.size;
        flagged = is.flagged;
        board = laid-true;
        mover = inr refl;
        pauses = is.pauses;
        ko_on = is.ko_on;
        named = is.named;
        limited = is.limited;
        handicapped =
            omega (
              arith,
              laid-black g.height g.width g.colours spots is.board.covers spots-accepted,
              stones-most laid black,
              laid-whole,
              mul-le-mul is.size.low is.size.narrow,
            );
        black_kept = omega (arith, is.black_kept, laid-black g.height g.width g.colours spots is.board.covers spots-accepted);
        white_kept = omega (arith, is.white_kept, laid-white g.height g.width g.colours spots is.board.covers spots-accepted);
        both_put = omega (arith, is.both_put, fresh.unput);
        unbegun = λ n. begun-not refl n;
      }
