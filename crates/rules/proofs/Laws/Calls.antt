-- Laws of Calls: what an accepted stone tells, and that it is a move of Tromp-Taylor 7 which leaves the colours true.
use Rattle.std.specs.Prelude.{◌≡◌, Bool, true, false, not, ◌&&◌, ◌||◌, List, ℕ, ◌<◌, eqb, ltb, leb}
use Rattle.std.proofs.Math.Path.{refl}
use Rattle.std.proofs.Common.{sym, ap, ap₂, ◌∙◌, ⊎_elim}
use borrow.Author.Tests.{eqb-true, leb-false, not-false, ltb-true, ltb-false, leb-true, lt-leb, le-leb}
use Rattle.rules.specs.Sizes.{max_side}
use Rattle.rules.specs.Colours.{empty, at}
use Rattle.rules.specs.Points.{area, index, neighbours}
use Rattle.rules.specs.Reach.{Move}
use Rattle.rules.specs.Flags.{SUICIDE, forbids}
use Rattle.rules.specs.Answers.{Answer, Suicide, OffBoard, PointNotEmpty, number, accepts, ◌then◌, refuse}
use Rattle.rules.specs.Tests.{suicide}
use Rattle.rules.specs.Game.{Game, TrueGame, TrueColours, TrueSize}
use Rattle.rules.specs.Calls.{side_ok, outside, off_board, taken, resulting, forbidden_answer, point_answer, stone_answer}
use Rattle.rules.proofs.Laws.Lists.{and_left, and_right, decided, not-both, or-none-left, or-none-right}
use Rattle.rules.proofs.Laws.Points.{index_on}
use Rattle.rules.proofs.Laws.Move.{played-move, played-true}

-- ---- The order of tests

-- both tests let pass what the two in a row let pass
pub then-first : (a b : Answer) → accepts (a then b) ≡ true → accepts a ≡ true
unfolding ◌then◌
then-first a b e = ⊎_elim (λ y. y) (λ n. absurd (not-both (rw n at e) n)) (decided (accepts a))

pub then-second : (a b : Answer) → accepts (a then b) ≡ true → accepts b ≡ true
unfolding ◌then◌
then-second a b e = rw (then-first a b e) at e

-- a test that would have refused did not hold
pub refuse-not : (a : Answer) (t : Bool) → accepts a ≡ false → accepts (refuse a t) ≡ true → t ≡ false
unfolding refuse
refuse-not a true n e = absurd (not-both e n)
refuse-not a false n e = refl

-- ---- Sizes, by the test

pub size-true : (h w : ℕ) → side_ok h && side_ok w ≡ true → TrueSize h w
unfolding side_ok
size-true h w e =
    let tall = and_left (side_ok h) (side_ok w) e in
    let wide = and_right (side_ok h) (side_ok w) e in
    record {
      tall = ltb-true 0 h (and_left (ltb 0 h) (leb h max_side) tall);
      low = leb-true h max_side (and_right (ltb 0 h) (leb h max_side) tall);
      wide = ltb-true 0 w (and_left (ltb 0 w) (leb w max_side) wide);
      narrow = leb-true w max_side (and_right (ltb 0 w) (leb w max_side) wide);
    }

-- ---- A row and a column, by the test

leb-not : (n x : ℕ) → leb n x ≡ not (ltb x n)
leb-not n x =
    ⊎_elim (λ t. lt-leb n x (ltb-true x n t) ∙ sym (ap not t)) (λ f. le-leb n x (ltb-false x n f) ∙ sym (ap not f)) (decided (ltb x n))

not-and : (u v : Bool) → (not u || not v) ≡ not (u && v)
not-and true v = refl
not-and false v = refl

-- outside, or by the coordinates' test the other way round
pub off-not-on : (h w r c : ℕ) → (leb h r || leb w c) ≡ not (ltb r h && ltb c w)
off-not-on h w r c = ap₂ ◌||◌ (leb-not h r) (leb-not w c) ∙ not-and (ltb r h) (ltb c w)

-- ---- An accepted stone

module _ (g : Game) (bytes : List ℕ) (r c : ℕ) where
  abbrev here : ℕ
  here = index g.width r c

  module _ (flags : ℕ) (accepted : accepts (point_answer g bytes flags r c) ≡ true) where
    on-board : off_board g r c ≡ false
    unfolding point_answer accepts number
    on-board = refuse-not OffBoard (off_board g r c) refl (then-first _ _ accepted)

    pub accepted-on : here < area g.height g.width
    unfolding off_board outside
    accepted-on =
        index_on (leb-false g.height r (or-none-left _ _ on-board)) (leb-false g.width c (or-none-right (leb g.height r) _ on-board))

    pub accepted-empty : at g.colours here ≡ empty
    unfolding point_answer accepts number taken
    accepted-empty =
        eqb-true (at g.colours here) empty
        (not-false (eqb (at g.colours here) empty) (refuse-not PointNotEmpty (taken g here) refl (then-first _ _ (then-second _ _ accepted))))

    pub accepted-no-suicide : forbids flags SUICIDE && suicide g.height g.width g.colours g.turn here ≡ false
    unfolding point_answer forbidden_answer accepts number
    accepted-no-suicide = refuse-not Suicide _ refl (then-first _ _ (then-second _ _ (then-second _ _ accepted)))

  module _ (is : TrueGame g) (accepted : accepts (stone_answer g bytes r c) ≡ true) where
    pub point-accepted : accepts (point_answer g bytes g.flags r c) ≡ true
    unfolding stone_answer
    point-accepted = then-first _ _ (then-second _ _ accepted)

    pub stone-move : Move (neighbours g.height g.width) (at g.colours) g.turn here (at (resulting g here))
    unfolding resulting
    stone-move =
        played-move g.height g.width g.colours is.board g.turn is.mover here (accepted-on g.flags point-accepted)
        (accepted-empty g.flags point-accepted) g.flags (accepted-no-suicide g.flags point-accepted)

    pub stone-true : TrueColours g.height g.width (resulting g here)
    unfolding resulting
    stone-true =
        played-true g.height g.width g.colours is.board g.turn is.mover here (accepted-on g.flags point-accepted)
        (accepted-empty g.flags point-accepted) g.flags (accepted-no-suicide g.flags point-accepted)
