-- Laws of Asking: a capture may be laid whatever the flags forbid, what the tests tell of what stands near is the rules' answer, and a
-- stone that passes what is told may be laid.
use Rattle.std.specs.Prelude.{Bool, true, false, ◌&&◌, ℕ, eqb, length}
use Rattle.std.proofs.Math.Bool.{not}
use mathlib.Core.List.{List, []}
use Rattle.std.proofs.Math.Path.{◌≡◌, refl, sym, ap, subst}
use Rattle.std.proofs.Common.{◌∙◌, arith}
use Rattle.std.proofs.lemmas.Bool.{not-true}
use Rattle.rules.specs.Lists.{any}
use Rattle.rules.specs.Points.{index, neighbours}
use Rattle.rules.specs.Colours.{empty, other, at}
use Rattle.rules.specs.Records.{recorded}
use Rattle.rules.specs.Flags.{SUICIDE, forbids}
use Rattle.rules.specs.Tests.{in_atari, suicide, ko, eye, captures, superko}
use Rattle.rules.specs.Answers.{OffBoard, PointNotEmpty, number, accepts}
use Rattle.rules.specs.Calls.{off_board, taken, resulting, forbidden_answer, point_answer}
use Rattle.rules.proofs.Laws.Lists.{and_right, not_yes, not-both}
use Rattle.board.specs.declared.goban.Board.{Board}
use Rattle.board.specs.Board.{colours_of}
use Rattle.rules.proofs.Laws.Answers.{zero-accepts, refused-then, passed_then}
use Rattle.rules.proofs.Laws.Calls.{accepted-on, accepted-empty, accepted-no-suicide}
use Rattle.board.specs.True.{TrueBoard}
use Rattle.history.specs.Packing.{on_largest}
use Rattle.laying.specs.Laying.{Laying}
use Rattle.legality.specs.declared.near.Near.{Near}
use Rattle.legality.specs.Near.{near_of, besides, saves, catches_more, caught}
use Rattle.looking.specs.declared.look.Sight.{Sight}
use Rattle.looking.specs.Seen.{Sees}
use Rattle.looking.specs.Laws.Sight.{sight-at}
use Rattle.game.specs.declared.state.Game.{Game}
use Rattle.game.specs.declared.clock.Clock.{Clock}
use Rattle.game.specs.Clock.{game_of}
use Rattle.game.specs.View.{turn_of, ko_of, view_of, TrueState, RoomIn}
use Rattle.game.specs.Laws.View.{turn-player}
use Rattle.checking.specs.declared.spot.Spot.{Spot}
use Rattle.checking.specs.declared.spot.Spot.TheVariants.{Off, Stone, Empty}
use Rattle.checking.specs.Spot.{spot_of}
use Rattle.checking.specs.Told.{Told, Answer, IfRecorded, at_ko, told_of, told_near, told_spot, settled, known, undecided}
use Rattle.checking.specs.Asking.{Asking, Repeating, ToldAt}
use Rattle.checking.specs.Laws.Spot.{spot-same, Free, off-outside, stone-taken, empty-free, free_on, free-empty}
use Rattle.checking.specs.Laws.Near.{own-suicide, its-ko, own-captures, own-eye}
use Rattle.checking.specs.Laws.Told.{told-settled, told-captures}

-- ---- A capture may be laid

capture-no-suicide : (h w : ℕ) (cols : List ℕ) (own p : ℕ) → captures h w cols own p ≡ true → suicide h w cols own p ≡ false
unfolding captures suicide
capture-no-suicide h w cols own p e =
    let free : Bool =
    not (any (λ q. eqb (at cols q) empty) (neighbours h w p)) && not (any (λ q. eqb (at cols q) own && not (in_atari h w cols q)) (neighbours h w p)) in
    not_yes (λ y. not-both e (not-true (captures h w cols own p) (and_right free (not (captures h w cols own p)) y)))

pub repeating-laying : (g : Game) (n p : ℕ) → Repeating g n p → (c : ℕ) → c ≡ turn_of g.turn → Laying g.board p c g.flags
repeating-laying g n p is c e =
    subst (λ (c : ℕ). Laying g.board p c g.flags) (sym e)
    (record {
      board = is.asking.state.board;
      on = is.asking.on;
      empty = is.asking.empty;
      player = turn-player g.turn;
      allowed = not_yes (λ y. not-both (and_right (forbids g.flags SUICIDE) _ y) (capture-no-suicide _ _ _ _ p is.captures));
    })

-- ---- A point of the board, and whether it is empty

module _ (g : Game) (bytes : List ℕ) (flags r c : ℕ) (s : Spot) (found : s ≡ spot_of g.board.height g.board.width (colours_of g.board) r c) where
  abbrev said : ℕ
  said = number (point_answer (view_of g) bytes flags r c)

  pub off-answer : s ≡ Off → 5 ≡ said
  unfolding point_answer off_board view_of number
  off-answer e = sym (refused-then OffBoard _ (λ (z : ◌≡◌ {A = ℕ} 5 0). omega arith) (off-outside _ _ _ r c (sym found ∙ e)))

  pub stone-answer : s ≡ Stone → 6 ≡ said
  unfolding point_answer off_board taken view_of number
  stone-answer e =
      let (on, stone) = stone-taken _ _ _ r c (sym found ∙ e) in
      sym (passed_then OffBoard _ on ∙ refused-then PointNotEmpty _ (λ (z : ◌≡◌ {A = ℕ} 6 0). omega arith) (ap not stone))

  module _ (p : ℕ) (e : s ≡ Empty p) where
    free : Free g.board.height g.board.width (colours_of g.board) r c p
    free = empty-free _ _ _ r c p (sym found ∙ e)

    pub empty-answer : number (forbidden_answer (view_of g) bytes flags p) ≡ said
    unfolding point_answer off_board taken view_of
    empty-answer =
        ap (λ (q : ℕ). number (forbidden_answer (view_of g) bytes flags q)) free.here
        ∙ sym (passed_then OffBoard _ free.on ∙ passed_then PointNotEmpty _ (ap not free.vacant))

    pub empty-asking : (n : ℕ) → TrueState g → RoomIn g n → Asking g n p
    empty-asking n state room =
        record { state = state; room = room; on = free_on _ _ _ r c p free; empty = free-empty _ _ _ r c p free }

-- ---- What the tests tell

-- e is what the eye test says
module _ (g : Game) (flags p : ℕ) (n : Near) (near : n ≡ near_of g.board.height g.board.width (colours_of g.board) p)
    (own : ℕ) (mover : own ≡ turn_of g.turn) (k : Bool) (at-ko : k ≡ at_ko g.ko p)
    (e : Bool) (eyed : e ≡ eye g.board.height g.board.width (colours_of g.board) (turn_of g.turn) p)
    (t : Told) (told :
    t ≡ told_of flags (not (any (saves own) (besides n))) (k && not (any catches_more (besides n))) e (any (caught (other own)) (besides n)) g.records) where
  abbrev h : ℕ
  h = g.board.height

  abbrev w : ℕ
  w = g.board.width

  abbrev cols : List ℕ
  cols = colours_of g.board

  by-rules : t ≡ told_of flags (suicide h w cols (turn_of g.turn) p) (ko h w cols (ko_of g.ko) p) (eye h w cols (turn_of g.turn) p)
      (captures h w cols (turn_of g.turn) p) g.records
  by-rules =
      told
      ∙ (λ i. told_of flags (own-suicide g p n near own mover i) (its-ko g p n near k at-ko i) (eyed i) (own-captures g p n near own mover i) g.records)

  pub told-forbidden : (bytes : List ℕ) → settled t (recorded bytes g.records (resulting (view_of g) p)) ≡ number (forbidden_answer (view_of g) bytes flags p)
  unfolding view_of forbidden_answer superko
  told-forbidden bytes =
      ap (λ (x : Told). settled x (recorded bytes g.records (resulting (view_of g) p))) by-rules
      ∙ told-settled flags (suicide h w cols (turn_of g.turn) p) (ko h w cols (ko_of g.ko) p) (eye h w cols (turn_of g.turn) p)
      (captures h w cols (turn_of g.turn) p) g.records (recorded bytes g.records (resulting (view_of g) p))

  pub told-capturing : undecided t ≡ true → captures h w cols (turn_of g.turn) p ≡ true
  told-capturing u = told-captures flags _ _ _ _ g.records (ap undecided (sym by-rules) ∙ u)

  pub told-repeating : (len : ℕ) → Asking g len p → undecided t ≡ true → Repeating g len p
  told-repeating len asking u = record { asking = asking; captures = told-capturing u }

-- ---- What is told of a row and a column

module _ (g : Game) (flags r c : ℕ) (is : TrueBoard g.board) (s : Spot) (found : s ≡ spot_of g.board.height g.board.width (colours_of g.board) r c)
    (n : Near) (near : n ≡ near_of g.board.height g.board.width (colours_of g.board) (index g.board.width r c))
    (cs : List ℕ) (seen : cs ≡ on_largest (colours_of g.board)) (own : ℕ) (mover : own ≡ turn_of g.turn) where
  abbrev there : ℕ → Told
  there = told_near flags n cs g.board.height g.board.width own g.ko g.records

  eyed : (p : ℕ)
      → eye g.board.height g.board.width cs own p ≡ eye g.board.height g.board.width (colours_of g.board) (turn_of g.turn) p
  eyed p = own-eye g p is cs seen own mover

  told-empty : (p : ℕ) → s ≡ Empty p → ToldAt g flags r c (there p)
  unfolding told_near
  told-empty p e =
      let here = (empty-free _ _ _ r c p (sym found ∙ e)).here in
      let near' = near ∙ ap (near_of g.board.height g.board.width (colours_of g.board)) (sym here) in
      let t = there p in
      record {
        settles =
            λ bytes.
            ap (λ (q : ℕ). settled t (recorded bytes g.records (resulting (view_of g) q))) (sym here)
            ∙ told-forbidden g flags p n near' own mover _ refl _ (eyed p) t refl bytes
            ∙ empty-answer g bytes flags r c s found p e;
        repeating =
            λ u len state room.
            subst (Repeating g len) here
            (told-repeating g flags p n near' own mover _ refl _ (eyed p) t refl len (empty-asking g [] flags r c s found p e len state room) u);
      }

  told-spot : (x : Spot) → s ≡ x → ToldAt g flags r c (told_spot x there)
  unfolding number
  told-spot Off e = record { settles = λ bytes. off-answer g bytes flags r c s found e; repeating = λ u. absurd (not-both u refl) }
  told-spot Stone e = record { settles = λ bytes. stone-answer g bytes flags r c s found e; repeating = λ u. absurd (not-both u refl) }
  told-spot (Empty p) e = told-empty p e

  pub told_at : (t : Told) → t ≡ told_spot s there → ToldAt g flags r c t
  told_at t told = subst (ToldAt g flags r c) (sym told) (told-spot s refl)

-- ---- By what is seen of a board there

module _ (b : Board) (r c : ℕ) (cs : List ℕ) (s : Sight) (sees : Sees b r c cs s) where
  pub near-there : s.near ≡ near_of b.height b.width (colours_of b) (index b.width r c)
  near-there = sees.near ∙ ap (near_of b.height b.width (colours_of b)) sees.point

  pub spot-there : TrueBoard b → spot_of s.height s.width cs r c ≡ spot_of b.height b.width (colours_of b) r c
  spot-there is =
      (λ i. spot_of (sees.height i) (sees.width i) cs r c)
      ∙ spot-same b.height b.width cs (colours_of b) r c (sight-at b is cs sees.colours (index b.width r c))

pub told-seen : (b : Board) (k : Clock) (flags r c : ℕ) → TrueBoard b → (cs : List ℕ) (s : Sight) → Sees b r c cs s
    → (x : Spot) → x ≡ spot_of s.height s.width cs r c → (own : ℕ) → own ≡ turn_of k.turn
    → (t : Told) → t ≡ told_spot x (told_near flags s.near cs s.height s.width own k.ko k.records) → ToldAt (game_of b k) flags r c t
unfolding game_of
told-seen b k flags r c is cs s sees x found own mover t told =
    told_at (game_of b k) flags r c is x (found ∙ spot-there b r c cs s sees is) s.near (near-there b r c cs s sees) cs sees.colours own mover t
    (told ∙ (λ i. told_spot x (told_near flags s.near cs (sees.height i) (sees.width i) own k.ko k.records)))

-- ---- What passes so far may be laid

module _ (g : Game) (bytes : List ℕ) (r c : ℕ) (is : TrueState g) (room : RoomIn g (length bytes)) where
  abbrev point : ℕ
  point = index g.board.width r c

  accepted-laying : accepts (point_answer (view_of g) bytes g.flags r c) ≡ true → Laying g.board point (turn_of g.turn) g.flags
  unfolding view_of
  accepted-laying ok =
      record {
        board = is.board;
        on = accepted-on (view_of g) bytes r c g.flags ok;
        empty = accepted-empty (view_of g) bytes r c g.flags ok;
        player = turn-player g.turn;
        allowed = accepted-no-suicide (view_of g) bytes r c g.flags ok;
      }

  pub told-laying : (t : Told) → ToldAt g g.flags r c t → known t ≡ 0 → Laying g.board point (turn_of g.turn) g.flags
  told-laying (Answer n) told z = accepted-laying (zero-accepts (point_answer (view_of g) bytes g.flags r c) (number n) (told.settles bytes) z)
  told-laying IfRecorded told z = repeating-laying g (length bytes) point (told.repeating refl (length bytes) is room) (turn_of g.turn) refl
