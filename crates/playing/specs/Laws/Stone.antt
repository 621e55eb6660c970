-- Laws of a stone: which test refuses it, what laying it may ask of an accepted one, and that the state which the code makes shows what
-- the rules say and is true again.
use Rattle.std.specs.Prelude.{◌≡◌, Bool, true, false, ◌≢◌, ℕ, ◌+◌, ◌≤◌, ◌<◌, eqb, leb, length, Some, None, Option, Result, Ok, Err}
use Rattle.std.proofs.Math.Path.{refl, sym, ap, subst}
use Rattle.std.proofs.Common.{◌∙◌, arith}
use Rattle.std.proofs.Math.Bool.{cond}
use mathlib.Core.List.{List}
use Rattle.std.proofs.Math.Logic.{⊎_elim}
use borrow.Author.Tests.{eq-eqb, ne_eqb, eqb-false, le-leb, lt-leb}
use Rattle.rules.specs.Sizes.{max_stones}
use Rattle.rules.specs.Points.{index}
use Rattle.rules.specs.Colours.{other}
use Rattle.rules.specs.Move.{coloured, played, removed}
use Rattle.rules.specs.Records.{record_of, recorded, full, capacity, bytes_after}
use Rattle.rules.specs.Answers.{Answer, number, accepts, refuse, ◌then◌, Accepted, GamePaused, SuperKo, MoveLimit, HistoryFull}
use Rattle.rules.specs.Game as rules
use Rattle.rules.specs.Calls.{paused, resulting, point_answer, stone_answer, stone_game, stone}
use Rattle.rules.proofs.Laws.Lists.{equal_or_not}
use Rattle.rules.proofs.Laws.Colours.{other-player}
use Rattle.rules.proofs.Laws.Keep.{stone-keeps}
use Rattle.rules.proofs.Laws.Records.{bytes_after-length, records_after-fits}
use Rattle.points.specs.declared.answers.Refusal.{Refusal}
use Rattle.points.specs.Reason.{reason}
use Rattle.points.specs.Place.{Within}
use Rattle.board.specs.declared.goban.Board.{Board}
use Rattle.board.specs.Board.{colours_of}
use Rattle.board.specs.Laws.Board.{area-fits}
use Rattle.laying.specs.declared.lay.Laid.{Laid}
use Rattle.laying.specs.Laying.{Laying, LaidOut}
use Rattle.rules.proofs.Laws.Answers.{accepts-zero, refuses-other, then-refused, then-accepted, passes, test-refuses, test-passes, other-refuses}
use Rattle.history.specs.History.{among}
use Rattle.history.proofs.Laws.History.{among-recorded}
use Rattle.looking.specs.declared.look.Sight.{Sight}
use Rattle.looking.specs.Laws.Sight.{sees-packing, sees-record}
use Rattle.game.specs.declared.state.Game.{Game}
use Rattle.game.specs.declared.clock.Clock.{Clock}
use Rattle.game.specs.Clock.{clock_of, game_of}
use Rattle.game.specs.View.{no_point, turn_of, outcome_of, begun_of, view_of, TrueState, RoomIn}
use Rattle.game.specs.Laws.View.{turn-player}
use Rattle.points.proofs.Reasons.{nonzero}
use Rattle.checking.specs.Told.{Told, known, undecided}
use Rattle.checking.specs.Asking.{ToldAt}
use Rattle.checking.specs.Laws.Told.{known-settles, passed-settles}
use Rattle.checking.specs.Laws.Asking.{told-laying}
use Rattle.playing.specs.declared.stone.Turn.{Turn}
use Rattle.playing.specs.Promise.{CalledTrue}
use Rattle.playing.specs.Turn.{first_answer, last_answer, Allowed, Granted, Tested, Ready, Finished, Shown}
use Rattle.playing.specs.After.{Moving, Moved, stoned}
use Rattle.playing.specs.Laws.Promise.{true-refused, true-accepted}
use Rattle.playing.specs.Laws.Count.{turn-same, true-few, black-gone, white-gone}

-- ---- The order of the tests

module _ (g : rules.Game) (bytes : List ℕ) (r c : ℕ) where
  abbrev at_point : Answer
  at_point = point_answer g bytes g.flags r c

  abbrev limit : Answer
  limit = refuse MoveLimit (leb max_stones g.accepted)

  abbrev no_room : Answer
  no_room = refuse HistoryFull (full bytes g.records g.colours)

  stone-paused : g.passes ≡ 2 → stone_answer g bytes r c ≡ GamePaused
  unfolding stone_answer paused accepts number
  stone-paused e = test-refuses GamePaused (at_point then limit then no_room) refl (eq-eqb g.passes 2 e)

  module _ (open' : g.passes ≢ 2) where
    unpaused : stone_answer g bytes r c ≡ (at_point then limit then no_room)
    unfolding stone_answer paused
    unpaused = test-passes GamePaused (at_point then limit then no_room) (ne_eqb g.passes 2 open')

    stone-point : accepts at_point ≡ false → stone_answer g bytes r c ≡ at_point
    stone-point bad = unpaused ∙ then-refused at_point (limit then no_room) bad

    module _ (ok : accepts at_point ≡ true) where
      stone-limit : max_stones ≤ g.accepted → stone_answer g bytes r c ≡ MoveLimit
      unfolding accepts number
      stone-limit most =
          unpaused ∙ then-accepted at_point (limit then no_room) ok ∙ test-refuses MoveLimit no_room refl (le-leb max_stones g.accepted most)

      stone-last : g.accepted < max_stones → stone_answer g bytes r c ≡ no_room
      stone-last more =
          unpaused ∙ then-accepted at_point (limit then no_room) ok ∙ test-passes MoveLimit no_room (lt-leb max_stones g.accepted more)

-- the answer counts by its number alone
then_same : (a a' b : Answer) → number a ≡ number a' → number (a then b) ≡ number (a' then b)
then_same a a' b e =
    ⊎_elim
    (λ z. ap number (then-accepted a b (accepts-zero a z)) ∙ sym (ap number (then-accepted a' b (accepts-zero a' (sym e ∙ z)))))
    (λ n. ap number (then-refused a b (refuses-other a n)) ∙ e ∙ sym (ap number (then-refused a' b (refuses-other a' (λ z. n (e ∙ z))))))
    (equal_or_not (number a) 0)

none-refuses : (a b c : Bool) → number (refuse SuperKo a then refuse MoveLimit b then refuse HistoryFull c) ≡ 0 → (a ≡ false) × (b ≡ false) × (c ≡ false)
unfolding refuse ◌then◌ accepts number
none-refuses true b c z = let e : ◌≡◌ {A = ℕ} 8 0 = z in absurd (omega (arith, e))
none-refuses false true c z = let e : ◌≡◌ {A = ℕ} 10 0 = z in absurd (omega (arith, e))
none-refuses false false true z = let e : ◌≡◌ {A = ℕ} 11 0 = z in absurd (omega (arith, e))
none-refuses false false false z = (refl, refl, refl)

-- where the last tests let a stone pass, there is room for the record
pub last-free : (again : Bool) (n : ℕ) (f : Bool) → number (last_answer again n f) ≡ 0 → f ≡ false
unfolding last_answer
last-free again n f z = (none-refuses again (eqb n max_stones) f z).2

-- with fewer than two passes the point decides
pub open-first : (passes k : ℕ) → passes ≢ 2 → first_answer passes k ≡ k
unfolding first_answer
open-first passes k n = ap (λ (b : Bool). cond b (number GamePaused) k) (ne_eqb passes 2 n)

pub paused-first : (passes k : ℕ) → passes ≡ 2 → number GamePaused ≡ first_answer passes k
unfolding first_answer
paused-first passes k e = sym (ap (λ (b : Bool). cond b (number GamePaused) k) (eq-eqb passes 2 e))

-- ---- What is known without the records

module _ (g : Game) (bytes : List ℕ) (r c : ℕ) (is : TrueState g) (room : RoomIn g (length bytes)) where
  abbrev side : ℕ
  side = turn_of g.turn

  abbrev spot : ℕ
  spot = index g.board.width r c

  abbrev again? : Bool
  again? = recorded bytes g.records (resulting (view_of g) spot)

  refused-by : {answer : ℕ} → answer ≡ number (stone_answer (view_of g) bytes r c) → answer ≢ 0 → CalledTrue (stone (view_of g) bytes r c) g bytes answer g bytes
  unfolding stone
  refused-by {answer} told n =
      let its = stone_answer (view_of g) bytes r c in
      true-refused g bytes is room its _ _ (other-refuses its answer told n) told

  -- the record of the board that is laid is the one that the rules look for
  pub left-found :
      (laid : Laid) {p mover : ℕ} → p ≡ spot → mover ≡ side → LaidOut g.board p mover g.flags laid → {left : List ℕ}
      → left ≡ record_of (colours_of laid.board) → among bytes g.records left ≡ again?
  unfolding view_of resulting
  left-found laid here' mine out its =
      ap (among bytes g.records) its
      ∙ among-recorded bytes g.records (colours_of laid.board)
      ∙ ap (recorded bytes g.records)
      (out.colours ∙ (λ i. played g.board.height g.board.width g.flags (colours_of g.board) (mine i) (here' i)))

  module _ (t : Told) (told : ToldAt g g.flags r c t) (first : ℕ) (its : first ≡ first_answer g.passes (known t)) where
    pub first-refuses : first ≢ 0 → CalledTrue (stone (view_of g) bytes r c) g bytes first g bytes
    unfolding view_of first_answer
    first-refuses n =
        refused-by
        (⊎_elim
        (λ e. its ∙ ap (λ (b : Bool). cond b (number GamePaused) (known t)) (eq-eqb g.passes 2 e) ∙ ap number (sym (stone-paused (view_of g) bytes r c e)))
        (λ open'.
        let known' : first ≡ known t = its ∙ ap (λ (b : Bool). cond b (number GamePaused) (known t)) (ne_eqb g.passes 2 open') in
        let said : first ≡ number (point_answer (view_of g) bytes g.flags r c) =
        known' ∙ sym (known-settles t (λ z. n (known' ∙ z)) again?) ∙ told.settles bytes in
        said ∙ ap number (sym (stone-point (view_of g) bytes r c open' (other-refuses (point_answer (view_of g) bytes g.flags r c) first said n))))
        (equal_or_not g.passes 2))
        n

    module _ (zero' : first ≡ 0) where
      first-open : g.passes ≢ 2
      unfolding first_answer number
      first-open e =
          let four : first ≡ 4 = its ∙ ap (λ (b : Bool). cond b (number GamePaused) (known t)) (eq-eqb g.passes 2 e) in
          omega (arith, four, zero')

      first-known : known t ≡ 0
      unfolding first_answer
      first-known = sym (its ∙ ap (λ (b : Bool). cond b (number GamePaused) (known t)) (ne_eqb g.passes 2 first-open)) ∙ zero'

      pub laying : {p mover : ℕ} → p ≡ spot → mover ≡ side → Laying g.board p mover g.flags
      laying {p} {mover} here' mine =
          subst (λ (q : ℕ). Laying g.board q mover g.flags) (sym here')
          (subst (λ (m : ℕ). Laying g.board spot m g.flags) (sym mine) (told-laying g bytes r c is room t told first-known))

      -- ---- What is known by the records and the count

      module _ (again : Bool) (looked : undecided t ≡ true → again ≡ again?) (skipped : undecided t ≡ false → again ≡ false)
          (no_room : Bool) (full' : full bytes g.records (colours_of g.board) ≡ no_room)
          (last : ℕ) (says : last ≡ number (last_answer again g.accepted no_room)) where
        at-point : number (point_answer (view_of g) bytes g.flags r c) ≡ number (refuse SuperKo again)
        at-point = sym (told.settles bytes) ∙ passed-settles t again again? first-known looked skipped

        at-limit : leb max_stones g.accepted ≡ eqb g.accepted max_stones
        unfolding view_of
        at-limit =
            let most : g.accepted ≤ max_stones = is.game.limited in
            ⊎_elim (λ e. le-leb max_stones g.accepted (omega arith) ∙ sym (eq-eqb g.accepted max_stones e))
            (λ n. lt-leb max_stones g.accepted (omega arith) ∙ sym (ne_eqb g.accepted max_stones n))
            (equal_or_not g.accepted max_stones)

        last-said : last ≡ number (stone_answer (view_of g) bytes r c)
        unfolding view_of last_answer
        last-said =
            says
            ∙ (λ i. number (refuse SuperKo again then refuse MoveLimit (sym at-limit i) then refuse HistoryFull (sym full' i)))
            ∙ sym (then_same (point_answer (view_of g) bytes g.flags r c) (refuse SuperKo again) _ at-point)
            ∙ ap number (sym (unpaused (view_of g) bytes r c first-open))

        pub last-refuses : last ≢ 0 → CalledTrue (stone (view_of g) bytes r c) g bytes last g bytes
        last-refuses n = refused-by last-said n

        pub last-allows : last ≡ 0 → Allowed g bytes r c
        unfolding view_of last_answer refuse number
        last-allows z =
            let (no-again, fewer, roomy) = none-refuses again (eqb g.accepted max_stones) no_room (sym says ∙ z) in
            record {
              unpaused = first-open;
              point = accepts-zero (point_answer (view_of g) bytes g.flags r c) (at-point ∙ ap (λ (b : Bool). number (refuse SuperKo b)) no-again);
              more = let most : g.accepted ≤ max_stones = is.game.limited in let apart = eqb-false g.accepted max_stones fewer in omega (arith, most, apart);
              free = full' ∙ roomy;
            }

-- ---- By what is seen of the board

pub shown-ready : (b : Board) (s : Sight) (cs : List ℕ) (k : Clock) (n r c : ℕ) → Shown b s cs k n r c → Ready s cs k n
unfolding game_of RoomIn
shown-ready b s cs k n r c is =
    record {
      packing = sees-packing b is.state.board r c cs s is.sees;
      colours = colours_of b;
      its = sees-record b is.state.board r c cs s is.sees;
      room = is.room;
    }

-- what the last tests say is what a stone promises
module _ (b : Board) (s : Sight) (cs : List ℕ) (k : Clock) (bytes : List ℕ) (r c : ℕ) (is : Shown b s cs k (length bytes) r c)
    (t : Told) (told : ToldAt (game_of b k) k.flags r c t) (passes' : first_answer k.passes (known t) ≡ 0)
    (again : Bool) (looked : undecided t ≡ true → again ≡ recorded bytes k.records (resulting (view_of (game_of b k)) (index b.width r c)))
    (skipped : undecided t ≡ false → again ≡ false) where
  pub finished-tested :
      (got : Result Turn Refusal) (bytes' : List ℕ) → Finished s k (colours_of b) bytes again got bytes' → Tested (game_of b k) bytes r c got bytes'
  unfolding game_of number
  finished-tested (Err e) bytes' (says, lent) =
      let g = game_of b k in
      subst (λ (after : List ℕ). CalledTrue (stone (view_of g) bytes r c) g bytes (number (reason e)) g after) (sym lent)
      (last-refuses g bytes r c is.state is.room t told _ refl passes' again looked skipped _ refl _ (ap number says) (nonzero e))
  finished-tested (Ok turn) bytes' done =
      let g = game_of b k in
      let here = done.point ∙ is.sees.point in
      record {
        allowed = last-allows g bytes r c is.state is.room t told _ refl passes' again looked skipped _ refl 0 (ap number done.answered) refl;
        point = here;
        mover = done.mover;
        laying = laying g bytes r c is.state is.room t told _ refl passes' here done.mover;
        noted = done.noted;
      }

-- ---- A stone that a true state accepts

-- a ko point on the board is a number of its own
place-within : (n : ℕ) (place : Option ℕ) → ((k : ℕ) → place ≡ Some k → k < n) → Within n place
place-within n None low = tt
place-within n (Some p) low = low p refl

module _ (g : Game) (bytes : List ℕ) (r c : ℕ) (is : TrueState g) (turn : Turn) (bytes' : List ℕ) (ok : Granted g bytes r c turn bytes') where
  abbrev own : ℕ
  own = turn_of g.turn

  abbrev point : ℕ
  point = index g.board.width r c

  accepted : stone_answer (view_of g) bytes r c ≡ Accepted
  unfolding view_of
  accepted =
      let all = ok.allowed in
      stone-last (view_of g) bytes r c all.unpaused all.point all.more ∙ passes HistoryFull all.free

  kept : rules.TrueGame (stone_game (view_of g) bytes point)
  unfolding view_of accepts number
  kept = stone-keeps (view_of g) bytes r c is.game (ap accepts accepted)

  module _ (laid : Laid) (laid_out : LaidOut g.board turn.point turn.mover g.flags laid) where
    out : LaidOut g.board point own g.flags laid
    out =
        subst (λ (q : ℕ). LaidOut g.board q own g.flags laid) ok.point
        (subst (λ (m : ℕ). LaidOut g.board turn.point m g.flags laid) ok.mover laid_out)

    -- how many stones of a colour are removed
    abbrev gone : ℕ → ℕ
    gone k = length (removed g.board.height g.board.width k (coloured (colours_of g.board) own point) (resulting (view_of g) point))

    ko-within : Within no_point laid.ko
    unfolding view_of stone_game resulting
    ko-within =
        place-within no_point laid.ko
        (λ k e. omega (arith, kept.ko_on k (sym out.ko ∙ e), area-fits is.board.table.size))

    -- the numbers can be changed
    pub stone-moving : Moving (clock_of g) laid.ko
    unfolding clock_of
    stone-moving = let few = true-few g is in record { held = few.0; put = few.1; more = ok.allowed.more; within = ko-within }

    module _ (now : Clock) (moved : Moved (clock_of g) turn.records laid.taken laid.lost laid.ko now) where
      abbrev after : Clock
      after = stoned (clock_of g) (other own) now.ko now.held now.put turn.records

      shown : view_of (game_of laid.board after) ≡ stone_game (view_of g) bytes point
      unfolding view_of clock_of game_of stoned stone_game resulting begun_of
      shown =
          let player = turn-player g.turn in
          λ i.
          record {
            height = out.tall i;
            width = out.wide i;
            flags = g.flags;
            colours = out.colours i;
            turn = turn-same (other own) (other-player own player) i;
            passes = 0;
            white_held = (moved.held.whites ∙ ap (λ (n : ℕ). g.held.white + n) (white-gone own laid.taken laid.lost gone out.taken out.lost player)) i;
            black_held = (moved.held.blacks ∙ ap (λ (n : ℕ). g.held.black + n) (black-gone own laid.taken laid.lost gone out.taken out.lost player)) i;
            ko_point = (moved.ko ∙ out.ko) i;
            outcome = outcome_of g.outcome;
            handicap = g.handicap;
            accepted = g.accepted + 1;
            black_put = moved.put.blacks i;
            white_put = moved.put.whites i;
            records = ok.noted.counted i;
            begun = true;
          }

      stoned-called : RoomIn g (length bytes) → CalledTrue (stone (view_of g) bytes r c) g bytes 0 (game_of laid.board after) bytes'
      unfolding view_of stone clock_of game_of stoned accepts number RoomIn capacity
      stoned-called room =
          let free = ok.allowed.free in
          let long = bytes_after-length bytes g.records (colours_of g.board) free in
          let fits = records_after-fits bytes g.records (colours_of g.board) free room in
          true-accepted g bytes is room (stone_answer (view_of g) bytes r c) (stone_game (view_of g) bytes point)
          (bytes_after bytes g.records (colours_of g.board)) (ap accepts accepted) shown ok.noted.written
          (record { board = out.board; game = subst rules.TrueGame (sym shown) kept })
          long
          (rw (ok.noted.counted, ← long) fits)

      -- the board that is laid and the numbers are the game after the stone
      pub stone-called : RoomIn g (length bytes) → CalledTrue (stone (view_of g) bytes r c) g bytes 0 (game_of laid.board now) bytes'
      unfolding clock_of
      stone-called room =
          subst (λ (k : Clock). CalledTrue (stone (view_of g) bytes r c) g bytes 0 (game_of laid.board k) bytes') (sym moved.clock) (stoned-called room)
