-- Laws of one entry: its kind names its call, a call that needs no history leaves the bytes as they are, and a stone goes through its tests, the board and the numbers.
use Rattle.std.specs.Prelude.{◌≡◌, Bool, true, false, cond, List, [], ◌≢◌, ℕ, ◌≤◌, ◌/◌}
use Rattle.std.proofs.Math.Path.{refl, sym, ap, subst}
use Rattle.std.proofs.Common.{◌∙◌, arith}
use Rattle.std.proofs.Math.Logic.{⊎_elim}
use Rattle.std.proofs.Math.ListN.{length}
use borrow.Author.Tests.{eq-eqb, ne_eqb}
use Rattle.rules.specs.Sizes.{record_bytes}
use Rattle.rules.specs.Colours.{black, white}
use Rattle.rules.specs.Answers.{Answer, Accepted, BadKind, number, accepts}
use Rattle.rules.specs.Game as rules
use Rattle.rules.specs.Calls.{Result, result, stone, pause_answer, pass, pass_game, resign, resign_game, resume, resume_game, entry_call}
use Rattle.rules.proofs.Laws.Lists.{decided}
use Rattle.board.specs.declared.goban.Board.{Board}
use Rattle.board.specs.True.{TrueBoard}
use Rattle.laying.specs.declared.lay.Laid.{Laid}
use Rattle.laying.specs.Laying.{Laying, LaidOut}
use Rattle.game.specs.declared.state.Game.{Game}
use Rattle.game.specs.declared.clock.Clock.{Clock}
use Rattle.game.specs.Clock.{clock_of, game_of}
use Rattle.game.specs.View.{view_of, TrueState, RoomIn}
use Rattle.game.specs.Promise.{CalledAlone, Ticks}
use Rattle.playing.specs.declared.stone.Turn.{Turn}
use Rattle.playing.specs.Promise.{CalledTrue}
use Rattle.playing.specs.Turn.{Granted}
use Rattle.playing.specs.After.{Moving, Moved}
use Rattle.playing.specs.Laws.Stone.{stone-moving, stone-called}
use Rattle.replaying.specs.Replay.{entry, EntersAlone}

-- ---- The kind names the call

module _ (v : rules.Game) (bytes : List ℕ) (kind row column : ℕ) where
  abbrev called : Result
  called = entry_call v bytes (entry kind row column)

  entry-stone : kind ≡ 0 → called ≡ stone v bytes row column
  unfolding entry_call
  entry-stone e = rw (eq-eqb kind 0 e)

  entry-pass : kind ≡ 1 → called ≡ pass v bytes
  unfolding entry_call
  entry-pass e = rw (ne_eqb kind 0 (λ z. omega (arith, e, z)), eq-eqb kind 1 e)

  entry-black : kind ≡ 2 → called ≡ resign v bytes black
  unfolding entry_call
  entry-black e = rw (ne_eqb kind 0 (λ z. omega (arith, e, z)), ne_eqb kind 1 (λ z. omega (arith, e, z)), eq-eqb kind 2 e)

  entry-white : kind ≡ 3 → called ≡ resign v bytes white
  unfolding entry_call
  entry-white e =
      rw (ne_eqb kind 0 (λ z. omega (arith, e, z)), ne_eqb kind 1 (λ z. omega (arith, e, z)), ne_eqb kind 2 (λ z. omega (arith, e, z)), eq-eqb kind 3 e)

  entry-resume : kind ≡ 4 → called ≡ resume v bytes
  unfolding entry_call
  entry-resume e =
      rw (
        ne_eqb kind 0 (λ z. omega (arith, e, z)),
        ne_eqb kind 1 (λ z. omega (arith, e, z)),
        ne_eqb kind 2 (λ z. omega (arith, e, z)),
        ne_eqb kind 3 (λ z. omega (arith, e, z)),
        eq-eqb kind 4 e,
      )

  entry-unknown : kind ≢ 0 → kind ≢ 1 → kind ≢ 2 → kind ≢ 3 → kind ≢ 4 → called ≡ result BadKind v bytes v bytes
  unfolding entry_call
  entry-unknown n₀ n₁ n₂ n₃ n₄ = rw (ne_eqb kind 0 n₀, ne_eqb kind 1 n₁, ne_eqb kind 2 n₂, ne_eqb kind 3 n₃, ne_eqb kind 4 n₄)

-- accepted or not, the same
pub cond_same : {A : Type 0} (t : Bool) (x : A) → cond t x x ≡ x
cond_same true x = refl
cond_same false x = refl

-- ---- The promise of the call that the kind names

module _ (g : Game) (kind : ℕ) where
  module _ (bytes : List ℕ) (row column : ℕ) where
    abbrev Enters : ℕ → Game → List ℕ → Type 0
    Enters = CalledTrue (called (view_of g) bytes kind row column) g bytes

    -- the rules' entry is this call
    by_kind :
        {call : Result} → called (view_of g) bytes kind row column ≡ call →
        {answer : ℕ} {g' : Game} {bytes' : List ℕ} → CalledTrue call g bytes answer g' bytes' → Enters answer g' bytes'
    by_kind e {answer} {g'} {bytes'} = subst (λ (r : Result). CalledTrue r g bytes answer g' bytes') (sym e)

    pub enters-stone :
        {answer : ℕ} {g' : Game} {bytes' : List ℕ} → kind ≡ 0 → CalledTrue (stone (view_of g) bytes row column) g bytes answer g' bytes' → Enters answer g' bytes'
    enters-stone e = by_kind (entry-stone (view_of g) bytes kind row column e)

    module _ (is : TrueState g) (room : RoomIn g (length bytes)) (a : Answer) (new : rules.Game) (same : new.records ≡ g.records) where
      -- accepted or not, as many records
      records-same : (g' : Game) → view_of g' ≡ (result a (view_of g) [] new []).game → g'.records ≡ g.records
      unfolding result view_of
      records-same g' e =
          ap (λ (v : rules.Game). v.records) e
          ∙ ⊎_elim (λ (y : accepts a ≡ true). rw y same) (λ (n : accepts a ≡ false). rw n) (decided (accepts a))

      -- a call that needs no history, with any that has room
      enters-alone :
          called (view_of g) bytes kind row column ≡ result a (view_of g) bytes new bytes →
          {answer : ℕ} {g' : Game} → CalledAlone (result a (view_of g) [] new []) g answer g' → Enters answer g' bytes
      unfolding result RoomIn
      enters-alone e {g'} c =
          by_kind e (record {
            answered = c.answered is;
            shown = c.shown is;
            lent = sym (cond_same (accepts a) bytes);
            kept = c.kept is;
            long = refl;
            room = subst (λ (n : ℕ). n ≤ length bytes / record_bytes) (sym (records-same g' (c.shown is))) room;
            refused = λ n. (c.refused n, refl);
          })

-- ---- The same on the numbers alone

module _ (c : Clock) (kind : ℕ) where
  pub enters-pass : {answer : ℕ} {c' : Clock} → kind ≡ 1 → Ticks (λ g. pass (view_of g) []) c answer c' → EntersAlone c kind answer c'
  unfolding pass pass_game view_of
  enters-pass e ticks =
      record {
        entered = λ b bytes row column is room.
            let g = game_of b c in
            enters-alone g kind bytes row column is room (pause_answer (view_of g)) (pass_game (view_of g)) refl (entry-pass (view_of g) bytes kind row column e) (ticks.ticked b is);
      }

  pub enters-black : {answer : ℕ} {c' : Clock} → kind ≡ 2 → Ticks (λ g. resign (view_of g) [] black) c answer c' → EntersAlone c kind answer c'
  unfolding resign resign_game view_of
  enters-black e ticks =
      record {
        entered = λ b bytes row column is room.
            let g = game_of b c in
            enters-alone g kind bytes row column is room (pause_answer (view_of g)) (resign_game (view_of g) black) refl (entry-black (view_of g) bytes kind row column e) (ticks.ticked b is);
      }

  pub enters-white : {answer : ℕ} {c' : Clock} → kind ≡ 3 → Ticks (λ g. resign (view_of g) [] white) c answer c' → EntersAlone c kind answer c'
  unfolding resign resign_game view_of
  enters-white e ticks =
      record {
        entered = λ b bytes row column is room.
            let g = game_of b c in
            enters-alone g kind bytes row column is room (pause_answer (view_of g)) (resign_game (view_of g) white) refl (entry-white (view_of g) bytes kind row column e) (ticks.ticked b is);
      }

  pub enters-resume : {answer : ℕ} {c' : Clock} → kind ≡ 4 → Ticks (λ g. resume (view_of g) []) c answer c' → EntersAlone c kind answer c'
  unfolding resume resume_game view_of
  enters-resume e ticks =
      record {
        entered = λ b bytes row column is room.
            let g = game_of b c in
            enters-alone g kind bytes row column is room Accepted (resume_game (view_of g)) refl (entry-resume (view_of g) bytes kind row column e) (ticks.ticked b is);
      }

  pub enters-unknown : kind ≢ 0 → kind ≢ 1 → kind ≢ 2 → kind ≢ 3 → kind ≢ 4 → EntersAlone c kind (number BadKind) c
  unfolding result accepts number
  enters-unknown n₀ n₁ n₂ n₃ n₄ =
      record {
        entered = λ b bytes row column is room.
            let g = game_of b c in
            by_kind g kind bytes row column (entry-unknown (view_of g) bytes kind row column n₀ n₁ n₂ n₃ n₄)
            (record { answered = refl; shown = refl; lent = refl; kept = is; long = refl; room = room; refused = λ n. (refl, refl) });
      }

-- ---- A stone on a board and numbers that are held apart

pub board-true : (b : Board) (k : Clock) → TrueState (game_of b k) → TrueBoard b
unfolding game_of
board-true b k is = is.board

module _ (b : Board) (k : Clock) (kind : ℕ) (its : kind ≡ 0) (bytes : List ℕ) (row column : ℕ) (bytes' : List ℕ) where
  pub stone-refused : {answer : ℕ} → CalledTrue (stone (view_of (game_of b k)) bytes row column) (game_of b k) bytes answer (game_of b k) bytes'
      → Enters (game_of b k) kind bytes row column answer (game_of b k) bytes'
  stone-refused = enters-stone (game_of b k) kind bytes row column its

  module _ (t : Turn) (granted : Granted (game_of b k) bytes row column t bytes') where
    pub stone-laying : Laying b t.point t.mover k.flags
    unfolding game_of
    stone-laying = granted.laying

    module _ (is : TrueState (game_of b k)) (laid : Laid) (out : LaidOut b t.point t.mover k.flags laid) where
      pub laid-moving : Moving k laid.ko
      unfolding clock_of game_of
      laid-moving = stone-moving (game_of b k) bytes row column is t bytes' granted laid out

      pub stone-entered :
          RoomIn (game_of b k) (length bytes) → (now : Clock) → Moved k t.records laid.taken laid.lost laid.ko now
          → Enters (game_of b k) kind bytes row column 0 (game_of laid.board now) bytes'
      unfolding clock_of game_of
      stone-entered room now moved =
          enters-stone (game_of b k) kind bytes row column its
          (stone-called (game_of b k) bytes row column is t bytes' granted laid out now moved room)
