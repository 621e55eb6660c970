-- Laws of After: on every board the numbers that a pass, a resignation and a resume leave show what the rules say, and so the call keeps its promise.
use Rattle.std.specs.Prelude.{◌≡◌, true, false, [], ℕ, ◌+◌, ◌≤◌, ◌<◌, eqb, None}
use Rattle.std.proofs.Math.Path.{refl, subst}
use Rattle.std.proofs.Common.{sym, ap, ◌∙◌, ⊎_elim, arith, eq-eqb, ne_eqb}
use Rattle.std.specs.declared.result.Result as std
use Rattle.std.specs.declared.result.Result.TheVariants.{Ok, Err}
use Rattle.std.specs.Result.{MatchResult}
use Rattle.rules.specs.Colours.{white, other}
use Rattle.rules.specs.Answers.{Accepted, Damaged, GamePaused, number, accepts, refuse}
use Rattle.rules.specs.Game as rules
use Rattle.rules.specs.Calls.{Result, result, paused, pause_answer, pass_game, pass, resign_game, resign, resume_game, resume}
use Rattle.rules.proofs.Laws.Lists.{decided}
use Rattle.rules.proofs.Laws.Keep.{pass-true, resign-true, resume-true}
use Rattle.points.specs.declared.answers.Refusal.{Refusal}
use Rattle.points.specs.Reason.{reason}
use Rattle.board.specs.Board.{colours_of}
use Rattle.board.specs.declared.goban.Board.{Board}
use Rattle.game.specs.declared.state.Game.{Game}
use Rattle.game.specs.declared.clock.Clock.{Clock}
use Rattle.game.specs.Clock.{clock_of, game_of}
use Rattle.game.specs.View.{turn_of, outcome_of, ko_of, begun_of, view_of, TrueState}
use Rattle.game.specs.Promise.{CalledAlone, Ticks}
use Rattle.game.specs.After.{passed, resigned, resumed}
use Rattle.game.specs.Ticked.{number_of, after, Vouched}
use Rattle.game.specs.Laws.View.{turn-player, outcome-turn, game-whole}
use Rattle.game.specs.Laws.Promise.{alone-damaged, alone-refused, alone-accepted}

-- the opponent of a player is a player
turn-other : (x : ℕ) → turn_of (other (turn_of x)) ≡ other (turn_of x)
unfolding turn_of other
turn-other x = ⊎_elim (λ (y : eqb x white ≡ true). rw y) (λ (n : eqb x white ≡ false). rw n) (decided (eqb x white))

module _ (c : Clock) where
  -- ---- What it shows

  module _ (b : Board) where
    pass-shown : (turn : ℕ) → turn ≡ other (turn_of c.turn) → view_of (game_of b (passed c turn)) ≡ pass_game (view_of (game_of b c))
    unfolding view_of game_of passed pass_game ko_of begun_of
    pass-shown turn e =
        λ i.
        record {
          height = b.height;
          width = b.width;
          flags = c.flags;
          colours = colours_of b;
          turn = (ap turn_of e ∙ turn-other c.turn) i;
          passes = c.passes + 1;
          white_held = c.held.white;
          black_held = c.held.black;
          ko_point = None;
          outcome = outcome_of c.outcome;
          handicap = c.handicap;
          accepted = c.accepted;
          black_put = c.put.black;
          white_put = c.put.white;
          records = c.records;
          begun = true;
        }

    resign-shown : (byte player : ℕ) → player ≡ turn_of byte → view_of (game_of b (resigned c player)) ≡ resign_game (view_of (game_of b c)) (turn_of byte)
    unfolding view_of game_of resigned resign_game begun_of
    resign-shown byte player e =
        λ i.
        record {
          height = b.height;
          width = b.width;
          flags = c.flags;
          colours = colours_of b;
          turn = turn_of c.turn;
          passes = c.passes;
          white_held = c.held.white;
          black_held = c.held.black;
          ko_point = ko_of c.ko;
          outcome = (ap outcome_of e ∙ outcome-turn byte) i;
          handicap = c.handicap;
          accepted = c.accepted;
          black_put = c.put.black;
          white_put = c.put.white;
          records = c.records;
          begun = true;
        }

    resume-shown : view_of (game_of b (resumed c)) ≡ resume_game (view_of (game_of b c))
    unfolding view_of game_of resumed resume_game
    resume-shown = refl

    -- true numbers on the same board are a true state
    still : (c' : Clock) (v : rules.Game) → TrueState (game_of b c) → view_of (game_of b c') ≡ v → rules.TrueGame v → TrueState (game_of b c')
    unfolding game_of
    still c' v is shown kept = record { board = is.board; game = subst rules.TrueGame (sym shown) kept }

  -- ---- Two passes stand, or fewer

  pub paused-refused :
      (new : Game → rules.Game) → 2 ≤ c.passes → Ticks (λ g. result (pause_answer (view_of g)) (view_of g) [] (new g) []) c (number GamePaused) c
  unfolding view_of game_of pause_answer paused refuse accepts number
  paused-refused new two =
      record {
        ticked = λ b is.
            let pauses : c.passes ≤ 2 = is.game.pauses in
            let a : pause_answer (view_of (game_of b c)) ≡ GamePaused = rw (eq-eqb c.passes 2 (omega (arith, two, pauses))) in
            alone-refused (game_of b c) is (pause_answer (view_of (game_of b c))) (new (game_of b c)) (ap accepts a) (ap number (sym a));
      }

  module _ (fewer : c.passes < 2) where
    open' : (b : Board) → accepts (pause_answer (view_of (game_of b c))) ≡ true
    unfolding view_of game_of pause_answer paused refuse accepts number
    open' b = rw (ne_eqb c.passes 2 (λ e. omega (arith, e, fewer)))

    -- ---- The promise

    pub pass-ticks : (turn : ℕ) → turn ≡ other (turn_of c.turn) → Ticks (λ g. pass (view_of g) []) c 0 (passed c turn)
    unfolding pass
    pass-ticks turn e =
        record {
          ticked = λ b is.
              let v = view_of (game_of b c) in
              alone-accepted (game_of b c) is (pause_answer v) (pass_game v) (open' b) (pass-shown b turn e)
              (still b (passed c turn) (pass_game v) is (pass-shown b turn e) (pass-true v is.game (open' b)));
        }

    pub resign-ticks : (byte player : ℕ) → player ≡ turn_of byte → Ticks (λ g. resign (view_of g) [] (turn_of byte)) c 0 (resigned c player)
    unfolding resign
    resign-ticks byte player e =
        record {
          ticked = λ b is.
              let v = view_of (game_of b c) in
              alone-accepted (game_of b c) is (pause_answer v) (resign_game v (turn_of byte)) (open' b) (resign-shown b byte player e)
              (still b (resigned c player) (resign_game v (turn_of byte)) is (resign-shown b byte player e) (resign-true v is.game (turn_of byte) (turn-player byte)));
        }

  pub resume-ticks : Ticks (λ g. resume (view_of g) []) c 0 (resumed c)
  unfolding resume accepts number
  resume-ticks =
      record {
        ticked = λ b is.
            let v = view_of (game_of b c) in
            alone-accepted (game_of b c) is Accepted (resume_game v) refl (resume-shown b) (still b (resumed c) (resume_game v) is (resume-shown b) (resume-true v is.game));
      }

-- ---- A call on the whole game, by its numbers

pub alone-ticked :
    (g : Game) (call : Game → Result) → TrueState g → {c c' : Clock} {answer : ℕ} → c ≡ clock_of g → Ticks call c answer c' →
    {g' : Game} → g' ≡ game_of g.board c' → CalledAlone (call g) g answer g'
unfolding clock_of game_of
alone-ticked g call is {c} {c'} {answer} its ticks made =
    subst (CalledAlone (call g) g answer) (sym made)
    ((subst (λ (k : Clock). Ticks call k answer c') its ticks).ticked g.board is)

-- such a call on any state: of a true one the numbers were told, and the game has what was made of them
pub alone-called :
    (g : Game) (call : Game → Result) (told ticked : std.Result Clock Refusal) → Vouched g told
    → MatchResult told (λ c. Ticks call c (number_of ticked) (after c ticked)) (λ r. ticked ≡ Err r)
    → {answer : ℕ} {g' : Game} → answer ≡ number_of ticked
    → ((c : Clock) → ticked ≡ Ok c → g' ≡ game_of g.board c) → ((r : Refusal) → ticked ≡ Err r → g' ≡ g)
    → CalledAlone (call g) g answer g'
alone-called g call (Err r) ticked (bad, why) same {answer} {g'} e given kept =
    let three : answer ≡ number Damaged = e ∙ ap number_of same ∙ ap (λ (s : Refusal). number (reason s)) why in
    subst (λ (x : Game). CalledAlone (call g) g answer x) (sym (kept r same))
    (subst (λ (n : ℕ). CalledAlone (call g) g n g) (sym three) (alone-damaged g (call g) bad))
alone-called g call (Ok c) (Ok c') (is, its) ticks {answer} {g'} e given kept =
    alone-ticked g call is its (subst (λ (n : ℕ). Ticks call c n c') (sym e) ticks) (given c' refl)
alone-called g call (Ok c) (Err r) (is, its) ticks {answer} {g'} e given kept =
    alone-ticked g call is its (subst (λ (n : ℕ). Ticks call c n c) (sym e) ticks) (kept r refl ∙ sym (game-whole g g.board c refl its))
