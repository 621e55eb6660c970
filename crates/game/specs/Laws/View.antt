-- Laws of a state's view: a fresh state shows a fresh game and is true, every byte names a player, when a history has room, and a game is its board and its numbers.
use Rattle.std.specs.Prelude.{◌≡◌, refl, true, false, List, ◌≢◌, ℕ, ◌≤◌, eqb, length, None, Some}
use Rattle.std.proofs.Common.{ap, ◌∙◌, inl, inr, ⊎_elim, arith, eq-eqb, ne_eqb}
use Rattle.std.proofs.lemmas.Option.{none-some}
use Rattle.rules.specs.Sizes.{max_flags}
use Rattle.rules.specs.Points.{area}
use Rattle.rules.specs.Colours.{empty, black, white}
use Rattle.rules.specs.Records.{capacity}
use Rattle.rules.specs.Game as rules
use Rattle.rules.proofs.Laws.Lists.{decided}
use Rattle.rules.proofs.Laws.Stones.{stones-none}
use Rattle.board.specs.Board.{colours_of, new_board}
use Rattle.board.specs.Laws.Chains.{true-colours}
use Rattle.board.specs.declared.goban.Board.{Board}
use Rattle.game.specs.declared.state.Game.{Game}
use Rattle.game.specs.declared.clock.Clock.{Clock}
use Rattle.game.specs.Clock.{clock_of, game_of}
use Rattle.game.specs.View.{no_point, turn_of, outcome_of, ko_of, begun_of, view_of, TrueState, RoomIn, fresh_state}
use Rattle.board.specs.Laws.NewBoard.{new-colours, new_true}

pub turn-player : (x : ℕ) → rules.Player (turn_of x)
unfolding turn_of rules.Player
turn-player x = ⊎_elim (λ (y : eqb x white ≡ true). rw y (inr refl)) (λ (n : eqb x white ≡ false). rw n (inl refl)) (decided (eqb x white))

-- ---- The bytes and what they mean

pub ko-none : (x : ℕ) → x ≡ no_point → ko_of x ≡ None
unfolding ko_of
ko-none x e = rw (eq-eqb x no_point e)

pub ko-some : (x : ℕ) → x ≢ no_point → ko_of x ≡ Some x
unfolding ko_of
ko-some x n = rw (ne_eqb x no_point n)

pub outcome-black : (x : ℕ) → x ≡ black → outcome_of x ≡ Some black
unfolding outcome_of
outcome-black x e = rw (eq-eqb x black e)

pub outcome-white : (x : ℕ) → x ≡ white → outcome_of x ≡ Some white
unfolding outcome_of
outcome-white x e = rw (ne_eqb x black (λ b. omega arith), eq-eqb x white e)

pub outcome-none : (x : ℕ) → x ≢ black → x ≢ white → outcome_of x ≡ None
unfolding outcome_of
outcome-none x n m = rw (ne_eqb x black n, ne_eqb x white m)

-- the outcome that names the player whom a byte names
pub outcome-turn : (x : ℕ) → outcome_of (turn_of x) ≡ Some (turn_of x)
unfolding turn_of outcome_of
outcome-turn x = ⊎_elim (λ (y : eqb x white ≡ true). rw y) (λ (n : eqb x white ≡ false). rw n) (decided (eqb x white))

-- room for the records is what the rules ask of a true history
pub room-history : (g : Game) (bytes : List ℕ) → RoomIn g (length bytes) ≡ rules.TrueHistory (view_of g) bytes
unfolding RoomIn view_of rules.TrueHistory capacity
room-history g bytes = refl

-- ---- Its board and its numbers

pub game-whole : (g : Game) (b : Board) (c : Clock) → b ≡ g.board → c ≡ clock_of g → game_of b c ≡ g
unfolding clock_of game_of
game-whole g b c board clock = λ i. game_of (board i) (clock i)

-- ---- A fresh state

pub fresh-view : (h w flags : ℕ) → view_of (fresh_state h w flags) ≡ rules.fresh_game h w flags
unfolding view_of fresh_state rules.fresh_game new_board turn_of ko_of outcome_of begun_of
fresh-view h w flags =
    λ i.
    record {
      height = h;
      width = w;
      flags = flags;
      colours = new-colours h w i;
      turn = black;
      passes = 0;
      white_held = 0;
      black_held = 0;
      ko_point = None;
      outcome = None;
      handicap = 0;
      accepted = 0;
      black_put = 0;
      white_put = 0;
      records = 0;
      begun = false;
    }

pub fresh-true : (h w flags : ℕ) → rules.TrueSize h w → flags ≤ max_flags → TrueState (fresh_state h w flags)
unfolding view_of fresh_state new_board turn_of ko_of outcome_of begun_of rules.Player rules.empty_board
fresh-true h w flags size flagged =
    let board = new_true h w size in
    let none_of : (c : ℕ) → (c ≡ empty → ⊥) → rules.stones (colours_of (new_board h w)) c ≡ 0 =
    λ c stone. ap (λ (cols : List ℕ). rules.stones cols c) (new-colours h w) ∙ stones-none (area h w) c stone in
    record {
      board = board;
      game =
          record {
            size = size;
            flagged = flagged;
            board = true-colours (new_board h w) board;
            mover = inl refl;
            pauses = omega arith;
            ko_on = λ k e. absurd (none-some k e);
            named = λ c e. absurd (none-some c e);
            limited = omega arith;
            handicapped = omega arith;
            black_kept = let z = none_of black (λ e. omega arith) in omega arith;
            white_kept = let z = none_of white (λ e. omega arith) in omega arith;
            both_put = refl;
            unbegun = λ e. record { bare = new-colours h w; unput = refl; unrecorded = refl; unpassed = refl; undecided = refl };
          };
    }
