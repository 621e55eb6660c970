-- Laws of After's numbers: what a stone removed of each colour is what it took or lost, one stone more was put, and no number can grow
-- out of its type.
use Rattle.std.specs.Prelude.{◌≡◌, Bool, true, false, not, ◌&&◌, List, ◌≢◌, ℕ, ◌+◌, leb}
use Rattle.std.proofs.Math.Path.{refl, ap}
use Rattle.std.proofs.Common.{◌∙◌, inl, inr}
use native.Mathlib.Omega.{arith}
use Rattle.rules.specs.Colours.{black, white, other}
use Rattle.rules.specs.Game.{Player}
use Rattle.rules.specs.Calls.{one_if}
use Rattle.rules.specs.Records.{record_of, capacity, full}
use Rattle.history.specs.History.{among}
use Rattle.history.proofs.Laws.History.{among-recorded}
use Rattle.game.specs.View.{turn_of, view_of, TrueState}
use Rattle.game.specs.declared.state.Game.{Game}
use Rattle.game.specs.declared.state.Tally.{Tally}
use Rattle.playing.specs.After.{Few, black_gone, white_gone, PutAfter}

-- a player's number names that player
pub turn-same : (x : ℕ) → Player x → turn_of x ≡ x
unfolding turn_of Player
turn-same x (inl e) = rw e
turn-same x (inr e) = rw e

-- neither number of a true game's stones can grow out of its type
pub true-few : (g : Game) → TrueState g → Few g.held × Few g.put
unfolding view_of
true-few g is =
    let game = is.game in (
      record { blacks = omega (arith, game.black_kept, game.both_put, game.handicapped, game.limited); whites = omega (arith, game.white_kept, game.both_put, game.handicapped, game.limited) },
      record { blacks = omega (arith, game.both_put, game.handicapped, game.limited); whites = omega (arith, game.both_put, game.handicapped, game.limited) },
    )

-- ---- What is removed of each colour, where n counts it

module _ (own taken lost : ℕ) (n : ℕ → ℕ) (takes : taken ≡ n (other own)) (loses : lost ≡ n own) where
  pub black-gone : Player own → black_gone own taken lost ≡ n black
  unfolding black_gone other Player
  black-gone (inl e) = rw e (loses ∙ ap n e)
  black-gone (inr e) = rw e (takes ∙ rw e)

  pub white-gone : Player own → white_gone own taken lost ≡ n white
  unfolding white_gone other Player
  white-gone (inl e) = rw e (takes ∙ rw e)
  white-gone (inr e) = rw e (loses ∙ ap n e)

-- ---- One stone more, of the mover's colour

module _ (put : Tally) (mover : ℕ) where
  pub put-black : mover ≡ black → PutAfter put mover (record { black = put.black + 1; white = put.white })
  unfolding one_if
  put-black e = rw e (record { blacks = refl; whites = omega arith })

  pub put-white : Player mover → mover ≢ black → PutAfter put mover (record { black = put.black; white = put.white + 1 })
  unfolding one_if Player
  put-white (inl e) n = absurd (n e)
  put-white (inr e) n = rw e (record { blacks = omega arith; whites = refl })

-- ---- The test for room, by the board's record

pub full_by :
    (bytes : List ℕ) (n : ℕ) (r cols : List ℕ) → r ≡ record_of cols → not (among bytes n r) && leb (capacity bytes) n ≡ full bytes n cols
unfolding full
full_by bytes n r cols its =
    ap (λ (t : Bool). not t && leb (capacity bytes) n) (ap (among bytes n) its ∙ among-recorded bytes n cols)

pub and_no : (t : Bool) {u : Bool} → u ≡ false → t && u ≡ false
and_no true e = e
and_no false e = refl
