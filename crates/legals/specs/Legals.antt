-- What is told of each point of a board by what the board shows, and what filling a buffer asks.
use Rattle.std.specs.Prelude.{cond, List, ℕ, ◌≤◌, eqb}
use Rattle.rules.specs.Points.{area}
use Rattle.rules.specs.Colours.{empty, at}
use Rattle.rules.specs.Answers as answers
use Rattle.rules.specs.Answers.{number, ◌then◌}
use Rattle.rules.specs.Calls.{flags_answer}
use Rattle.looking.specs.Seen.{near_in}
use Rattle.listing.specs.Lists.{length_answer}
use Rattle.game.specs.declared.state.Game.{Game}
use Rattle.game.specs.View.{TrueState, RoomIn}
use Rattle.checking.specs.Told.{Told, Answer, told_near}

-- a stone stands there, or what the tests tell of what stands near
unfoldable pub told_at : ℕ → ℕ → List ℕ → List ℕ → List ℕ → ℕ → ℕ → ℕ → ℕ → ℕ → Told
told_at h w cs ls ss p own ko records flags =
    cond (eqb (at cs p) empty) (told_near flags (near_in h w cs ls ss p) cs h w own ko records p) (Answer answers.PointNotEmpty)

-- the flags, then the room; n is the length of the buffer
unfoldable pub refused : ℕ → ℕ → ℕ → ℕ → answers.Answer
refused h w flags n = flags_answer flags then length_answer h w n

-- a true state, with a history of n bytes and a buffer of m places
pub record Filling (g : Game) (n m : ℕ) : Type 0 where
  pub state : TrueState g
  pub room : RoomIn g n
  pub enough : area g.board.height g.board.width ≤ m
