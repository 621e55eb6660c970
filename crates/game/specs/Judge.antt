-- What the judge of a state asks beside the board: numbers in range, sums that hold, and an untouched game where the mark is not set.
use Rattle.std.specs.Prelude.{◌≡◌, Bool, true, ℕ, ◌+◌, ◌≤◌, ◌<◌, None, Some}
use Rattle.rules.specs.Sizes.{max_area, max_flags}
use Rattle.board.specs.declared.judge.Stones.{Stones}
use Rattle.game.specs.declared.state.Tally.{Tally}
use Rattle.game.specs.View.{ko_of, outcome_of}

-- the answer is yes exactly if P holds
pub record Decides (r : Bool) (P : Type 0) : Type 0 where
  pub sound : r ≡ true → P
  pub complete : P → r ≡ true

pub record InRange (end flags passes ko handicap : ℕ) : Type 0 where
  pub flagged : flags ≤ max_flags
  pub pauses : passes ≤ 2
  pub handicapped : handicap ≤ max_area
  pub ko_on : (k : ℕ) → ko_of ko ≡ Some k → k < end

-- stones put are those on the board and those held, and handicap with accepted stones
pub record Summed (on : Stones) (held put : Tally) (handicap accepted : ℕ) : Type 0 where
  pub black_kept : put.black ≡ on.black + held.black
  pub white_kept : put.white ≡ on.white + held.white
  pub both_put : put.black + put.white ≡ handicap + accepted

-- nothing was put or recorded, no pass or outcome stands. That the board is empty follows, where the sums hold
pub record Untouched (put : Tally) (records passes outcome : ℕ) : Type 0 where
  pub unput : put.black + put.white ≡ 0
  pub unrecorded : records ≡ 0
  pub unpassed : passes ≡ 0
  pub undecided : outcome_of outcome ≡ None
