-- Text that is put into a lent buffer from a place on.
use Rattle.std.specs.Prelude.{◌≡◌, List, ◌++◌, ℕ, ◌+◌, ◌≤◌, length, take, drop}

-- the text stands behind what was there before it, and the rest is as it was
pub record Put (text before : List ℕ) (from next : ℕ) (after : List ℕ) : Type 0 where
  pub counted : next ≡ from + length text
  pub within : next ≤ length before
  pub long : length after ≡ length before
  pub front : take next after ≡ take from before ++ text
  pub rest : drop next after ≡ drop next before
