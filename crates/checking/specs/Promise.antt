-- What a check and a list promise, of any state and all bytes. `is` is what makes the state, and the history where one is lent, true.
use Rattle.std.specs.Prelude.{List, ◌≡◌, ℕ}
use Rattle.rules.specs.Answers.{Answer, Damaged, number}
use Rattle.listing.specs.declared.list.Listed.{Listed}
use Rattle.listing.specs.Lists.{Left}

-- the answer's number: `said` is what the rules say of a true state
pub record Checked (is : Type 0) (said : Answer) (answer : ℕ) : Type 0 where
  pub damaged : ¬ is → answer ≡ number Damaged
  pub answered : is → answer ≡ number said

-- a list: the answer's number, how many places were filled, and the whole buffer
pub record Filled (is : Type 0) (answer : Answer) (places before : List ℕ) (r : Listed) (after : List ℕ) : Type 0 where
  pub damaged : ¬ is → Left Damaged places before r after
  pub told : is → Left answer places before r after
