-- What a question promises, of any state and all bytes. `is` is what makes the state, and the history where one is lent, true.
use Rattle.std.specs.Prelude.{Bool, true, false, ◌≡◌}
use Rattle.rules.specs.Answers.{Accepted, Damaged, OffBoard, number}
use Rattle.queries.specs.declared.goban.TestAnswer.{TestAnswer}
use Rattle.queries.specs.Goban.{no_test}

-- whether the point is off the board is asked of a true state only; refused, a test says no
pub record Tested (is : Type 0) (off holds : Bool) (r : TestAnswer) : Type 0 where
  pub damaged : ¬ is → r ≡ no_test (number Damaged)
  pub beyond : is → off ≡ true → r ≡ no_test (number OffBoard)
  pub told : is → off ≡ false → r ≡ record { answer = number Accepted; holds = holds }
