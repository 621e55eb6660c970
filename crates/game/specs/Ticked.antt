-- What a call on the numbers alone gives: the numbers after it, or why it is refused.
use Rattle.std.specs.Prelude.{◌≡◌, ℕ, Result, Ok, Err}
use Rattle.rules.specs.Answers.{Accepted, number}
use Rattle.points.specs.declared.answers.Refusal.{Refusal}
use Rattle.points.specs.declared.answers.Refusal.TheVariants.{Damaged}
use Rattle.points.specs.Reason.{reason}
use Rattle.game.specs.declared.state.Game.{Game}
use Rattle.game.specs.declared.clock.Clock.{Clock}
use Rattle.game.specs.Clock.{clock_of}
use Rattle.game.specs.View.{TrueState}

-- the number that is answered
abbrev pub number_of : Result Clock Refusal → ℕ
number_of (Ok c) = number Accepted
number_of (Err r) = number (reason r)

-- the numbers after the call: a refused one leaves those before it
abbrev pub after : Clock → Result Clock Refusal → Clock
after c (Ok c') = c'
after c (Err r) = c

-- the numbers of a true state, and of no other
abbrev pub Vouched : Game → Result Clock Refusal → Type 0
Vouched g (Ok c) = TrueState g × (c ≡ clock_of g)
Vouched g (Err r) = (¬ TrueState g) × (r ≡ Damaged)
