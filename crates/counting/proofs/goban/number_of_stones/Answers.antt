-- `number_of_stones`: what the judge counted, of a true board.
use mathlib.Core.Path.{refl}
use Rattle.rules.specs.Answers.{number}
use Rattle.counting.specs.Goban.{no_stones, stones_of}
use Rattle.vetting.specs.Laws.Answered.{answered-told}
use Rattle.counting.proofs.goban.number_of_stones.Goals as goal

pub returns-in-None : goal.returns-in-None
unfolding number no_stones
returns-in-None c = record { damaged = λ _. refl; beyond = λ t _. absurd (c.in-None.ensures t); accepted = λ t _. absurd (c.in-None.ensures t) }

pub returns-in-Some : goal.returns-in-Some
unfolding number stones_of
returns-in-Some c =
    let (is, counted) = c.in-Some.ensures in
    answered-told no_stones _ (is, refl) (λ i. record { answer = 0; black = counted.blacks i; white = counted.whites i })
