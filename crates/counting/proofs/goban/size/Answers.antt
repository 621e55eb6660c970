-- `queries::goban::size`: the fields of the board, if it is a true one.
use mathlib.Core.Path.{refl}
use Rattle.rules.specs.Answers.{number}
use Rattle.counting.specs.Goban.{no_size, size_of}
use Rattle.vetting.specs.Laws.Answered.{answered-refused, answered-told}
use Rattle.counting.proofs.goban.size.Goals as goal

pub returns-in-Err : goal.returns-in-Err
unfolding no_size
returns-in-Err c = answered-refused no_size _ c.in-Err.ensures (λ i. record { answer = c.number.ensures i; height = 0; width = 0 })

pub returns : goal.returns
unfolding number size_of
returns c = answered-told no_size _ (c.answer_of.ensures.sound c.in_default.is) refl
