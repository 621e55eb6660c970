-- `queries::goban::number_of_chains`: the used slots counted, on a true board.
use Rattle.rules.specs.Answers.{number}
use Rattle.counting.specs.Goban.{no_chains, chains_of}
use Rattle.vetting.specs.Laws.Answered.{answered-refused, answered-told}
use Rattle.counting.proofs.goban.number_of_chains.Goals as goal

pub returns-in-Err : goal.returns-in-Err
unfolding no_chains
returns-in-Err c = answered-refused no_chains _ c.in-Err.ensures (λ i. record { answer = c.number.ensures i; chains = 0 })

pub returns : goal.returns
unfolding number chains_of
returns c =
    answered-told no_chains _ (c.answer_of.ensures.sound c.in_default.is)
    (λ i. record { answer = 0; chains = c.count_chains.ensures i })
