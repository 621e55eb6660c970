-- `queries::goban::zobrist_hash`: a true board holds the hash of its colours.
use Rattle.rules.specs.Answers.{number}
use Rattle.counting.specs.Goban.{no_hash, hash_of}
use Rattle.vetting.specs.Laws.Answered.{answered-refused, answered-told}
use Rattle.counting.proofs.goban.zobrist_hash.Goals as goal

pub returns-in-Err : goal.returns-in-Err
unfolding no_hash
returns-in-Err c = answered-refused no_hash _ c.in-Err.ensures (λ i. record { answer = c.number.ensures i; hash = 0 })

pub returns : goal.returns
unfolding number hash_of
returns c =
    let (t, on) = c.answer_of.ensures.sound c.in_default.is in
    let hashes = t.table.hashed in
    answered-told no_hash _ (t, on) (λ i. record { answer = 0; hash = hashes i })
