-- `last_answer`: the ways out are the cases of the definition.
use borrow.Author.Tests.{eq-eqb, ne_eqb}
use Rattle.rules.specs.Answers.{number, accepts, refuse, ◌then◌}
use Rattle.playing.specs.Turn.{last_answer}
use Rattle.playing.proofs.stone.last_answer.Goals as goal

pub returns-then-again : goal.returns-then-again
unfolding last_answer ◌then◌ accepts refuse number
returns-then-again c = rw c.if-again.true

pub returns-then-accepted-eq-MAX_STONES : goal.returns-then-accepted-eq-MAX_STONES
unfolding last_answer ◌then◌ accepts refuse number
returns-then-accepted-eq-MAX_STONES c = rw (c.if-again.false, eq-eqb _ _ c.if-accepted-eq-MAX_STONES.true)

pub returns-then-full : goal.returns-then-full
unfolding last_answer ◌then◌ accepts refuse number
returns-then-full c = rw (c.if-again.false, ne_eqb _ _ c.if-accepted-eq-MAX_STONES.false, c.if-full.true)

pub returns : goal.returns
unfolding last_answer ◌then◌ accepts refuse number
returns c = rw (c.if-again.false, ne_eqb _ _ c.if-accepted-eq-MAX_STONES.false, c.if-full.false)
