use Rattle.std.proofs.Common.{◌≡◌, sym, ◌∙◌, arith}
use borrow.Author.Count.{below_none, below_more}
use Rattle.rules.specs.Lists.{same}
use Rattle.rules.specs.Records.{stored}
use Rattle.history.proofs.Laws.History.{among-here, among_none}
use Rattle.history.proofs.lent.is_recorded.Goals.{After-same_record}
use Rattle.history.proofs.lent.is_recorded.Goals as goal

-- what the comparison answers
here : (c : After-same_record) → same (stored c.args.history.now c.loop-i.i) c.args.bytes.now ≡ c.same_record.result
here c = cc

pub loop-i-init : goal.loop-i-init
loop-i-init c = below_none _

pub returns-then-same_record : goal.returns-then-same_record
returns-then-same_record c =
    sym (among-here _ _ _ c.loop-i.i c.loop-i-test.true (here (goal.at.returns-then-same_record c).After-same_record ∙ c.if-same_record.true))

pub loop-i-preserved : goal.loop-i-preserved
loop-i-preserved c = below_more _ _ c.loop-i.invariant (here (goal.at.loop-i-preserved c).After-same_record ∙ c.if-same_record.false)

pub returns : goal.returns
returns c = sym (among_none _ _ _ (λ k l. c.loop-i.invariant k (omega arith)))
