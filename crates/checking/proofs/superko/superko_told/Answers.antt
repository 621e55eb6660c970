-- `superko_told`: the ways out are the cases of the definition.
use mathlib.Core.Path.{sym, ◌∙◌}
use native.Mathlib.Omega.{arith}
use borrow.Author.Tests.{lt-ltb, le-ltb}
use Rattle.checking.specs.Told.{superko_told}
use Rattle.checking.proofs.superko.superko_told.Goals as goal

pub returns-then-records-le2 : goal.returns-then-records-le2
unfolding superko_told
returns-then-records-le2 c = rw (le-ltb 2 c.args.records (omega arith))

pub returns-then-not-will_capture : goal.returns-then-not-will_capture
unfolding superko_told
returns-then-not-will_capture c =
    rw (lt-ltb 2 c.args.records (omega arith), sym c.will_capture.ensures ∙ c.if-not-will_capture.true)

pub returns-then-is_ko : goal.returns-then-is_ko
unfolding superko_told
returns-then-is_ko c =
    rw (lt-ltb 2 c.args.records (omega arith), sym c.will_capture.ensures ∙ c.if-not-will_capture.false, sym c.is_ko.ensures ∙ c.if-is_ko.true)

pub returns : goal.returns
unfolding superko_told
returns c =
    rw (lt-ltb 2 c.args.records (omega arith), sym c.will_capture.ensures ∙ c.if-not-will_capture.false, sym c.is_ko.ensures ∙ c.if-is_ko.false)
