-- `first_refusal`: the ways out are the cases of the definition.
use mathlib.Core.Path.{◌≡◌}
use mathlib.Core.Bool.{false}
use borrow.Author.Rules.{rules}
use Rattle.rules.specs.Answers.{number, accepts, refuse, ◌then◌}
use Rattle.checking.specs.Told.{first_refusal}
use Rattle.checking.proofs.refusal.first_refusal.Goals as goal

pub returns-then-suicide : goal.returns-then-suicide
unfolding first_refusal ◌then◌ accepts refuse number
returns-then-suicide c = rw c.if-suicide.true

pub returns-then-ko : goal.returns-then-ko
unfolding first_refusal ◌then◌ accepts refuse number
returns-then-ko c = rw (c.if-suicide.false, c.if-ko.true)

pub returns-then-eye : goal.returns-then-eye
unfolding first_refusal ◌then◌ accepts refuse number
returns-then-eye c = let no-ko : c.args.ko ≡ false = search rules in rw (c.if-suicide.false, no-ko, c.if-eye.true)

pub returns : goal.returns
unfolding first_refusal ◌then◌ accepts refuse number
returns c = rw (c.if-suicide.false, c.if-ko.false, c.if-eye.false)
