-- `refusal`: the code and the definition make the same tests, in the same order.
use mathlib.Core.Path.{refl, sym, ◌∙◌}
use native.Mathlib.Omega.{arith}
use borrow.Author.Tests.{lt-ltb, le-ltb}
use Rattle.rules.specs.Sizes.{max_flags}
use Rattle.rules.specs.Answers.{BadFlags, number, accepts}
use Rattle.rules.specs.Calls.{flags_answer}
use Rattle.rules.proofs.Laws.Answers.{test-refuses, test-passes}
use Rattle.legals.specs.Legals.{refused}
use Rattle.legals.proofs.list.refusal.Goals as goal

pub returns-then-flags-gt-MAX_FLAGS : goal.returns-then-flags-gt-MAX_FLAGS
unfolding refused flags_answer accepts number
returns-then-flags-gt-MAX_FLAGS c = sym (test-refuses BadFlags _ refl (lt-ltb max_flags c.args.flags (omega arith)))

pub returns : goal.returns
unfolding refused flags_answer
returns c = c.length_refusal.ensures ∙ sym (test-passes BadFlags _ (le-ltb max_flags c.args.flags (omega arith)))
