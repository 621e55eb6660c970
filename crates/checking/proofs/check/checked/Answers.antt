-- `checked`: the judge, the flags, the point.
use mathlib.Core.Path.{◌∙◌}
use native.Mathlib.Omega.{arith}
use Rattle.rules.specs.Answers.{number}
use Rattle.rules.proofs.Laws.Lists.{not-both}
use Rattle.game.specs.View.{view_of}
use Rattle.checking.specs.Laws.Promise.{checked-damaged, checked-answered, check-unflagged, check-flagged}
use Rattle.checking.proofs.check.checked.Goals as goal

pub returns-then-flags-gt-MAX_FLAGS : goal.returns-then-flags-gt-MAX_FLAGS
returns-then-flags-gt-MAX_FLAGS c =
    let a = c.args in
    checked-answered (c.judge_with.ensures.sound c.if-not-judge_with.false) (check-unflagged (view_of a.game.now) a.history.now a.flags _ _ (omega arith))

pub returns : goal.returns
returns c =
    let a = c.args in
    checked-answered (c.judge_with.ensures.sound c.if-not-judge_with.false)
    (c.point_answer.ensures ∙ check-flagged (view_of a.game.now) a.history.now a.flags _ _ (omega arith))
