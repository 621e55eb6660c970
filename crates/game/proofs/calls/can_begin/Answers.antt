-- Each way out is a test of the rules' order that refuses, or all of them passed.
use mathlib.Core.Path.{sym, ◌∙◌}
use Rattle.game.specs.Laws.Promise.{too_low, too_narrow, unflagged, can_begin}
use Rattle.game.proofs.calls.can_begin.Goals as goal

pub returns-then-not-is_side : goal.returns-then-not-is_side
returns-then-not-is_side c = sym (too_low _ _ _ (sym c.is_side.ensures ∙ c.if-not-is_side.true))

pub returns-then-not-is_side-2 : goal.returns-then-not-is_side-2
returns-then-not-is_side-2 c = sym (too_narrow _ _ _ (sym c.is_side.ensures ∙ c.if-not-is_side.false) (sym c.is_side-2.ensures ∙ c.if-not-is_side-2.true))

pub returns-then-flags-gt-MAX_FLAGS : goal.returns-then-flags-gt-MAX_FLAGS
returns-then-flags-gt-MAX_FLAGS c = sym (unflagged _ _ _ (sym c.is_side.ensures ∙ c.if-not-is_side.false) (sym c.is_side-2.ensures ∙ c.if-not-is_side-2.false) c.if-flags-gt-MAX_FLAGS.true)

pub returns : goal.returns
returns c = sym (can_begin _ _ _ (sym c.is_side.ensures ∙ c.if-not-is_side.false) (sym c.is_side-2.ensures ∙ c.if-not-is_side-2.false) c.if-flags-gt-MAX_FLAGS.false)
