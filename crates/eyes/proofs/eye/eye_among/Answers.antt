use Rattle.std.proofs.Common.{sym, arith}
use Rattle.rules.specs.Tests.{empty_corners}
use Rattle.eyes.specs.Laws.Eye.{decided-by, decided-none}
use Rattle.eyes.proofs.eye.eye_among.Goals as goal

pub loop-corner-init : goal.loop-corner-init
unfolding empty_corners
loop-corner-init c = record { said-then = cc }

pub returns-in-Some : goal.returns-in-Some
returns-in-Some c = sym (decided-by _ _ _ _ _ _ _ c.loop-corner.invariant (omega arith) _ _ c.scan.ensures c.in-Some.is)

pub loop-corner-preserved : goal.loop-corner-preserved
loop-corner-preserved c = record { said-then = decided-by _ _ _ _ _ _ _ c.loop-corner.invariant (omega arith) _ _ c.scan.ensures c.in_default.is }

pub returns : goal.returns
returns c = sym (decided-none _ _ _ _ _ _ _ c.loop-corner.invariant (omega arith))
