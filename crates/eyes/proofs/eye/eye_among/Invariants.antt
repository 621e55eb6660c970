-- `eyes::eye::eye_among`: the corners before this one do not decide.
use Rattle.rules.specs.Tests.{eye_among, empty_corners}
use Rattle.eyes.specs.Laws.Eye.{Left}
use Rattle.eyes.proofs.eye.eye_among.Given as goal

abbrev pub invariant-loop-corner : goal.invariant-loop-corner
invariant-loop-corner l =
    Left l.height l.width l.colours l.colour (eye_among l.height l.width l.colours l.colour (empty_corners l.height l.width l.colours l.point)) l.corner-items l.corner-index
