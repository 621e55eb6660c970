-- `eyes::eye::friendly_corners`: the library's count is the definition's.
use Rattle.std.proofs.Common.{rules, ◌≡◌, ◌∙◌, count_by}
use Rattle.std.proofs.iter.runs.Made.{chains}
use Rattle.rules.specs.Points.{corners}
use Rattle.rules.specs.Tests.{friendly, friendly_corners}
use Rattle.eyes.specs.Laws.Counting.{count-by}
use Rattle.eyes.proofs.eye.friendly_corners.Goals as goal

pub returns : goal.returns
unfolding friendly_corners
returns c =
    let a = c.args in
    let h : c.count.result ≡ count_by (friendly a.height a.width a.colours.now a.colour) (corners a.height a.width a.point) = search (rules, chains) in
    h ∙ count-by _ _
