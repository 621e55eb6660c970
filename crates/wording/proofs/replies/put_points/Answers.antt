use Rattle.std.proofs.Common.{ap, ◌∙◌, List, ℕ, ◌++◌, arith}
use Rattle.writing.specs.Figures.{decimal, spaced}
use Rattle.wording.specs.Laws.Replies.{each_more}
use Rattle.wording.proofs.replies.put_points.Goals as goal

pub loop-point-preserved : goal.loop-point-preserved
loop-point-preserved g c =
    let loop = c.loop-point in
    let one = c.put_spaced.ensures in (
      omega (arith, one.upper_bound),
      one.put ∙ ap (λ (t : List ℕ). t ++ spaced (decimal c.from.result)) loop.invariant.1 ∙ each_more _ c.args.points.now loop.point-index _ c.loop-point-test.true c.from.ensures,
    )
