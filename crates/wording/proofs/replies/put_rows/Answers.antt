use Rattle.std.proofs.Common.{refl, ap, ◌∙◌, List, ℕ, ◌++◌, arith}
use Rattle.rules.specs.Colours.{at}
use Rattle.wording.specs.Replies.{point}
use Rattle.wording.specs.Laws.Replies.{rows_more}
use Rattle.wording.proofs.replies.put_rows.Goals as goal

pub loop-point-preserved : goal.loop-point-preserved
unfolding at
loop-point-preserved g c =
    let loop = c.loop-point in
    let one = c.put_point.ensures in (
      omega (arith, one.upper_bound),
      one.put
          ∙ ap (λ (t : List ℕ). t ++ point c.starts_row.result (at c.args.colours.now loop.point)) loop.invariant.1
          ∙ rows_more _ _ c.args.colours.now loop.point _ _ c.starts_row.ensures refl,
    )
