use Rattle.lines.specs.Steps.{Laid}
use Rattle.lines.specs.Laws.Spots.{laid_none, laid-not, laid_more, laid-all}
use Rattle.lines.proofs.read.lay_spots.Goals as goal

pub loop-laid-init : goal.loop-laid-init
loop-laid-init c = laid_none _ _ _ c.requires

pub returns-in_default : goal.returns-in_default
returns-in_default c = absurd (laid-not _ _ _ c.loop-laid.invariant c.loop-laid-test.true c.in_default.ensures)

pub loop-laid-preserved : goal.loop-laid-preserved
loop-laid-preserved c = laid_more _ _ _ c.loop-laid.invariant c.loop-laid-test.true _ c.in-Some.ensures

pub returns : goal.returns
unfolding Laid
returns c = laid-all _ _ _ c.loop-laid.invariant c.loop-laid-test.false
