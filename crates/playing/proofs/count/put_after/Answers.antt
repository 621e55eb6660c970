-- The mover is Black, or White.
use Rattle.playing.specs.Laws.Count.{put-black, put-white}
use Rattle.playing.proofs.count.put_after.Goals as goal

pub returns-then-mover-eq-BLACK : goal.returns-then-mover-eq-BLACK
returns-then-mover-eq-BLACK c = put-black _ _ c.if-mover-eq-BLACK.true

pub returns : goal.returns
returns c = put-white _ _ c.requires.1 c.if-mover-eq-BLACK.false
