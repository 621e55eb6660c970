-- `laying::lay::join`: what is read of the table are the two chains.
use Rattle.laying.proofs.Joined.{joined-walk, joined-links, joined-count, joined-all}
use Rattle.laying.proofs.lay.join.Goals as goal

pub own-requires-clause-walkable : goal.own-requires-clause-walkable
own-requires-clause-walkable c = joined-walk _ _ _ c.requires _

pub relink-requires : goal.relink-requires
relink-requires c = joined-links _ _ _ c.requires _

pub unite-requires : goal.unite-requires
unite-requires c = joined-count _ _ _ c.requires _

pub returns : goal.returns
returns c = joined-all _ _ _ c.requires _ _ c.own.ensures _ c.relink.ensures _ c.free_chain.ensures _ c.unite.ensures
