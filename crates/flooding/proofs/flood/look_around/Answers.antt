-- `look_around` meets its contract: four looks, one after another, at what the four sides are.
use mathlib.Core.Path.{sym, subst}
use Rattle.rules.specs.Points.{area, back, stay, forth}
use Rattle.points.specs.Place.{Within}
use Rattle.flooding.specs.Laws.Edges.{towards-within}
use Rattle.flooding.specs.Laws.Looked.{looked-around}
use Rattle.flooding.proofs.flood.look_around.Goals as goal

pub below-down-requires : goal.below-down-requires
below-down-requires c = (c.requires.2, c.requires.1.fits)

pub look-first-requires : goal.look-first-requires
look-first-requires c =
    let a = c.args in
    (c.requires.1, subst (Within (area a.ground.now.height a.ground.now.width)) (sym c.below-down.ensures) (towards-within a.ground.now.height a.ground.now.width a.point forth stay))

pub above-up-requires : goal.above-up-requires
above-up-requires c = c.requires.2

pub look-second-requires : goal.look-second-requires
look-second-requires c =
    let a = c.args in
    (c.look-first.ensures.ready, subst (Within (area a.ground.now.height a.ground.now.width)) (sym c.above-up.ensures) (towards-within a.ground.now.height a.ground.now.width a.point back stay))

pub right-east-requires : goal.right-east-requires
right-east-requires c = (c.requires.0, c.requires.2, c.requires.1.fits)

pub look-third-requires : goal.look-third-requires
look-third-requires c =
    let a = c.args in
    (c.look-second.ensures.ready, subst (Within (area a.ground.now.height a.ground.now.width)) (sym c.right-east.ensures) (towards-within a.ground.now.height a.ground.now.width a.point stay forth))

pub left-west-requires : goal.left-west-requires
left-west-requires c = (c.requires.0, c.requires.2, c.requires.1.fits)

pub look-requires : goal.look-requires
look-requires c =
    let a = c.args in
    (c.look-third.ensures.ready, subst (Within (area a.ground.now.height a.ground.now.width)) (sym c.left-west.ensures) (towards-within a.ground.now.height a.ground.now.width a.point stay back))

pub returns : goal.returns
returns c =
    let a = c.args in
    looked-around a.ground.now.height a.ground.now.width a.point c.below-down.ensures c.above-up.ensures c.right-east.ensures c.left-west.ensures
    c.look-first.ensures c.look-second.ensures c.look-third.ensures c.look.ensures
