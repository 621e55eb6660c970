use mathlib.Core.Path.{refl, sym, subst}
use Rattle.rules.specs.Answers.{NoLiberty, number, accepts}
use Rattle.rules.specs.Colours.{at}
use Rattle.rules.proofs.Laws.Answers.{refuses, passes}
use Rattle.placing.specs.Placing.{Stands, Adding}
use Rattle.placing.specs.Laws.Added.{added_none, added-laying, added-stuck, added-stone}
use Rattle.placing.specs.Laws.Answers.{outcome-refused, outcome-accepted, outcome-as}
use Rattle.placing.specs.Laws.SoFar.{so-far-none, so-far-adding, so-far-next, so-far-stuck, so-far-all, stands-free}
use Rattle.placing.proofs.place.place.Goals.{In-loop-point}
use Rattle.placing.proofs.place.place.Goals.{then-colour-ne-EMPTY+else-chokes, else-colour-ne-EMPTY}
use Rattle.placing.proofs.place.place.Goals as goal

pub loop-point-init : goal.loop-point-init
loop-point-init c = so-far-none _ _ c.requires

-- the point whose turn it is may get its colour
adding : (c : In-loop-point) → Adding c.loop-point.result c.loop-point.point (at c.args.colours.now c.loop-point.point)
adding c = so-far-adding _ _ c.requires _ _ c.loop-point.invariant c.loop-point-test.true

pub lay-laid-requires : goal.lay-laid-requires
unfolding at
lay-laid-requires c =
    added-laying _ _ _ (adding (goal.at.lay-laid-requires c).In-loop-point) c.if-colour-ne-EMPTY.true

pub returns-then-chokes : goal.returns-then-chokes
unfolding at number accepts
returns-then-chokes c =
    let l = c.loop-point in
    outcome-as
    (sym
    (refuses NoLiberty
    (so-far-stuck _ _ _ c.requires.covers l.point l.result l.invariant c.loop-point-test.true
    (added-stuck _ _ _ (adding (goal.at.returns-then-chokes c).In-loop-point) c.if-colour-ne-EMPTY.true _ c.lay-laid.ensures _ c.chokes.ensures c.if-chokes.true))))
    (outcome-refused refl refl refl)

pub loop-point-preserved : goal.loop-point-preserved
unfolding at
loop-point-preserved c =
    let l = c.loop-point in
    so-far-next _ _ _ c.requires.covers l.point l.result l.invariant c.loop-point-test.true _
    (elim c.if-colour-ne-EMPTY.branch [
      | then-colour-ne-EMPTY+else-chokes w ↦
          subst (Stands _ _ _) (sym w.result-is) (added-stone _ _ _ (adding (goal.at.loop-point-preserved c).In-loop-point) w.if-colour-ne-EMPTY.true _ w.lay-laid.ensures _ w.chokes.ensures w.if-chokes.false)
      | else-colour-ne-EMPTY w ↦ subst (Stands _ _ _) (sym w.result-is) (added_none _ _ _ (adding (goal.at.loop-point-preserved c).In-loop-point) w.if-colour-ne-EMPTY.false)
    ])

pub returns : goal.returns
unfolding number accepts
returns c =
    let l = c.loop-point in
    let stands = so-far-all _ _ _ c.requires.covers l.point l.result l.invariant c.loop-point-test.false in
    outcome-as (sym (passes NoLiberty (stands-free _ _ _ _ stands))) (outcome-accepted refl refl stands)
