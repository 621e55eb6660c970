-- `look` meets its contract: off the board, or at a point that is empty, another's or the slot's.
use mathlib.Core.Path.{◌≡◌, sym, ◌∙◌, subst}
use Prim.Native.Nat.{◌<◌}
use native.Mathlib.Omega.{arith}
use Rattle.rules.specs.Sizes.{max_area, slots}
use Rattle.rules.specs.Points.{area}
use Rattle.rules.proofs.Laws.Lists.{get_d_default}
use Rattle.points.specs.Place.{Within}
use Rattle.owning.specs.Owners.{owner_in}
use Rattle.flooding.specs.Laws.Looked.{looked-none, looked-past, looked-empty, looked-pushed, room}
use Rattle.flooding.proofs.flood.look.Goals.{After-index-owner, In-Some}
use Rattle.flooding.proofs.flood.look.Goals as goal

-- the point is on the board
on : (c : In-Some) → let a = c.args in c.in-Some.point < area a.ground.now.height a.ground.now.width
on c = subst (Within (area c.args.ground.now.height c.args.ground.now.width)) (c.in-Some.is) c.requires.1

inside : (c : In-Some) → c.in-Some.point < max_area
inside c = let l = on c in omega (arith, c.requires.0.fits)

-- what the code read is the note
noted : (c : After-index-owner) → c.index-owner.result ≡ owner_in c.args.notes.now c.in-Some.point
unfolding owner_in
noted c =
    let l : c.in-Some.point < area c.args.ground.now.height c.args.ground.now.width = subst (Within (area c.args.ground.now.height c.args.ground.now.width)) c.in-Some.is c.requires.1 in
    c.index-owner.ensures ∙ get_d_default c.args.notes.now c.in-Some.point 0 slots (omega (arith, c.requires.0.fits))

pub returns-in_default : goal.returns-in_default
returns-in_default c = rw c.in_default.is (looked-none c.requires.0 _ c.told-seen)

pub offset_bounds-notes-point : goal.offset_bounds-notes-point
offset_bounds-notes-point c = let l = inside (goal.at.offset_bounds-notes-point c).In-Some in omega arith

pub bounds-notes-point : goal.bounds-notes-point
bounds-notes-point c = inside (goal.at.bounds-notes-point c).In-Some

pub see-requires : goal.see-requires
see-requires c = inside (goal.at.see-requires c).In-Some

pub returns-then-owner-eq-SLOTS : goal.returns-then-owner-eq-SLOTS
returns-then-owner-eq-SLOTS c =
    let vacant = sym (noted (goal.at.returns-then-owner-eq-SLOTS c).After-index-owner) ∙ c.if-owner-eq-SLOTS.true in
    rw c.in-Some.is
    (looked-empty c.requires.0 c.args.seen.now c.told-seen c.in-Some.point (λ e. omega (arith, c.requires.0.low)) vacant c.see.ensures)

pub returns-then-owner-ground : goal.returns-then-owner-ground
returns-then-owner-ground c =
    rw c.in-Some.is
    (looked-past c.requires.0 c.args.seen.now c.told-seen c.in-Some.point (λ e. c.if-owner-ground.true (noted (goal.at.returns-then-owner-ground c).After-index-owner ∙ e)) (λ e. c.if-owner-eq-SLOTS.false (noted (goal.at.returns-then-owner-ground c).After-index-owner ∙ e)))

pub push-requires : goal.push-requires
push-requires c =
    (room c.requires.0 c.in-Some.point (on (goal.at.push-requires c).In-Some) (sym (noted (goal.at.push-requires c).After-index-owner) ∙ c.if-owner-ground.false), inside (goal.at.push-requires c).In-Some)

pub returns : goal.returns
returns c =
    rw c.in-Some.is
    (looked-pushed c.args.seen.now c.told-seen c.requires.0 (on (goal.at.returns c).In-Some) (sym (noted (goal.at.returns c).After-index-owner) ∙ c.if-owner-ground.false) c.push.ensures)
