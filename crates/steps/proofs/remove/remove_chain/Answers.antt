use Rattle.std.proofs.Common.{refl, sym, ap, arith, ◌≡◌, ◌∙◌, ◌≤◌, length, take, ℕ, List, subst}
use Rattle.std.proofs.lemmas.List.{length-take-le, drop_all}
use Rattle.chains.specs.Laws.Walk.{walk_length-area}
use Rattle.steps.specs.Laws.Ring.{ring}
use Rattle.steps.proofs.Growing.{Growing, one-stone-more, removed}
use Rattle.steps.proofs.Walked.{walkable, read, ring-points, wrote-ring}
use Rattle.steps.proofs.remove.remove_chain.Goals.{After-walk-walked}
use Rattle.steps.proofs.remove.remove_chain.Goals as goal

few : (c : After-walk-walked) → c.walk-walked.result ≤ length c.walk-walked.new.out
few c = rw c.walk-walked.ensures.length (omega (arith, walk_length-area c.args.board.now.next c.index.result c.index-2.result))

-- what is written are the stones of the chain, all of them
stones : (c : After-walk-walked) → take c.walk-walked.result c.walk-walked.new.out ≡ ring c.args.board.now c.args.slot
stones c =
    let b = c.args.board.now in
    let r = read b c.args.slot c.requires _ in
    wrote-ring b c.args.slot c.requires _ _ _ _ (c.index.ensures ∙ ap (λ x. x.origin) r)
    (c.index-2.ensures ∙ ap (λ x. x.count) r) c.walk-walked.ensures.length _ c.walk-walked.ensures.written

pub slice_bounds-ring-end : goal.slice_bounds-ring-end
slice_bounds-ring-end c = few (goal.at.slice_bounds-ring-end c).After-walk-walked

pub slice_bounds-stones-end : goal.slice_bounds-stones-end
slice_bounds-stones-end c = sym (length-take-le _ _ (few (goal.at.slice_bounds-stones-end c).After-walk-walked))

pub loop-stone-init : goal.loop-stone-init
loop-stone-init c = record { rest = refl; chains = refl }

pub loop-stone-preserved : goal.loop-stone-preserved
loop-stone-preserved c =
    one-stone-more _ _ _ _ _ _ _ c.loop-stone-test.true c.loop-stone.invariant c.index-point.ensures c.grow_beside.ensures

pub own-requires-clause-walkable : goal.own-requires-clause-walkable
own-requires-clause-walkable c =
    let b = c.args.board.now in
    (walkable b c.args.slot c.requires _ _ (ap (λ x. x.next) c.loop-stone.invariant.rest) (read b c.args.slot c.requires _)).0

pub unhash-board-requires : goal.unhash-board-requires
unhash-board-requires c =
    rw (stones (goal.at.unhash-board-requires c).After-walk-walked) (ring-points c.args.board.now c.args.slot c.requires)

pub returns : goal.returns
returns c =
    let b = c.args.board.now in
    let r = read b c.args.slot c.requires _ in
    let left = drop_all c.loop-stone.stone-index (take c.walk-walked.result c.walk-walked.new.out) c.loop-stone-test.false in
    let done = subst (λ (ps : List ℕ). Growing b c.loop-stone.board c.args.slot (take c.walk-walked.result c.walk-walked.new.out) ps) left c.loop-stone.invariant in
    removed b c.loop-stone.board c.args.slot _ _ _ _ _ _ done (stones (goal.at.returns c).After-walk-walked)
    (walkable b c.args.slot c.requires _ _ (ap (λ x. x.next) c.loop-stone.invariant.rest) r).1
    (ap (λ x. x.colour) r) c.unhash-board.ensures c.own.ensures c.free_chain.ensures
