-- `queries::goban::colour_at`: the colour in the slot that was found, or empty.
use Rattle.std.proofs.Common.{◌<◌, arith, refl, sym, ap, ◌∙◌}
use Rattle.rules.specs.Sizes.{slots}
use Rattle.chains.specs.declared.group.Chain.{Chain}
use Rattle.queries.specs.Laws.Owner.{chain-read, found-under, found-nobody, found-slot, colour-told}
use Rattle.queries.proofs.goban.colour_at.Goals.{In-Some}
use Rattle.queries.proofs.goban.colour_at.Goals as goal

-- the slot that was found is one of the table
under : (c : In-Some) → c.in-Some.slot < slots
under c = found-under _ _ c.owner_at.ensures c.in-Some.is

pub offset_bounds-board-slot : goal.offset_bounds-board-slot
offset_bounds-board-slot c = let l = under (goal.at.offset_bounds-board-slot c).In-Some in omega arith

pub bounds-board-slot : goal.bounds-board-slot
bounds-board-slot c = under (goal.at.bounds-board-slot c).In-Some

pub returns-in-Some : goal.returns-in-Some
returns-in-Some c =
    let b = c.args.board.now in
    let s = c.in-Some.slot in
    ap (λ (chain : Chain). chain.colour) (chain-read b c.requires s _ (under (goal.at.returns-in-Some c).In-Some))
    ∙ colour-told b c.requires c.args.point s (found-slot b c.requires c.args.point _ refl _ c.owner_at.ensures s c.in-Some.is)

pub returns-in-None : goal.returns-in-None
returns-in-None c = sym (found-nobody c.args.board.now c.requires c.args.point _ refl _ c.owner_at.ensures c.in-None.is)
