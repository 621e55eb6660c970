use Rattle.std.proofs.Common.{◌≡◌, ◌∙◌, ℕ, refl, sym, subst, arith}
use Rattle.std.specs.Prelude.{Option, None, Some}
use Rattle.std.specs.Option.{IsSome}
use Rattle.rules.specs.Game.{Player}
use Rattle.rules.proofs.Laws.Colours.{other-player}
use Rattle.steps.specs.Putting.{Putting}
use Rattle.laying.specs.Laws.Laying.{free-found, free-putting}
use Rattle.laying.proofs.Ending.{joinable, whole-table, low, removing, ended}
use Rattle.laying.proofs.lay.lay.Goals.{After-free_slot, After-unwrap-free, After-join_beside-slot, then-is_lost, else-is_lost}
use Rattle.laying.proofs.lay.lay.Goals as goal

some : (o : Option ℕ) → (o ≡ None → ⊥) → IsSome o
some None n = absurd (n refl)
some (Some x) n = refl

pub unwrap-free-requires : goal.unwrap-free-requires
unwrap-free-requires c =
    some c.free_slot.result (λ e. free-found c.args.board c.args.point c.args.colour c.args.flags c.requires (sym c.free_slot.ensures ∙ e))

putting : (c : After-unwrap-free) → Putting c.args.board c.args.point c.args.colour c.unwrap-free.result
putting c =
    free-putting c.args.board c.args.point c.args.colour c.args.flags c.requires c.unwrap-free.result (sym c.free_slot.ensures ∙ c.unwrap-free.ensures)

pub put-requires : goal.put-requires
put-requires c = putting (goal.at.put-requires c).After-unwrap-free

pub join_beside-slot-requires : goal.join_beside-slot-requires
join_beside-slot-requires c =
    joinable _ _ _ _ _ c.requires (putting (goal.at.join_beside-slot-requires c).After-unwrap-free) _ c.put.ensures

pub take_beside-taken-requires-clause-table : goal.take_beside-taken-requires-clause-table
take_beside-taken-requires-clause-table c =
    whole-table _ _ _ _ _ c.requires (putting (goal.at.take_beside-taken-requires-clause-table c).After-unwrap-free) _ c.put.ensures
    _ _ c.join_beside-slot.ensures

pub take_beside-taken-requires-clause-player : goal.take_beside-taken-requires-clause-player
take_beside-taken-requires-clause-player c = subst Player (sym c.other-enemy.ensures) (other-player c.args.colour c.requires.player)

pub offset_bounds-board-slot : goal.offset_bounds-board-slot
offset_bounds-board-slot c =
    let l = low _ _ _ _ _ c.requires (putting (goal.at.offset_bounds-board-slot c).After-unwrap-free) _ c.put.ensures _ _ c.join_beside-slot.ensures in
    omega arith

pub bounds-board-slot : goal.bounds-board-slot
bounds-board-slot c = low _ _ _ _ _ c.requires (putting (goal.at.bounds-board-slot c).After-unwrap-free) _ c.put.ensures _ _ c.join_beside-slot.ensures

pub remove_chain-requires : goal.remove_chain-requires
remove_chain-requires c =
    removing _ _ _ _ _ c.requires (putting (goal.at.remove_chain-requires c).After-unwrap-free) _ c.put.ensures
    _ _ c.join_beside-slot.ensures _ c.other-enemy.ensures _ _ _ c.take_beside-taken.ensures

pub returns : goal.returns
returns c =
    let end =
    ended _ _ _ _ _ c.requires (putting (goal.at.returns c).After-unwrap-free) _ c.put.ensures _ _ c.join_beside-slot.ensures
    _ c.other-enemy.ensures _ _ _ c.take_beside-taken.ensures _ _ c.is_lost.result c.is_lost.ensures in
    elim c.if-is_lost.branch [
      | then-is_lost w ↦ end (rw w.if-is_lost.true (w.board-is ∙ w.remove_chain.ensures)) refl (rw w.if-is_lost.true w.lost-is) c.ko_point.ensures
      | else-is_lost w ↦ end (rw w.if-is_lost.false w.board-is) refl (rw w.if-is_lost.false w.lost-is) c.ko_point.ensures
    ]
