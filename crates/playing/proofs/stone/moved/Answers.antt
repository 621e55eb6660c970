-- Each number is what its function ensures, for the player whom the turn's byte names.
use mathlib.Core.Path.{refl, sym, ap, ◌∙◌, subst}
use Prim.Native.Nat.{ℕ}
use Rattle.rules.specs.Colours.{other}
use Rattle.rules.specs.Game.{Player}
use Rattle.game.specs.Laws.View.{turn-player}
use Rattle.playing.specs.After.{HeldAfter, PutAfter, stoned}
use Rattle.playing.proofs.stone.moved.Goals as goal

pub put_after-requires : goal.put_after-requires
put_after-requires c =
    (c.requires.put, subst Player (sym c.player_of-mover.ensures) (turn-player c.args.clock.turn))

pub returns : goal.returns
unfolding stoned
returns c =
    let a = c.args in
    let same = c.player_of-mover.ensures in
    record {
      ko = c.ko_number.ensures;
      held = subst (λ (m : ℕ). HeldAfter a.clock.held m a.taken a.lost c.held_after.result) same c.held_after.ensures;
      put = subst (λ (m : ℕ). PutAfter a.clock.put m c.put_after.result) same c.put_after.ensures;
      clock = λ i.
          stoned a.clock ((c.other.ensures ∙ ap other same) i) c.ko_number.result c.held_after.result c.put_after.result a.records;
    }
