-- One colour more on an empty point: nothing for empty, and a stone is laid; what it takes and loses tells whether the colours with it have a
-- choked chain, and if not, they are the board's.
use Rattle.std.specs.Prelude.{◌≡◌, Bool, true, false, not, ◌&&◌, ◌≢◌, ℕ, eqb}
use Rattle.std.proofs.Math.Path.{refl}
use Rattle.std.proofs.Common.{sym, ◌∙◌, ⊎_elim, eqb-true, eq-eqb}
use Rattle.std.proofs.lemmas.Bool.{eqb-false, not-true, not-false}
use Rattle.rules.specs.Colours.{empty}
use Rattle.rules.specs.Flags.{forbids}
use Rattle.rules.specs.Move.{coloured}
use Rattle.rules.specs.Game.{Player}
use Rattle.rules.proofs.Laws.Lists.{and_left, and_right, and_both, not-both, decided}
use Rattle.board.specs.declared.goban.Board.{Board}
use Rattle.board.specs.Board.{colours_of}
use Rattle.board.specs.Laws.Chains.{true-colours}
use Rattle.laying.specs.declared.lay.Laid.{Laid}
use Rattle.laying.specs.Laying.{Laying, LaidOut}
use Rattle.placing.specs.Placing.{Stands, Stuck, Adding}
use Rattle.placing.specs.Laws.Colours.{coloured-same, stone-player}
use Rattle.placing.specs.Laws.Untaken.{taken-stuck, lost-stuck, nothing-same}

module _ (b : Board) (p c : ℕ) (is : Adding b p c) where
  pub added_none : c ≡ empty → Stands b.height b.width (coloured (colours_of b) c p) b
  added_none e = record { is_true = is.is_true; tall = refl; wide = refl; colours = sym (coloured-same _ _ _ (e ∙ sym is.vacant)) }

  module _ (stone : c ≢ empty) where
    player : Player c
    player = stone-player _ is.known stone

    pub added-laying : Laying b p c 0
    unfolding forbids
    added-laying = record { board = is.is_true; on = is.on; empty = is.vacant; player = player; allowed = refl }

    module _ (r : Laid) (laid : LaidOut b p c 0 r) (choked : Bool) (test : choked ≡ not (eqb r.taken 0 && eqb r.lost 0)) where
      pub added-stuck : choked ≡ true → Stuck b.height b.width (coloured (colours_of b) c p)
      added-stuck y =
          ⊎_elim
          (λ t.
          lost-stuck _ _ _ (true-colours _ is.is_true) _ player _ is.on is.vacant
          (λ z. not-both (and_both t (eq-eqb r.lost 0 (laid.lost ∙ z))) (not-true _ (sym test ∙ y))))
          (λ f. taken-stuck _ _ _ (true-colours _ is.is_true) _ player _ is.on is.vacant (λ z. eqb-false _ _ f (laid.taken ∙ z)))
          (decided (eqb r.taken 0))

      pub added-stone : choked ≡ false → Stands b.height b.width (coloured (colours_of b) c p) r.board
      added-stone n =
          let both = not-false _ (sym test ∙ n) in
          record {
            is_true = laid.board;
            tall = laid.tall;
            wide = laid.wide;
            colours =
                laid.colours
                ∙ nothing-same _ _ _ (true-colours _ is.is_true) _ player _ is.on is.vacant
                (sym laid.taken ∙ eqb-true _ _ (and_left _ _ both))
                (sym laid.lost ∙ eqb-true _ _ (and_right (eqb r.taken 0) _ both));
          }
