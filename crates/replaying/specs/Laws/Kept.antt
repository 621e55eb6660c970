-- Law of the colours after an accepted stone: with the stone added to those that were seen they are the new board's, unless stones were removed; then none are relied on.
use Rattle.std.specs.Prelude.{◌≡◌, true, false, cond, ◌&&◌, ℕ, ◌≤◌, ◌<◌, set}
use Rattle.std.proofs.Math.Path.{sym, ap}
use Rattle.std.proofs.Common.{◌∙◌, arith, length-set, eqb-true}
use mathlib.Core.List.{List}
use Rattle.std.proofs.Math.Logic.{⊎_elim}
use Rattle.std.proofs.Math.Dec.{eqb}
use Rattle.std.proofs.Math.ListN.{length}
use Rattle.rules.specs.Sizes.{max_area}
use Rattle.rules.specs.Points.{area}
use Rattle.rules.specs.Colours.{empty, other, at}
use Rattle.rules.specs.Flags.{forbids}
use Rattle.rules.specs.Move.{coloured, played, removed}
use Rattle.rules.proofs.Laws.Lists.{and_left, and_right, decided, get_d_set}
use Rattle.rules.proofs.Laws.Colours.{at-beyond}
use Rattle.rules.proofs.Laws.Move.{played-both}
use Rattle.board.specs.declared.goban.Board.{Board}
use Rattle.board.specs.Board.{colours_of}
use Rattle.board.specs.Laws.Board.{area-fits, length-colours}
use Rattle.board.specs.Laws.Chains.{true-colours}
use Rattle.looking.specs.declared.look.Sight.{Sight}
use Rattle.looking.specs.Seen.{Sees, Partly, known_after}
use Rattle.looking.specs.Laws.Sight.{sight-long, sight-at}
use Rattle.laying.specs.declared.lay.Laid.{Laid}
use Rattle.laying.specs.Laying.{Laying, LaidOut}
use Rattle.placing.specs.Laws.Untaken.{nothing-same}

module _ (b : Board) (p c flags : ℕ) (laying : Laying b p c flags) where
  pub point-fits : p < max_area
  point-fits = let on = laying.on in let most = area-fits laying.board.table.size in omega arith

  module _ (laid : Laid) (out : LaidOut b p c flags laid) where
    abbrev before : List ℕ
    before = colours_of b

    abbrev after : ℕ → List ℕ
    after flags' = played b.height b.width flags' before c p

    abbrev put : List ℕ
    put = coloured before c p

    -- a stone that the flags allow does the same with no flag set
    by_flags : after 0 ≡ after flags
    unfolding played forbids
    by_flags = sym (played-both b.height b.width before (true-colours b laying.board) c laying.player p laying.on laying.empty flags laying.allowed)

    -- nothing was removed: the stone was added, and that is all
    untaken : laid.taken ≡ 0 → laid.lost ≡ 0 → colours_of laid.board ≡ set before p c
    unfolding coloured
    untaken none none' =
        out.colours ∙ sym by_flags
        ∙ nothing-same b.height b.width before (true-colours b laying.board) c laying.player p laying.on laying.empty
        (ap (λ (l : List ℕ). length (removed b.height b.width (other c) put l)) by_flags ∙ sym out.taken ∙ none)
        (ap (λ (l : List ℕ). length (removed b.height b.width c put l)) by_flags ∙ sym out.lost ∙ none')

    module _ (row column : ℕ) (cs : List ℕ) (s : Sight) (sees : Sees b row column cs s) where
      abbrev long : length cs ≡ max_area
      long = sight-long b laying.board cs sees.colours

      abbrev same : (q : ℕ) → at cs q ≡ at before q
      same = sight-at b laying.board cs sees.colours

      -- the stone is added to both alike
      set_same : (q : ℕ) → at (set cs p c) q ≡ at (set before p c) q
      unfolding at
      set_same q =
          get_d_set cs p c q empty (rw long point-fits) ∙ ap (cond (eqb q p) c) (same q)
          ∙ sym (get_d_set before p c q empty (rw (length-colours b) laying.on))

      known : (q : ℕ) → q < known_after laid.taken laid.lost → at (set cs p c) q ≡ at (colours_of laid.board) q
      unfolding known_after
      known q low =
          ⊎_elim
          (λ (y : (eqb laid.taken 0 && eqb laid.lost 0) ≡ true).
          set_same q ∙ ap (λ (l : List ℕ). at l q) (sym (untaken (eqb-true laid.taken 0 (and_left _ _ y)) (eqb-true laid.lost 0 (and_right (eqb laid.taken 0) _ y)))))
          (λ (n : (eqb laid.taken 0 && eqb laid.lost 0) ≡ false). let none : q < 0 = rw n at low in omega arith)
          (decided (eqb laid.taken 0 && eqb laid.lost 0))

      pub kept : Partly laid.board (known_after laid.taken laid.lost) (set cs p c)
      kept =
          record {
            long = length-set cs p c ∙ long;
            read = known;
            rest = λ q beyond.
                let off : area b.height b.width ≤ q = rw (out.tall, out.wide) at beyond in
                set_same q ∙ at-beyond (set before p c) q (rw (length-set before p c, length-colours b) off);
          }
