-- The slots of the table, counted as the table's own elements.
use Rattle.std.specs.Prelude.{◌≡◌, refl, Bool, cond, List, [], ◌∷◌, ℕ, suc, ◌+◌, ◌<◌, length, get_or, count_by}
use Rattle.std.proofs.Common.{sym, ap, ap₂, ◌∙◌, arith}
use Rattle.std.proofs.lemmas.List.Sums.{sum_by-cons}
use Rattle.rules.specs.Lists.{tabulate, count, below}
use Rattle.rules.proofs.Laws.Lists.{get_d_default}
use Rattle.rules.specs.Chain.{chains}
use Rattle.chains.specs.Group.{used, free_chain}
use Rattle.board.specs.declared.goban.Board.{Board}
use Rattle.board.specs.Board.{chain_in, colours_of}
use Rattle.board.specs.True.{TrueBoard}
use Rattle.board.specs.Laws.Stones.{used_below, used_below-all}

module _ {A : Type 0} (f : A → Bool) where
  count-by : (xs : List A) → count_by f xs ≡ count f xs
  count-by [] = refl
  count-by (x ∷ xs) = sum_by-cons (λ y. cond (f y) 1 0) x xs ∙ ap (λ (n : ℕ). cond (f x) 1 0 + n) (count-by xs)

  -- a list is counted by its places
  by-place : (xs : List A) (i : ℕ) (g : ℕ → Bool) → ((k : ℕ) (d : A) → k < length xs → g (i + k) ≡ f (get_or xs k d)) → count f xs ≡ count g (tabulate (λ j. j) i (length xs))
  by-place [] i g same = refl
  by-place (x ∷ xs) i g same =
      ap₂ (λ (t : Bool) (n : ℕ). cond t 1 0 + n) (sym (ap g (omega arith) ∙ same 0 x (omega arith)))
      (by-place xs (suc i) g (λ k d l. ap g (omega arith) ∙ same (suc k) d (omega arith)))

pub used-chains : (b : Board) → TrueBoard b → count_by used b.chains ≡ chains b.height b.width (colours_of b)
unfolding used_below below chain_in
used-chains b is =
    count-by used b.chains
    ∙ by-place used b.chains 0 (λ s. used (chain_in b s))
    (λ k d l. ap (λ (s : ℕ). used (get_or b.chains s free_chain)) (omega arith) ∙ ap used (get_d_default b.chains k free_chain d l))
    ∙ ap (used_below b) is.table.shape.chains
    ∙ used_below-all b is
