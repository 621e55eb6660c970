-- What the judge's notes say after all slots, over plain values.
use mathlib.Core.Path.{◌≡◌, sym, ap, ◌∙◌}
use mathlib.Core.Bool.{Bool, true}
use mathlib.Core.List.{List, []}
use Prim.Native.Nat.{ℕ, ◌≤◌, ◌<◌}
use native.Mathlib.Omega.{arith}
use lib.Dec.{eqb}
use lib.ListN.{get_or}
use Rattle.rules.specs.Sizes.{max_area, slots}
use Rattle.rules.specs.Lists.{all, below}
use Rattle.rules.specs.Calls.{side_ok}
use Rattle.rules.proofs.Laws.Lists.{get_d_default}
use Rattle.chains.specs.declared.group.Chain.{Chain}
use Rattle.chains.specs.Group.{free_chain}
use Rattle.board.specs.declared.goban.Board.{Board}
use Rattle.board.specs.Board.{owner, chain_in}
use Rattle.board.specs.True.{Shaped}
use Rattle.owning.specs.Owners.{owner_in, placed}
use Rattle.flooding.specs.Flood.{hash_of}
use Rattle.board.specs.Judge.{noted, judged}
use Rattle.board.specs.Laws.Verdict.{Judging, notes-all, seen_good, rows_good, columns_good, hash-decides}

-- what is read past the end of an array of chains
abbrev pub past : Chain
past = record { liberties = []; colour = 0; origin = 0; last = 0; count = 0 }

pub chain-at : (b : Board) → Shaped b → (slot : ℕ) → slot < slots → get_or b.chains slot past ≡ chain_in b slot
unfolding chain_in
chain-at b shape slot low = get_d_default b.chains slot past free_chain (omega (arith, shape.chains))

module _ (b : Board) (shape : Shaped b) (on : all (placed b.height b.width (owner b)) (below max_area) ≡ true)
    {notes queue : List ℕ} {sum slot : ℕ} (judging : Judging b notes queue sum slot) (end : slots ≤ slot) where
  -- a test of the notes is that of what is noted of the points
  pub noted-says : (f : Board → (ℕ → ℕ) → Bool) {r v : Bool} → r ≡ f b (owner_in notes) → r ≡ v → f b (noted b slots) ≡ v
  noted-says f e v = ap (f b) (sym (notes-all b shape on judging end)) ∙ sym e ∙ v

  pub decides :
      side_ok b.height ≡ true → side_ok b.width ≡ true → seen_good b (noted b slots) ≡ true → rows_good b (noted b slots) ≡ true
      → columns_good b (noted b slots) ≡ true → judged b ≡ eqb b.hash sum
  decides tall wide seen rows columns =
      hash-decides b tall wide on (λ s l. judging.good s (omega (arith, end))) seen rows columns
      ∙ sym (ap (eqb b.hash) (judging.hashed ∙ ap (hash_of b.height b.width) (notes-all b shape on judging end)))
