-- What `walk` writes for a chain of an exact table: its whole ring, so all its stones and no more.
use mathlib.Core.Path.{◌≡◌, refl, ap, ap₂, ◌∙◌}
use mathlib.Core.List.{List, ◌++◌}
use Prim.Native.Nat.{ℕ, ◌≤◌, ◌<◌}
use native.Mathlib.Omega.{arith}
use lib.Dec.{eqb}
use lib.ListN.{get_or, take}
use lib.Seq.{take_at}
use Rattle.rules.specs.Sizes.{max_area}
use Rattle.rules.specs.Lists.{below}
use Rattle.rules.specs.Points.{area}
use Rattle.rules.proofs.Laws.Lists.{length-below}
use Rattle.rules.proofs.Laws.Counting.{count_most}
use Rattle.chains.specs.Walk.{stepped, walked, walk_length}
use Rattle.chains.specs.Laws.Walk.{length-walked, get_or-walked, walk_length-whole}
use Rattle.rules.proofs.Laws.Lists.{get_d_default}
use Rattle.chains.specs.declared.group.Chain.{Chain}
use Rattle.chains.specs.Group.{free_chain}
use Rattle.board.specs.declared.goban.Board.{Board}
use Rattle.board.specs.Board.{owner, chain_in}
use Rattle.board.specs.True.{ExactChain}
use Rattle.board.specs.Laws.Board.{area-fits}
use Rattle.steps.specs.Links.{Walkable}
use Rattle.steps.specs.Removing.{Removing, Points}
use Rattle.steps.specs.Laws.Ring.{ring, owned-within}

module _ (b : Board) (s : ℕ) (is : Removing b s) where
  chain : ExactChain b s
  chain = is.table.exact s is.low is.is-used

  -- no more stones than the largest board has points
  count_fits : (chain_in b s).count ≤ max_area
  count_fits =
      let most = count_most (λ p. eqb (owner b p) s) (below (area b.height b.width)) in
      let long = length-below (area b.height b.width) in
      let fits = area-fits is.table.size in
      omega (arith, chain.counted)

  step-on : (k : ℕ) → k < (chain_in b s).count → stepped b.next (chain_in b s).origin k < max_area
  step-on k l = owned-within b is.table s is.low is.is-used (stepped b.next (chain_in b s).origin k) (chain.linked k l)

  pub walkable :
      (next : List ℕ) (c : Chain) → next ≡ b.next → c ≡ chain_in b s → Walkable next c.origin c.count × (walked next c.origin c.count ≡ ring b s)
  walkable next c kept is = rw (kept, is) (record { points = step-on }, refl)

  -- the chain that is read is the slot's, whatever is read past the end
  pub read : (past : Chain) → get_or b.chains s past ≡ chain_in b s
  unfolding chain_in
  read past = get_d_default b.chains s past free_chain (omega (arith, is.low, is.table.shape.chains))

  pub ring-points : Points (ring b s)
  ring-points = record {
    each = λ k l.
        let low : k < (chain_in b s).count = omega (arith, length-walked b.next (chain_in b s).origin (chain_in b s).count) in
        rw (get_or-walked b.next (chain_in b s).origin (chain_in b s).count k 0 low) (step-on k low);
  }

  module _ (origin count n : ℕ) (stones : List ℕ) (from : origin ≡ (chain_in b s).origin) (many : count ≡ (chain_in b s).count)
      (wrote : n ≡ walk_length b.next origin count) where
    wrote-all : n ≡ (chain_in b s).count
    wrote-all =
        wrote ∙ ap₂ (λ (o m : ℕ). walk_length b.next o m) from many
        ∙ walk_length-whole b.next (chain_in b s).origin (chain_in b s).count count_fits step-on

    pub wrote-ring : (rest : List ℕ) → stones ≡ walked b.next origin n ++ rest → take n stones ≡ ring b s
    wrote-ring rest written =
        ap (take n) written ∙ take_at (walked b.next origin n) rest n (length-walked b.next origin n)
        ∙ ap₂ (walked b.next) from wrote-all
