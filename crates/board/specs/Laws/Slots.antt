-- At most 288 chains stand on a true board, so a slot is always free for the next stone: each chain is named by its slot, and has a
-- stone and a liberty.
use Rattle.std.specs.Prelude.{◌≡◌, Bool, ◌≢◌, ℕ, ◌≤◌}
use Rattle.std.proofs.Common.{sym, ◌∙◌, arith}
use Rattle.std.proofs.Math.Path.{ap}
use Rattle.std.proofs.Math.Bool.{not}
use mathlib.Core.List.{List, Memᴰ}
use Rattle.std.proofs.Math.Dec.{eqb}
use borrow.Author.Tests.{eqb-true, ne_eqb}
use Rattle.rules.specs.Sizes.{max_chains, slots}
use Rattle.rules.specs.Lists.{count, pick, below}
use Rattle.rules.specs.Points.{area, neighbours}
use Rattle.rules.proofs.Laws.Lists.{and_left, and_right, any_some, mem_below, below-mem, length-below, pick-mem, mem-pick, count-some}
use Rattle.rules.proofs.Laws.Counting.{below-distinct, pick-distinct, length-pick, count_none, count-not, leads-most}
use Rattle.rules.proofs.Laws.Points.{neighbours-few, neighbours-from}
use Rattle.std.specs.Prelude.{None}
use Rattle.chains.specs.Group.{used, first_free}
use Rattle.sets.specs.Liberties.{liberty_bits}
use Rattle.chains.specs.Laws.Group.{first_free-full}
use Rattle.sets.specs.Laws.Liberties.{number-set_of}
use Rattle.board.specs.declared.goban.Board.{Board}
use Rattle.board.specs.Board.{owner, chain_in}
use Rattle.board.specs.True.{liberty_of, TrueBoard}
use Rattle.board.specs.Laws.Board.{area-fits}

module _ (b : Board) (is : TrueBoard b) where
  abbrev points : List ℕ
  points = below (area b.height b.width)

  abbrev vacant : ℕ → Bool
  vacant p = eqb (owner b p) slots

  abbrev in_use : ℕ → Bool
  in_use s = used (chain_in b s)

  abbrev names : List ℕ
  names = pick in_use (below slots)

  named-stone : (s : ℕ) → Memᴰ s names → (p : ℕ) × Memᴰ p (pick (λ q. not (vacant q)) points) × (owner b p ≡ s)
  named-stone s m =
      let (i, y) = pick-mem in_use (below slots) m in
      let under = below-mem slots s i in
      let chain = is.table.exact s under y in
      let e = chain.origin in
      let n : owner b (chain_in b s).origin ≢ slots = λ (z : owner b (chain_in b s).origin ≡ slots). let same : s ≡ slots = sym e ∙ z in omega arith in
      let (on, _, _) = is.table.owned (chain_in b s).origin n in
      ((chain_in b s).origin, mem-pick (λ q. not (vacant q)) (mem_below _ _ on) (ap not (ne_eqb _ slots n)), e)

  named-liberty :
      (s : ℕ) → Memᴰ s names →
      (q p : ℕ) × Memᴰ q (pick vacant points) × Memᴰ p (neighbours b.height b.width q) × (owner b p ≡ s)
  unfolding liberty_of
  named-liberty s m =
      let (i, y) = pick-mem in_use (below slots) m in
      let under = below-mem slots s i in
      let chain = is.table.exact s under y in
      let some-liberty = is.breathes s under y in
      let (q, j, l) = count-some (liberty_of b s) (below liberty_bits) (rw (chain.liberties, number-set_of) at some-liberty) in
      let (p, k, e) = any_some (λ r. eqb (owner b r) s) (neighbours b.height b.width q) (and_right (vacant q) _ l) in
      (q, p, mem-pick vacant (mem_below _ q (neighbours-from _ _ q p k)) (and_left _ _ l), k, eqb-true (owner b p) s e)

  pub chains-few : count in_use (below slots) ≤ max_chains
  chains-few =
      omega (
        arith,
        leads-most (neighbours b.height b.width) (neighbours-few b.height b.width) (owner b) names (pick (λ q. not (vacant q)) points)
            (pick vacant points) (pick-distinct in_use (below slots) (below-distinct slots)) named-stone named-liberty,
        length-pick in_use (below slots),
        length-pick (λ q. not (vacant q)) points,
        length-pick vacant points,
        count-not vacant points,
        length-below (area b.height b.width),
        area-fits is.table.size,
      )

  pub slot-free : first_free 0 b.chains ≢ None
  unfolding chain_in
  slot-free full =
      let all-used : count (λ s. not (in_use s)) (below slots) ≡ 0 =
      count_none (λ s. not (in_use s)) (below slots)
      (λ s m. ap not (first_free-full 0 b.chains full s (rw is.table.shape.chains (below-mem slots s m)))) in
      omega (arith, chains-few, count-not in_use (below slots), length-below slots)
