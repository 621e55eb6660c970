-- Laws of Chain: what a liberty of a chain is, and that a stone reaches empty where its chain has a liberty.
use Rattle.std.specs.Prelude.{◌≡◌, true, ◌↔◌, ◌≢◌, ℕ, ◌<◌, eqb}
use mathlib.Core.List.{List, Memᴰ}
use borrow.Author.Tests.{eqb-true, eq-eqb}
use Rattle.rules.specs.Lists.{below}
use Rattle.rules.specs.Colours.{empty, at}
use Rattle.rules.specs.Points.{area, neighbours}
use Rattle.rules.specs.Reach.{Walk, Reaches}
use Rattle.rules.specs.Flood.{chain, marked}
use Rattle.rules.specs.Chain.{liberty, liberties}
use Rattle.rules.proofs.Laws.Lists.{and_left, and_right, and_both, any-yes, any_some, mem_below, count-some, count-positive}
use Rattle.rules.proofs.Laws.Points.{neighbours-sym, neighbours-on}
use Rattle.rules.proofs.Laws.Flood.{chain-marks, walk_from}

module _ (h w : ℕ) (cols : List ℕ) (p : ℕ) where
  pub liberty-of-chain :
      (q : ℕ) →
      liberty h w cols (chain h w cols p) q ≡ true
      ↔ ((at cols q ≡ empty) × ((r : ℕ) × Memᴰ r (neighbours h w q) × Walk (neighbours h w) (at cols) (at cols p) p r))
  unfolding liberty
  liberty-of-chain q = (
    λ y.
        let (r, m, k) = any_some (marked (chain h w cols p)) (neighbours h w q) (and_right (eqb (at cols q) empty) _ y) in (
          eqb-true (at cols q) empty (and_left _ _ y),
          (r, m, ((chain-marks h w cols p r).0 k).1),
        ),
    λ l.
        let (r, m, v) = l.1 in
        and_both (eq-eqb (at cols q) empty l.0)
        (any-yes (marked (chain h w cols p)) m ((chain-marks h w cols p r).1 (walk_from h w cols v (neighbours-on h w q r m), v))),
  )

  pub liberties-reaches : at cols p ≢ empty → 0 < liberties h w cols p ↔ Reaches (neighbours h w) (at cols) p empty
  unfolding liberties
  liberties-reaches stone = (
    λ l.
        let (q, i, y) = count-some (liberty h w cols (chain h w cols p)) (below (area h w)) l in
        let (e, s) = (liberty-of-chain q).0 y in
        record { apart = stone; last = s.0; walk = s.2; target = q; next = neighbours-sym h w q s.0 s.1; there = e },
    λ r.
        count-positive (liberty h w cols (chain h w cols p)) (mem_below (area h w) r.target (neighbours-on h w r.last r.target r.next))
        ((liberty-of-chain r.target).1 (r.there, (r.last, neighbours-sym h w r.last r.target r.next, r.walk))),
  )
