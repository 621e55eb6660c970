-- How many chains can stand where each has a liberty: four fifths of the points. A chain is named by its first stone.
use Rattle.std.specs.Prelude.{◌≡◌, refl, Bool, true, not, ◌≢◌, ℕ, ◌*◌, ◌≤◌, ◌<◌, eqb, ltb}
use Rattle.std.proofs.Common.{sym, ◌∙◌, subst}
use mathlib.Core.List.{List, Memᴰ}
use Rattle.std.proofs.Math.Logic.{⊎_elim}
use Rattle.std.proofs.Math.Nat.{mul-le-mul}
use native.Mathlib.Omega.{arith}
use borrow.Author.Tests.{eqb-false, ltb-true, ltb-false, not-true}
use Rattle.rules.specs.Sizes.{max_side, max_chains}
use Rattle.rules.specs.Lists.{any, pick, below}
use Rattle.rules.specs.Colours.{empty, at}
use Rattle.rules.specs.Points.{area, neighbours}
use Rattle.rules.specs.Reach.{Walk, here}
use Rattle.rules.specs.Flood.{chain, marked}
use Rattle.rules.specs.Chain.{liberty, liberties, leads, chains}
use Rattle.rules.proofs.Laws.Lists.{and_left, and_right, not-both, decided, mem_below, below-mem, length-below, any-yes, any_some, pick-mem, mem-pick, count-some}
use Rattle.rules.proofs.Laws.Counting.{below-distinct, pick-distinct, length-pick, count-not, names-most}
use Rattle.rules.proofs.Laws.Points.{neighbours-few, neighbours-sym}
use Rattle.rules.proofs.Laws.Reach.{walk-last, walk-join, walk-reverse}
use Rattle.rules.proofs.Laws.Flood.{chain-marks}

module _ (h w : ℕ) (cols : List ℕ) where
  abbrev points : List ℕ
  points = below (area h w)

  abbrev vacant : ℕ → Bool
  vacant p = eqb (at cols p) empty

  abbrev stone : ℕ → Bool
  stone p = not (vacant p)

  -- s belongs to the chain of p
  abbrev member : ℕ → ℕ → Bool
  member p = marked (chain h w cols p)

  -- ---- The first stone of a chain

  leads-stone : (o : ℕ) → leads h w cols o ≡ true → stone o ≡ true
  unfolding leads
  leads-stone o e = and_left (stone o) (not (any (member o) (below o))) e

  leads-first : (o s : ℕ) → leads h w cols o ≡ true → member o s ≡ true → o ≤ s
  unfolding leads
  leads-first o s e m =
      let none = not-true (any (member o) (below o)) (and_right (stone o) (not (any (member o) (below o))) e) in
      ⊎_elim (λ t. absurd (not-both (any-yes (member o) (mem_below o s (ltb-true s o t)) m) none)) (ltb-false s o) (decided (ltb s o))

  -- chains that meet are one
  pub chain-meets : (o o' s : ℕ) → marked (chain h w cols o) s ≡ true → marked (chain h w cols o') s ≡ true → marked (chain h w cols o) o' ≡ true
  chain-meets o o' s m m' =
      let (on, v) = (chain-marks h w cols o s).0 m in
      let v' = ((chain-marks h w cols o' s).0 m').1 in
      let colour = sym (walk-last v') ∙ walk-last v in
      (chain-marks h w cols o o').1
      (on, walk-join v (subst (λ (c : ℕ). Walk (neighbours h w) (at cols) c s o') colour (walk-reverse (neighbours-sym h w) v')))

  -- ---- The names of the chains

  -- o names the chain of s: it leads, and s belongs to its chain
  abbrev Named : ℕ → ℕ → Type 0
  Named o s = (leads h w cols o ≡ true) × (member o s ≡ true)

  one_name : (o o' s : ℕ) → Named o s → Named o' s → o ≡ o'
  one_name o o' s (l, m) (l', m') =
      omega (arith, leads-first o o' l (chain-meets o o' s m m'), leads-first o' o l' (chain-meets o' o s m' m))

  abbrev names : List ℕ
  names = pick (leads h w cols) points

  named-stone : (o : ℕ) → Memᴰ o names → (s : ℕ) × Memᴰ s (pick stone points) × Named o s
  named-stone o m =
      let (n, l) = pick-mem (leads h w cols) points m in
      (o, mem-pick stone n (leads-stone o l), (l, (chain-marks h w cols o o).1 (below-mem (area h w) o n, here refl)))

  module _ (free : (p : ℕ) → p < area h w → at cols p ≢ empty → 0 < liberties h w cols p) where
    named-liberty : (o : ℕ) → Memᴰ o names → (q s : ℕ) × Memᴰ q (pick vacant points) × Memᴰ s (neighbours h w q) × Named o s
    unfolding liberties liberty
    named-liberty o m =
        let (n, l) = pick-mem (leads h w cols) points m in
        let Has-one = free o (below-mem (area h w) o n) (eqb-false (at cols o) empty (not-true (vacant o) (leads-stone o l))) in
        let (q, on, e) = count-some (liberty h w cols (chain h w cols o)) points Has-one in
        let beside = any (member o) (neighbours h w q) in
        let (s, next, belongs) = any_some (member o) (neighbours h w q) (and_right (vacant q) beside e) in
        (q, s, mem-pick vacant on (and_left (vacant q) beside e), next, (l, belongs))

    -- ---- The bound

    pub chains-bound : 5 * chains h w cols ≤ 4 * area h w
    unfolding chains
    chains-bound =
        omega (
          arith,
          names-most (neighbours h w) (neighbours-few h w) Named one_name names (pick stone points) (pick vacant points)
              (pick-distinct (leads h w cols) points (below-distinct (area h w)))
              named-stone named-liberty,
          length-pick (leads h w cols) points,
          length-pick stone points,
          length-pick vacant points,
          count-not vacant points,
          length-below (area h w),
        )

    -- the slots of the largest board suffice
    pub chains-fit : h ≤ max_side → w ≤ max_side → chains h w cols ≤ max_chains
    unfolding area
    chains-fit tall wide = omega (arith, chains-bound, mul-le-mul tall wide)
