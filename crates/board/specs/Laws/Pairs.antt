-- Points side by side in pairs: one of them lies left of the other or above it.
use Rattle.std.specs.Prelude.{◌≡◌, ◌≢◌, ◌⊎◌, ℕ, ◌+◌, ◌-◌, ◌*◌, ◌≤◌, ◌<◌}
use Rattle.std.proofs.Common.{sym, ap, ◌∙◌, inl, inr, ⊎_elim, add-one, suc-mul, arith}
use mathlib.Core.List.Memᴰ.{head}
use mathlib.Core.List.Memᴰ.{tail}
use mathlib.Core.List.{Memᴰ}
use Rattle.rules.specs.Points.{area, index, row, column, NextTo, sides, neighbours}
use Rattle.rules.proofs.Laws.Lists.{mem-present}
use Rattle.rules.proofs.Laws.Points.{index-row-column, neighbours-adjacent}
use Rattle.flooding.specs.Laws.Edges.{above-some, left-some}

module _ (h w p : ℕ) (on : p < area h w) where
  pub beside-left : column w p ≢ 0 → Memᴰ (p - 1) (neighbours h w p)
  unfolding neighbours sides
  beside-left n = mem-present (sides h w p) (tail (tail (tail (head (sym (left-some h w p on n))))))

  pub beside-above : w ≤ p → Memᴰ (p - w) (neighbours h w p)
  unfolding neighbours sides
  beside-above l = mem-present (sides h w p) (tail (head (sym (above-some h w p on l))))

-- q lies left of p, or above
abbrev pub Before : ℕ → ℕ → ℕ → Type 0
Before w p q = ((column w p ≢ 0) × (q ≡ p - 1)) ⊎ ((w ≤ p) × (q ≡ p - w))

pub beside-pair : (h w p q : ℕ) → Memᴰ q (neighbours h w p) → Before w p q ⊎ Before w q p
unfolding index NextTo
beside-pair h w p q m = ⊎_elim in_row in-column ((neighbours-adjacent h w p q).0 m).beside
  where
    place : (x : ℕ) → row w x * w + column w x ≡ x
    place x = index-row-column w x

    in_row : (row w p ≡ row w q) × NextTo (column w p) (column w q) → Before w p q ⊎ Before w q p
    in_row (r, c) =
        let same = ap (λ (x : ℕ). x * w) r in
        ⊎_elim (λ e. inr (inl (omega arith, omega (arith, place p, place q)))) (λ e. inl (inl (omega arith, omega (arith, place p, place q)))) c

    in-column : (column w p ≡ column w q) × NextTo (row w p) (row w q) → Before w p q ⊎ Before w q p
    in-column (c, r) =
        ⊎_elim
        (λ e. let next : row w q * w ≡ row w p * w + w = ap (λ (x : ℕ). x * w) (sym e ∙ add-one (row w p)) ∙ suc-mul (row w p) w in
        inr (inr (omega (arith, place q), omega (arith, place p, place q))))
        (λ e. let next : row w p * w ≡ row w q * w + w = ap (λ (x : ℕ). x * w) (sym e ∙ add-one (row w q)) ∙ suc-mul (row w q) w in
        inl (inr (omega (arith, place p), omega (arith, place p, place q))))
        r
