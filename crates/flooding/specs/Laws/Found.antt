-- Laws of what is found from a point: it says that a walk by the slot's points leads there.
use Rattle.std.specs.Prelude.{◌≡◌, Bool, false, ◌↔◌, ◌≢◌}
use Rattle.std.proofs.Math.Path.{refl, ap, subst, fun_ext}
use Rattle.std.proofs.Math.Bool.{true}
use mathlib.Core.List.Memᴰ.{eq_of_singleton}
use mathlib.Core.List.Memᴰ.{head}
use mathlib.Core.List.{[], ◌∷◌, Memᴰ}
use Prim.Native.Nat.{ℕ, ◌≤◌, ◌<◌}
use Rattle.std.proofs.Common.{arith}
use Rattle.std.proofs.Math.Dec.{eqb}
use Rattle.rules.specs.Sizes.{slots}
use Rattle.rules.specs.Points.{area, neighbours}
use Rattle.rules.specs.Reach.{Walk, here, step}
use Rattle.rules.specs.Flood.{flooded, marked}
use Rattle.rules.proofs.Laws.Lists.{and_right, not_yes, any_some}
use Rattle.rules.proofs.Laws.Points.{neighbours-on, neighbours-from, neighbours-few}
use Rattle.rules.proofs.Laws.Reach.{walk-last}
use Rattle.rules.proofs.Laws.Run.{flooded-marks}
use Rattle.rules.proofs.Laws.Flood.{eqb-means}
use Rattle.flooding.specs.Flood.{found, shore}

module _ (h w : ℕ) where
  -- a walk that began on the board ends on it
  walk-to : {own : ℕ → ℕ} {s o p : ℕ} → Walk (neighbours h w) own s o p → o < area h w → p < area h w
  walk-to (here e) l = l
  walk-to (step {p} {q} e m v) l = walk-to v (neighbours-on h w p q m)

  module _ (own : ℕ → ℕ) (s o p : ℕ) where
    pub found-says : found h w own s o p ≡ true ↔ ((o < area h w) × Walk (neighbours h w) own s o p)
    unfolding found
    found-says = (
      λ e.
          let t = flood.0 e in
          subst (λ (x : ℕ). (x < area h w) × Walk (neighbours h w) own s x p) (eq_of_singleton t.1) (t.2, t.3),
      λ t. flood.1 (o, head refl, t.0, t.1),
    )
      where
        flood :
            marked (flooded (neighbours h w) (λ q. eqb (own q) s) (area h w) (o ∷ [])) p ≡ true
            ↔ ((t : ℕ) × Memᴰ t (o ∷ []) × (t < area h w) × Walk (neighbours h w) own s t p)
        flood = flooded-marks (eqb-means own s) (area h w) (neighbours-on h w) (neighbours-few h w) (o ∷ []) p

    pub found-owner : found h w own s o p ≡ true → own p ≡ s
    found-owner t = walk-last (found-says.0 t).1

    pub found-on : found h w own s o p ≡ true → p < area h w
    found-on t = let (l, v) = found-says.0 t in walk-to v l

    pub found-not : own p ≢ s → found h w own s o p ≡ false
    found-not n = not_yes (λ t. n (found-owner t))

  -- owners that agree on the slot find the same
  pub found-same : (own own' : ℕ → ℕ) (s o : ℕ) → ((p : ℕ) → eqb (own p) s ≡ eqb (own' p) s) → found h w own s o ≡ found h w own' s o
  unfolding found
  found-same own own' s o same = ap {B = ℕ → Bool} (λ (pass : ℕ → Bool) (p : ℕ). marked (flooded (neighbours h w) pass (area h w) (o ∷ [])) p) (fun_ext same)

  -- a point off the board has nothing beside it
  pub shore-off : (own : ℕ → ℕ) (f : ℕ → Bool) (q : ℕ) → area h w ≤ q → shore h w own f q ≡ false
  unfolding shore
  shore-off own f q off =
      not_yes
      (λ t.
      let (x, m, y) = any_some f (neighbours h w q) (and_right (eqb (own q) slots) _ t) in
      let on = neighbours-from h w q x m in
      omega arith)
