use Rattle.std.proofs.Common.{◌≡◌, ◌+◌, ◌∙◌, ap, ap₂, sym, refl, List, ℕ, set, get_or, add-one}
use Rattle.chains.specs.Walk.{stepped, walked}
use Rattle.chains.specs.Laws.Walk.{walked-suc}
use Rattle.steps.specs.Steps.{owning}
use Rattle.steps.specs.Laws.Ring.{owning-snoc}
use Rattle.steps.proofs.join.own.Invariants.{Walking}
use Rattle.steps.proofs.join.own.Goals as goal

turn : (owners₀ next : List ℕ) (origin slot : ℕ) (owners : List ℕ) (point n : ℕ)
    → Walking owners₀ next origin slot owners point n → (link : ℕ) → link ≡ get_or next point 0
    → Walking owners₀ next origin slot (set owners point slot) link (n + 1)
turn owners₀ next origin slot owners point n w link e = record {
  here = rw add-one (e ∙ ap (λ (p : ℕ). get_or next p 0) w.here);
  given =
      ap₂ (λ (d : List ℕ) (p : ℕ). set d p slot) w.given w.here
      ∙ sym (owning-snoc slot (walked next origin n) owners₀ (stepped next origin n))
      ∙ ap (λ (ps : List ℕ). owning slot ps owners₀) (sym (ap (walked next origin) (add-one n) ∙ walked-suc next origin n));
}

pub loop-init : goal.loop-init
unfolding walked
loop-init c = record { here = refl; given = refl }

pub loop-preserved : goal.loop-preserved
loop-preserved c = turn _ _ _ _ _ _ _ c.loop.invariant _ c.index-point-in-loop.ensures
