-- `steps::join::own`: after some turns the slot owns the first points of the walk, and `point` is the next.
use Rattle.std.proofs.Common.{◌≡◌, List, ℕ}
use Rattle.chains.specs.Walk.{stepped, walked}
use Rattle.steps.specs.Steps.{owning}
use Rattle.steps.proofs.join.own.Given as goal

pub record Walking (owners₀ next : List ℕ) (origin slot : ℕ) (owners : List ℕ) (point n : ℕ) : Type 0 where
  pub here : point ≡ stepped next origin n
  pub given : owners ≡ owning slot (walked next origin n) owners₀

abbrev pub invariant-loop : goal.invariant-loop
invariant-loop l = Walking l.initial.owners l.next l.initial.point l.slot l.owners l.point l.counter
