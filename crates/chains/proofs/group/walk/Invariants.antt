-- `chains::group::walk`: after n turns the first n points are written, all of them points of the board, and `point` is the next.
use Rattle.std.proofs.Common.{◌≡◌, ◌++◌, ◌<◌, List, ℕ, drop}
use Rattle.rules.specs.Sizes.{max_area}
use Rattle.chains.specs.Walk.{stepped, walked}
use Rattle.chains.proofs.group.walk.Given as goal

pub record Walking (next : List ℕ) (origin : ℕ) (out₀ out : List ℕ) (point n : ℕ) : Type 0 where
  pub here : point ≡ stepped next origin n
  pub written : out ≡ walked next origin n ++ drop n out₀
  pub points : (k : ℕ) → k < n → stepped next origin k < max_area

abbrev pub invariant-loop-n : goal.invariant-loop-n
invariant-loop-n l = Walking l.next l.origin l.initial.out l.out l.point l.n
