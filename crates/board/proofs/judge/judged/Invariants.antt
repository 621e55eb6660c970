-- After some slots those passed are free or good, their stones noted and counted.
use mathlib.Core.List.{List}
use Prim.Native.Nat.{ℕ}
use Rattle.rules.specs.Colours.{black, white}
use Rattle.board.specs.declared.goban.Board.{Board}
use Rattle.board.specs.Laws.Verdict.{Judging}
use Rattle.board.proofs.Counting.{Counting}
use Rattle.board.proofs.judge.judged.Given as goal

abbrev pub Passing : Board → List ℕ → List ℕ → ℕ → ℕ → ℕ → ℕ → Type 0
Passing b notes queue hash blacks whites slot = Judging b notes queue hash slot × Counting b black blacks slot × Counting b white whites slot

abbrev pub invariant-loop-slot : goal.invariant-loop-slot
invariant-loop-slot l = Passing l.board l.notes l.queue l.hash l.black l.white l.slot
