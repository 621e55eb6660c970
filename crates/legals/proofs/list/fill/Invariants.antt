-- `fill`: after some turns the legal points among the first stand at the front.
use mathlib.Core.Bool.{Bool}
use mathlib.Core.List.{List}
use Prim.Native.Nat.{ℕ, ◌≤◌}
use Rattle.rules.specs.Lists.{pick, below}
use Rattle.rules.specs.Points.{row, column}
use Rattle.rules.specs.Answers.{accepts}
use Rattle.rules.specs.Calls.{point_answer}
use Rattle.viewing.specs.Front.{Front}
use Rattle.game.specs.declared.state.Game.{Game}
use Rattle.game.specs.View.{view_of}
use Rattle.legals.proofs.list.fill.Given as goal

-- the rules' test of a point
abbrev pub legal-at : Game → List ℕ → ℕ → ℕ → Bool
legal-at g bytes flags p = accepts (point_answer (view_of g) bytes flags (row g.board.width p) (column g.board.width p))

abbrev pub invariant-loop-point : goal.invariant-loop-point
invariant-loop-point l = (l.count ≤ l.point) × Front (pick (legal-at l.game l.history l.flags) (below l.point)) l.initial.buffer l.count l.buffer
