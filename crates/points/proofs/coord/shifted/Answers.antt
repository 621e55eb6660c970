-- `shifted` meets its contract: the code and the definition make the same tests. Assumes nothing.
use borrow.Author.Tests.{lt-ltb, le-ltb}
use Prim.Native.Nat.{◌+◌}
use native.Mathlib.Omega.{arith}
use Rattle.rules.specs.Points.{shifted}
use Rattle.points.proofs.Grid.{back_is}
use Rattle.points.proofs.coord.shifted.Goals as goal

pub returns-then-n-x : goal.returns-then-n-x
unfolding shifted
returns-then-n-x c = rw (c.in-Forth.is, le-ltb (c.args.x + 1) c.args.n (omega arith))

pub returns-then-x-n : goal.returns-then-x-n
unfolding shifted
returns-then-x-n c = rw (c.in-Forth.is, lt-ltb _ _ c.if-x-n.true)

pub returns-in-Stay : goal.returns-in-Stay
unfolding shifted
returns-in-Stay c = rw c.in-Stay.is

pub returns-else-x-n : goal.returns-else-x-n
unfolding shifted
returns-else-x-n c = rw (c.in-Forth.is, le-ltb _ _ c.if-x-n.false)

pub returns-in-Back : goal.returns-in-Back
unfolding shifted
returns-in-Back c = rw c.in-Back.is (back_is c.checked_sub.result c.args.x c.checked_sub.ensures)
