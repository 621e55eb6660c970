-- The answers of a call, under the names of 01's table, and their numbers.
use Rattle.std.specs.Prelude.{Bool, cond, ℕ, eqb}

-- the KO step and the superko step are two reasons
pub data Answer : Type 0 where
  Accepted BadSize BadFlags Damaged GamePaused OffBoard PointNotEmpty Suicide Ko SuperKo FillEye MoveLimit HistoryFull : Answer
  NotAtStart NoLiberty BadLength BadColour BadKind : Answer

unfoldable pub number : Answer → ℕ
number Accepted = 0
number BadSize = 1
number BadFlags = 2
number Damaged = 3
number GamePaused = 4
number OffBoard = 5
number PointNotEmpty = 6
number Suicide = 7
number Ko = 8
number SuperKo = 8
number FillEye = 9
number MoveLimit = 10
number HistoryFull = 11
number NotAtStart = 12
number NoLiberty = 13
number BadLength = 14
number BadColour = 15
number BadKind = 18

-- the call is accepted
unfoldable pub accepts : Answer → Bool
accepts a = eqb (number a) 0

-- the first answer if it refuses, else the second: the order of 01's tests
unfoldable pub ◌then◌ : Answer → Answer → Answer
a then b = cond (accepts a) b a

infixr 20 ◌then◌
-- refuses with this answer if the test holds
unfoldable pub refuse : Answer → Bool → Answer
refuse a test = cond test a Accepted
