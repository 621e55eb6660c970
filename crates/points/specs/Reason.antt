-- The reasons of the code, read as the answers of 01's table.
use Rattle.std.specs.declared.result.Result.{Result}
use Rattle.std.specs.declared.result.Result.TheVariants.{Ok, Err}
use Rattle.rules.specs.Answers as rules
use Rattle.points.specs.declared.answers.Refusal.{Refusal}
use Rattle.points.specs.declared.answers.Refusal.TheVariants.{BadSize, BadFlags, Damaged, GamePaused, OffBoard, PointNotEmpty, Suicide, Ko, SuperKo, FillEye, MoveLimit, HistoryFull, NotAtStart, NoLiberty, BadLength, BadColour, BadKind}

abbrev pub reason : Refusal → rules.Answer
reason BadSize = rules.BadSize
reason BadFlags = rules.BadFlags
reason Damaged = rules.Damaged
reason GamePaused = rules.GamePaused
reason OffBoard = rules.OffBoard
reason PointNotEmpty = rules.PointNotEmpty
reason Suicide = rules.Suicide
reason Ko = rules.Ko
reason SuperKo = rules.SuperKo
reason FillEye = rules.FillEye
reason MoveLimit = rules.MoveLimit
reason HistoryFull = rules.HistoryFull
reason NotAtStart = rules.NotAtStart
reason NoLiberty = rules.NoLiberty
reason BadLength = rules.BadLength
reason BadColour = rules.BadColour
reason BadKind = rules.BadKind

-- the call is accepted, or refused for this reason
abbrev pub answer_of : Result Unit Refusal → rules.Answer
answer_of (Ok t) = rules.Accepted
answer_of (Err r) = reason r
