-- The comparison is the bound.
use borrow.Author.Tests.{leb-true, le-leb}
use Rattle.game.proofs.judge.has_room.Goals as goal

pub returns : goal.returns
returns c = record { sound = leb-true _ _; complete = le-leb _ _ }
