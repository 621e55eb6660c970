-- No room decides, or the numbers do.
use Rattle.rules.proofs.Laws.Lists.{not-both}
use Rattle.game.specs.View.{RoomIn}
use Rattle.game.proofs.judge.judge_with.Goals as goal

pub returns-then-has_room : goal.returns-then-has_room
unfolding RoomIn
returns-then-has_room c = record { sound = λ t. (c.judge_state.ensures.sound t, c.has_room.ensures.sound c.if-has_room.true); complete = λ both. c.judge_state.ensures.complete both.0 }

pub returns-else-has_room : goal.returns-else-has_room
unfolding RoomIn
returns-else-has_room c = record { sound = λ t. absurd (not-both t c.if-has_room.false); complete = λ both. c.has_room.ensures.complete both.1 }
