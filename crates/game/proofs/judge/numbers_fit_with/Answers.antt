-- No room decides, or the numbers do.
use Rattle.rules.proofs.Laws.Lists.{not-both}
use Rattle.game.specs.Clock.{game_of}
use Rattle.game.specs.View.{RoomIn}
use Rattle.game.proofs.judge.numbers_fit_with.Goals as goal

pub returns-then-has_room : goal.returns-then-has_room
unfolding game_of RoomIn
returns-then-has_room c b height width is =
    let fits = c.numbers_fit.ensures b height width is in
    record { sound = λ t. (fits.sound t, c.has_room.ensures.sound c.if-has_room.true); complete = λ both. fits.complete both.0 }

pub returns-else-has_room : goal.returns-else-has_room
unfolding game_of RoomIn
returns-else-has_room c b height width is =
    record { sound = λ t. absurd (not-both t c.if-has_room.false); complete = λ both. c.has_room.ensures.complete both.1 }
