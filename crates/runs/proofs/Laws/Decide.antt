-- A desk is sound or it is not.
use Rattle.std.specs.Prelude.{◌⊎◌, length}
use Rattle.checking.specs.Laws.State.{room-or-not}
use Rattle.runs.specs.Runs.{Desk, Sound}

pub sound-told : (d : Desk) → Sound d ⊎ (¬ Sound d)
unfolding Sound
sound-told d = room-or-not d.game (length d.bytes)
