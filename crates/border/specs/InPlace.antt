-- A replay in place: what it answers, and the game as it stands afterwards, are a replay's result.
use Rattle.game.specs.declared.state.Game.{Game}
use Rattle.replaying.specs.declared.replay.Replayed.{Replayed}
use Rattle.border.specs.declared.in_place.ReplayedInPlace.{ReplayedInPlace}

abbrev pub whole : ReplayedInPlace → Game → Replayed
whole r g = record { entries = r.entries; answer = r.answer; game = g }
