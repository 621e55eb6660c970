-- Before each entry those before it were accepted, and what is known of the colours is the board's.
use Rattle.std.specs.Prelude.{◌≡◌, List, ℕ}
use Rattle.laying.specs.declared.lay.Laid.{Laid}
use Rattle.looking.specs.Seen.{Partly}
use Rattle.game.specs.declared.state.Game.{Game}
use Rattle.game.specs.declared.clock.Clock.{Clock}
use Rattle.game.specs.Clock.{game_of}
use Rattle.replaying.specs.declared.replay.Move.{Move}
use Rattle.replaying.specs.Laws.Replay.{SoFar}
use Rattle.replaying.proofs.replay.replay.Given as goal

pub record Going (g₀ : Game) (bytes₀ : List ℕ) (moves : List Move) (laid : Laid) (clock : Clock) (answer accepted index read : ℕ) (colours bytes : List ℕ) : Type 0 where
  pub counted : accepted ≡ index
  pub so_far : SoFar g₀ bytes₀ moves index (game_of laid.board clock) bytes
  pub drawn : Partly laid.board read colours
  pub unrefused : answer ≡ 0

abbrev pub invariant-loop-entry : goal.invariant-loop-entry
invariant-loop-entry l = Going l.fn.game l.fn.history l.moves l.laid l.clock l.answer l.accepted l.entry-index l.read l.colours l.history
