-- What the writers of the state promise: the facts as text, and the whole state of a true game.
use Rattle.std.specs.Prelude.{◌≡◌, List, ◌++◌, ℕ, ◌+◌, ◌≤◌, length}
use Rattle.rules.specs.Answers.{Damaged, number}
use Rattle.game.specs.declared.state.Game.{Game}
use Rattle.game.specs.declared.asks.Facts.{Facts}
use Rattle.game.specs.View.{view_of, TrueState}
use Rattle.writing.specs.Figures.{decimal}
use Rattle.stating.specs.State.{facts, state}

-- all of the state but the rows
unfoldable pub told : Facts → List ℕ
told f = facts f.turn f.passes f.prisoners.white f.prisoners.black f.width f.ko f.outcome f.records

-- behind the text that was there before
pub record Stated (g : Game) (before after : List ℕ) : Type 0 where
  pub stated : TrueState g → after ≡ before ++ state (view_of g)
  pub damaged : ¬ TrueState g → after ≡ before ++ decimal (number Damaged)
  pub short : length after ≤ length before + 1024
