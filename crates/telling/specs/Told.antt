-- What the functions of the desk promise: the text that they put behind what was there, and what they did beside.
use Rattle.std.specs.Prelude.{◌≡◌, List, ◌++◌, ℕ, ◌≤◌, length}
use Rattle.game.specs.declared.state.Game.{Game}
use Rattle.lines.specs.Command.{max_line}
use Rattle.writing.specs.Figures.{decimal}
use Rattle.telling.specs.declared.calls.Told.{Told}
use Rattle.telling.specs.Reply.{Reply}

-- a number was told, of this game and this many bytes
pub record Tells (answer : ℕ) (g : Game) (lent : ℕ) (before : List ℕ) (r : Told) (after : List ℕ) : Type 0 where
  pub game : r.game ≡ g
  pub lends : r.lent ≡ lent
  pub written : after ≡ before ++ decimal answer
  pub short : length (decimal answer) ≤ max_line

-- the text that was written, and what was done beside
pub record Acted (does : Reply → Type 0) (before : List ℕ) (r : Told) (bytes after : List ℕ) : Type 0 where
  pub text : List ℕ
  pub written : after ≡ before ++ text
  pub short : length text ≤ max_line
  pub done : does (record { text = text; game = r.game; lent = r.lent; bytes = bytes })

-- the same for whatever history of this length is lent: the bytes stay as they are
unfoldable pub Unlent : (List ℕ → Reply → Type 0) → ℕ → List ℕ → Told → List ℕ → Type 0
Unlent does lent before r after = (bytes : List ℕ) → lent ≡ length bytes → Acted (does bytes) before r bytes after
