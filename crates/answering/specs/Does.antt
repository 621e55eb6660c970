-- What a line does at the desk, by what it means: each command is the rules' call of its name, at the numbers that the line writes.
use Rattle.std.specs.Prelude.{◌≡◌, List, [], ◌∷◌, ◌++◌, ℕ, ◌+◌, ◌≤◌, ◌<◌, length}
use Rattle.rules.specs.Calls as rules
use Rattle.game.specs.declared.state.Game.{Game}
use Rattle.game.specs.View.{view_of, turn_of}
use Rattle.spelling.specs.Text.{text_of}
use Rattle.lines.specs.Command.{Command, max_line, meaning}
use Rattle.lines.specs.Command as commands
use Rattle.objecting.specs.Faults.{fault}
use Rattle.writing.specs.Put.{Put}
use Rattle.answering.specs.declared.desk.Replied.{Replied}
use Rattle.telling.specs.declared.calls.Told.{Told}
use Rattle.telling.specs.Reply.{Reply, Stays, Starts, Calls, Lays, Checks}
use Rattle.acting.specs.Reply.{Lists, States, Draws, Says}

abbrev pub Does : List ℕ → Game → List ℕ → Reply → Command → Type 0
Does line g bytes a commands.Echo = Says (text_of line) g bytes a
Does line g bytes a (commands.New h w flags lent) = Starts h w flags lent bytes a
Does line g bytes a (commands.Handicap spots) = Calls (rules.handicapped (view_of g) [] spots) g bytes a
Does line g bytes a (commands.Stone r c) = Lays (rules.stone (view_of g) bytes r c) g bytes a
Does line g bytes a commands.Pass = Calls (rules.pass (view_of g) []) g bytes a
Does line g bytes a (commands.Resign player) = Calls (rules.resign (view_of g) [] (turn_of player)) g bytes a
Does line g bytes a commands.Resume = Calls (rules.resume (view_of g) []) g bytes a
Does line g bytes a (commands.Check r c flags) = Checks (rules.check_answer (view_of g) bytes flags r c) g bytes a
Does line g bytes a (commands.Legals flags) = Lists (rules.flags_answer flags) (rules.legals (view_of g) bytes flags) g bytes a
Does line g bytes a commands.State = States g bytes a
Does line g bytes a commands.Render = Draws g bytes a
Does line g bytes a (commands.Wrong wrong) = Says (fault wrong) g bytes a

-- the longest reply is a line that is given back, and the line feed behind it
abbrev pub reply_bytes : ℕ
reply_bytes = max_line + 1

abbrev pub line_feed : ℕ
line_feed = 10

-- a text is the reply's and a line feed, and no longer than the longest
pub record RepliesIn (line : List ℕ) (g : Game) (bytes : List ℕ) (r : Told) (bytes' after : List ℕ) : Type 0 where
  pub text : List ℕ
  pub does : Does line g bytes (record { text = text; game = r.game; lent = r.lent; bytes = bytes' }) (meaning line)
  pub written : after ≡ text ++ (line_feed ∷ [])
  pub whole : length after ≤ reply_bytes

-- the reply's text and a line feed stand at the front of the buffer. One that is too short for a reply leaves everything as it was
pub record Replies (line : List ℕ) (g : Game) (bytes before : List ℕ) (r : Replied) (bytes' after : List ℕ) : Type 0 where
  pub text : List ℕ
  pub does : reply_bytes ≤ length before → Does line g bytes (record { text = text; game = r.game; lent = r.lent; bytes = bytes' }) (meaning line)
  pub written : reply_bytes ≤ length before → Put (text ++ (line_feed ∷ [])) before 0 r.count after
  pub short : length before < reply_bytes → Stays g bytes (record { text = text; game = r.game; lent = r.lent; bytes = bytes' })
  pub silent : length before < reply_bytes → (r.count ≡ 0) × (after ≡ before)
