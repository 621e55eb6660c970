-- What was read is done: each command in bytes, with the spots in a buffer.
use Rattle.std.specs.Prelude.{List, [], ℕ, ◌≤◌, length, take, Result, Ok, Err}
use Rattle.rules.specs.Calls as rules
use Rattle.placing.specs.Placing.{spots_of}
use Rattle.game.specs.declared.state.Game.{Game}
use Rattle.game.specs.View.{view_of, turn_of}
use Rattle.lines.specs.declared.command.Fault.{Fault}
use Rattle.lines.specs.declared.command.Read.{Read}
use Rattle.lines.specs.declared.command.Read.TheVariants as reads
use Rattle.spelling.specs.Text.{text_of}
use Rattle.lines.specs.Command.{max_line}
use Rattle.objecting.specs.Faults.{fault}
use Rattle.telling.specs.Reply.{Reply, Starts, Calls, Lays, Checks}
use Rattle.acting.specs.Reply.{Lists, States, Draws, Says}

abbrev pub Acts : List ℕ → List ℕ → Game → Result Read Fault → List ℕ → Reply → Type 0
Acts line spots g (Ok reads.Echo) = Says (text_of line) g
Acts line spots g (Ok (reads.New h w flags lent)) = Starts h w flags lent
Acts line spots g (Ok (reads.Handicap n)) = Calls (rules.handicapped (view_of g) [] (spots_of (take n spots))) g
Acts line spots g (Ok (reads.Stone r c)) = λ bytes. Lays (rules.stone (view_of g) bytes r c) g bytes
Acts line spots g (Ok reads.Pass) = Calls (rules.pass (view_of g) []) g
Acts line spots g (Ok (reads.Resign player)) = Calls (rules.resign (view_of g) [] (turn_of player)) g
Acts line spots g (Ok reads.Resume) = Calls (rules.resume (view_of g) []) g
Acts line spots g (Ok (reads.Check r c flags)) = λ bytes. Checks (rules.check_answer (view_of g) bytes flags r c) g bytes
Acts line spots g (Ok (reads.Legals flags)) = λ bytes. Lists (rules.flags_answer flags) (rules.legals (view_of g) bytes flags) g bytes
Acts line spots g (Ok reads.State) = States g
Acts line spots g (Ok reads.Render) = Draws g
Acts line spots g (Err wrong) = Says (fault wrong) g

-- a handicap's spots are in the buffer, and a line that is given back is none that is too long
abbrev pub Ready : List ℕ → List ℕ → Result Read Fault → Type 0
Ready line spots (Ok reads.Echo) = length (text_of line) ≤ max_line
Ready line spots (Ok (reads.New h w flags lent)) = Unit
Ready line spots (Ok (reads.Handicap n)) = n ≤ length spots
Ready line spots (Ok (reads.Stone r c)) = Unit
Ready line spots (Ok reads.Pass) = Unit
Ready line spots (Ok (reads.Resign player)) = Unit
Ready line spots (Ok reads.Resume) = Unit
Ready line spots (Ok (reads.Check r c flags)) = Unit
Ready line spots (Ok (reads.Legals flags)) = Unit
Ready line spots (Ok reads.State) = Unit
Ready line spots (Ok reads.Render) = Unit
Ready line spots (Err wrong) = Unit
