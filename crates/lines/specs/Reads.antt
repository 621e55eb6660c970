-- What reading a line promises: the command, as a value of the code, and the spots of a handicap in the lent buffer.
use Rattle.std.specs.Prelude.{◌≡◌, cond, List, ◌++◌, map, ℕ, ◌+◌, ◌*◌, leb, length, drop, Result, Ok, Err}
use Rattle.rules.specs.Calls.{Spot}
use Rattle.lines.specs.declared.command.Read.{Read}
use Rattle.lines.specs.declared.command.Read.TheVariants as reads
use Rattle.lines.specs.declared.command.Fault.{Fault}
use Rattle.lines.specs.declared.command.Fault.TheVariants as faults
use Rattle.spelling.specs.Number.{byte_of}
use Rattle.lines.specs.Command as commands
use Rattle.lines.specs.Command.{Command}

-- a row and a column in one number
unfoldable pub packed : Spot → ℕ
packed s = 256 * byte_of s.row + byte_of s.column

-- the command as a value of the code; the lent buffer has room for so many spots
abbrev pub told : ℕ → Command → Result Read Fault
told room commands.Echo = Ok reads.Echo
told room (commands.New h w flags bytes) = Ok (reads.New (byte_of h) (byte_of w) (byte_of flags) bytes)
told room (commands.Handicap spots) = cond (leb (length spots) room) (Ok (reads.Handicap (length spots))) (Err faults.Room)
told room (commands.Stone r c) = Ok (reads.Stone (byte_of r) (byte_of c))
told room commands.Pass = Ok reads.Pass
told room (commands.Resign player) = Ok (reads.Resign player)
told room commands.Resume = Ok reads.Resume
told room (commands.Check r c flags) = Ok (reads.Check (byte_of r) (byte_of c) (byte_of flags))
told room (commands.Legals flags) = Ok (reads.Legals (byte_of flags))
told room commands.State = Ok reads.State
told room commands.Render = Ok reads.Render
told room (commands.Wrong fault) = Err fault

-- the spots from the front of the buffer on, the rest unchanged; a list that does not fit leaves it as it was
unfoldable pub laid_over : List ℕ → List Spot → List ℕ
laid_over before spots = cond (leb (length spots) (length before)) (map packed spots ++ drop (length spots) before) before

abbrev pub laid : List ℕ → Command → List ℕ
laid before commands.Echo = before
laid before (commands.New h w flags bytes) = before
laid before (commands.Handicap spots) = laid_over before spots
laid before (commands.Stone r c) = before
laid before commands.Pass = before
laid before (commands.Resign player) = before
laid before commands.Resume = before
laid before (commands.Check r c flags) = before
laid before (commands.Legals flags) = before
laid before commands.State = before
laid before commands.Render = before
laid before (commands.Wrong fault) = before

-- the command that was read, and what the buffer holds then
pub record Reads (command : Command) (before : List ℕ) (r : Result Read Fault) (after : List ℕ) : Type 0 where
  pub read : r ≡ told (length before) command
  pub buffer : after ≡ laid before command
