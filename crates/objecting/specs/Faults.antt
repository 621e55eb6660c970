-- What is said of a line that is no call.
use Rattle.std.specs.Prelude.{List, ℕ}
use Rattle.lines.specs.declared.command.Fault.{Fault}
use Rattle.lines.specs.declared.command.Fault.TheVariants as faults
use Rattle.spelling.specs.Text.{ascii}

abbrev pub fault : Fault → List ℕ
fault faults.Long = ascii "? a line has at most 8192 bytes"
fault faults.Blank = ascii "? no call"
fault faults.Unknown = ascii "? no such call"
fault faults.New = ascii "? new takes height, width, flags and perhaps bytes"
fault faults.Handicap = ascii "? handicap takes rows and columns in pairs"
fault faults.Stone = ascii "? stone takes row and column"
fault faults.Resign = ascii "? resign takes b or w"
fault faults.Check = ascii "? check takes row, column and flags"
fault faults.Legals = ascii "? legals takes flags"
fault faults.Alone = ascii "? this call takes nothing more"
fault faults.Bytes = ascii "? a game is lent at most 1048576 bytes"
fault faults.Room = ascii "? more spots than a line can hold"
