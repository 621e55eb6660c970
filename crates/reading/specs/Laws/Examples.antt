-- Some lines and what they mean, computed.
use Rattle.std.specs.Prelude.{◌≡◌, refl, List, [], ◌∷◌, ◌++◌, map}
use Prim.Native.String.{String}
use Rattle.rules.specs.Colours.{black, white}
use Rattle.lines.specs.declared.command.Fault.TheVariants as faults
use Rattle.spelling.specs.Text.{ascii, carriage_return, text_length, text_of, blank, words}
use Rattle.spelling.specs.Number.{digit, grown, number_of, consed, numbers}
use Rattle.lines.specs.Command.{Echo, New, Handicap, Stone, Pass, Resign, Resume, Check, Legals, State, Render, Wrong, new_of, preceded, pairs, spotted, handicap_of, stone_of, check_of, legals_of, player_of, resign_of, alone, name_of, called, command_of, given, command_in, meaning}

abbrev examples : List String
examples =
    "" ∷ "# a word" ∷ "new 9 9 0" ∷ "new 19 19 15 99" ∷ "new 256 9 0 0100" ∷ "new 9 9 0 1048577" ∷ "new 9 9" ∷ "handicap" ∷ "handicap 2 2 6 6"
    ∷ "handicap 2 2 6" ∷ "stone 4 4" ∷ "stone  4 004 " ∷ "stone 4 -4" ∷ "stone 4 4 4" ∷ "pass" ∷ "pass 1" ∷ "resign b" ∷ "resign w" ∷ "resign W"
    ∷ "resume" ∷ "check 0 0 15" ∷ "legals 3" ∷ "state" ∷ "render" ∷ " " ∷ "stones 4 4" ∷ []

pub known :
    map (λ (s : String). meaning (ascii s)) examples
    ≡ Echo ∷ Echo ∷ New 9 9 0 655360 ∷ New 19 19 15 99 ∷ New 256 9 0 100 ∷ Wrong faults.Bytes ∷ Wrong faults.New ∷ Handicap []
    ∷ Handicap (record { row = 2; column = 2 } ∷ record { row = 6; column = 6 } ∷ []) ∷ Wrong faults.Handicap ∷ Stone 4 4 ∷ Stone 4 4 ∷ Wrong faults.Stone
    ∷ Wrong faults.Stone ∷ Pass ∷ Wrong faults.Alone ∷ Resign black ∷ Resign white ∷ Wrong faults.Resign ∷ Resume ∷ Check 0 0 15 ∷ Legals 3 ∷ State
    ∷ Render ∷ Wrong faults.Blank ∷ Wrong faults.Unknown ∷ []
unfolding meaning command_in given command_of called name_of alone resign_of player_of legals_of check_of stone_of handicap_of spotted pairs preceded new_of numbers consed number_of grown digit words blank text_of text_length
known = refl

-- a carriage return ends a line, and is a byte of a word anywhere else
pub returned : meaning (ascii "pass" ++ (carriage_return ∷ [])) ≡ Pass
unfolding meaning command_in given command_of called name_of alone words blank text_of text_length
returned = refl

pub kept : meaning (carriage_return ∷ ascii "pass") ≡ Wrong faults.Unknown
unfolding meaning command_in given command_of called name_of alone words blank text_of text_length
kept = refl
