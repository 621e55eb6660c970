-- What a line says: one of the calls with its numbers as they are written, a line to give back, or what is wrong with it.
use Rattle.std.specs.Prelude.{cond, List, [], ◌∷◌, ℕ, eqb, ltb, length, Option, None, Some}
use Rattle.rules.specs.Lists.{same}
use Rattle.rules.specs.Colours.{black, white}
use Rattle.rules.specs.Calls.{Spot}
use Rattle.lines.specs.declared.command.Fault.{Fault}
use Rattle.lines.specs.declared.command.Fault.TheVariants as faults
use Rattle.lines.specs.declared.command.Name.{Name}
use Rattle.lines.specs.declared.command.Name.TheVariants as names
use Rattle.spelling.specs.Text.{ascii, text_of, words}
use Rattle.spelling.specs.Number.{numbers, max_lent}

-- ---- Sizes

-- the longest line that is read, without its end
abbrev pub max_line : ℕ
max_line = 8192

-- how many bytes of history a game is lent where a line leaves them out
abbrev pub usual_lent : ℕ
usual_lent = 655360

-- ---- Commands

pub data Command : Type 0 where
  Echo : Command
  New : (height width flags bytes : ℕ) → Command
  Handicap : List Spot → Command
  Stone : (row column : ℕ) → Command
  Pass : Command
  Resign : (player : ℕ) → Command
  Resume : Command
  Check : (row column flags : ℕ) → Command
  Legals : (flags : ℕ) → Command
  State : Command
  Render : Command
  Wrong : Fault → Command

-- ---- Each call, by the words behind its name

-- height, width, flags and, perhaps, bytes of history
unfoldable pub new_of : Option (List ℕ) → Command
new_of None = Wrong faults.New
new_of (Some []) = Wrong faults.New
new_of (Some (h ∷ [])) = Wrong faults.New
new_of (Some (h ∷ w ∷ [])) = Wrong faults.New
new_of (Some (h ∷ w ∷ flags ∷ [])) = New h w flags usual_lent
new_of (Some (h ∷ w ∷ flags ∷ bytes ∷ [])) = cond (ltb max_lent bytes) (Wrong faults.Bytes) (New h w flags bytes)
new_of (Some (h ∷ w ∷ flags ∷ bytes ∷ n ∷ ns)) = Wrong faults.New

unfoldable pub preceded : Spot → Option (List Spot) → Option (List Spot)
preceded s None = None
preceded s (Some spots) = Some (s ∷ spots)

-- rows and columns in turn; an odd one is left over
unfoldable pub pairs : List ℕ → Option (List Spot)
pairs [] = Some []
pairs (r ∷ []) = None
pairs (r ∷ c ∷ ns) = preceded (record { row = r; column = c }) (pairs ns)

unfoldable pub spotted : Option (List Spot) → Command
spotted None = Wrong faults.Handicap
spotted (Some spots) = Handicap spots

unfoldable pub handicap_of : Option (List ℕ) → Command
handicap_of None = Wrong faults.Handicap
handicap_of (Some ns) = spotted (pairs ns)

unfoldable pub stone_of : Option (List ℕ) → Command
stone_of None = Wrong faults.Stone
stone_of (Some []) = Wrong faults.Stone
stone_of (Some (r ∷ [])) = Wrong faults.Stone
stone_of (Some (r ∷ c ∷ [])) = Stone r c
stone_of (Some (r ∷ c ∷ n ∷ ns)) = Wrong faults.Stone

unfoldable pub check_of : Option (List ℕ) → Command
check_of None = Wrong faults.Check
check_of (Some []) = Wrong faults.Check
check_of (Some (r ∷ [])) = Wrong faults.Check
check_of (Some (r ∷ c ∷ [])) = Wrong faults.Check
check_of (Some (r ∷ c ∷ flags ∷ [])) = Check r c flags
check_of (Some (r ∷ c ∷ flags ∷ n ∷ ns)) = Wrong faults.Check

unfoldable pub legals_of : Option (List ℕ) → Command
legals_of None = Wrong faults.Legals
legals_of (Some []) = Wrong faults.Legals
legals_of (Some (flags ∷ [])) = Legals flags
legals_of (Some (flags ∷ n ∷ ns)) = Wrong faults.Legals

unfoldable pub player_of : List ℕ → Command
player_of w = cond (same w (ascii "b")) (Resign black) (cond (same w (ascii "w")) (Resign white) (Wrong faults.Resign))

unfoldable pub resign_of : List (List ℕ) → Command
resign_of [] = Wrong faults.Resign
resign_of (w ∷ []) = player_of w
resign_of (w ∷ v ∷ ws) = Wrong faults.Resign

-- a call with no words behind its name
unfoldable pub alone : Command → List (List ℕ) → Command
alone command [] = command
alone command (w ∷ ws) = Wrong faults.Alone

-- ---- The names of the calls

-- the call that a word names, if it names one
unfoldable pub name_of : List ℕ → Option Name
name_of w =
    cond (same w (ascii "new")) (Some names.New)
    (cond (same w (ascii "handicap")) (Some names.Handicap)
    (cond (same w (ascii "stone")) (Some names.Stone)
    (cond (same w (ascii "pass")) (Some names.Pass)
    (cond (same w (ascii "resign")) (Some names.Resign)
    (cond (same w (ascii "resume")) (Some names.Resume)
    (cond (same w (ascii "check")) (Some names.Check)
    (cond (same w (ascii "legals")) (Some names.Legals)
    (cond (same w (ascii "state")) (Some names.State)
    (cond (same w (ascii "render")) (Some names.Render) None)))))))))

unfoldable pub called : Option Name → List (List ℕ) → Command
called (Some names.New) ws = new_of (numbers ws)
called (Some names.Handicap) ws = handicap_of (numbers ws)
called (Some names.Stone) ws = stone_of (numbers ws)
called (Some names.Pass) ws = alone Pass ws
called (Some names.Resign) ws = resign_of ws
called (Some names.Resume) ws = alone Resume ws
called (Some names.Check) ws = check_of (numbers ws)
called (Some names.Legals) ws = legals_of (numbers ws)
called (Some names.State) ws = alone State ws
called (Some names.Render) ws = alone Render ws
called None ws = Wrong faults.Unknown

-- ---- A line

unfoldable pub command_of : List (List ℕ) → Command
command_of [] = Wrong faults.Blank
command_of (w ∷ ws) = called (name_of w) ws

-- an empty text and one that begins with # (byte 35) are given back
unfoldable pub given : List ℕ → Command
given [] = Echo
given (b ∷ l) = cond (eqb b 35) Echo (command_of (words (b ∷ l)))

unfoldable pub command_in : List ℕ → Command
command_in text = cond (ltb max_line (length text)) (Wrong faults.Long) (given text)

unfoldable pub meaning : List ℕ → Command
meaning line = command_in (text_of line)
