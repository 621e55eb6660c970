-- What the functions inside promise: the calls by the words behind their names, and the spots, one after the other.
use Rattle.std.specs.Prelude.{◌≡◌, List, ◌∷◌, ◌++◌, map, ℕ, ◌≤◌, length, drop, Option, None, Some, Result}
use Rattle.rules.specs.Calls.{Spot}
use Rattle.spelling.specs.Text.{words}
use Rattle.spelling.specs.Number.{numbers}
use Rattle.lines.specs.declared.command.Read.{Read}
use Rattle.lines.specs.declared.command.Fault.{Fault}
use Rattle.lines.specs.declared.read.NextSpot.{NextSpot}
use Rattle.lines.specs.Command.{Command, Handicap, handicap_of}
use Rattle.lines.specs.Reads.{packed, Reads}

-- ---- Calls

-- what is read of a command that leaves every buffer as it was
unfoldable pub Plainly : Command → Result Read Fault → Type 0
Plainly command r = (before : List ℕ) → Reads command before r before

-- ---- Spots

-- the words are those of a handicap on these spots
unfoldable pub Names : List ℕ → List Spot → Type 0
Names text spots = handicap_of (numbers (words text)) ≡ Handicap spots

-- the spot that was read, and the others in the text behind it
abbrev pub SpotIs : Spot → List Spot → Option NextSpot → Type 0
SpotIs spot others None = ⊥
SpotIs spot others (Some r) = (r.spot ≡ packed spot) × Names r.behind.now others

unfoldable pub Spotted : List ℕ → Option NextSpot → Type 0
Spotted text r = (spot : Spot) (others : List Spot) → Names text (spot ∷ others) → SpotIs spot others r

-- so many spots, for which the buffer has room
pub record Laying (text : List ℕ) (count : ℕ) (before : List ℕ) : Type 0 where
  pub spots : List Spot
  pub its : Names text spots
  pub counted : length spots ≡ count
  pub fits : count ≤ length before

unfoldable pub Laid : List ℕ → List ℕ → List ℕ → Type 0
Laid text before after = (spots : List Spot) → Names text spots → after ≡ map packed spots ++ drop (length spots) before
