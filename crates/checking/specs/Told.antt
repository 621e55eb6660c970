-- What is told of a point before any stone is laid, by what the tests say, and what it settles to once the records are looked through.
use Rattle.std.specs.Prelude.{Bool, true, false, cond, not, ◌&&◌, List, ℕ, eqb, ltb, Result, Ok, Err}
use Rattle.rules.specs.Lists.{any}
use Rattle.rules.specs.Colours.{other}
use Rattle.rules.specs.Tests.{eye}
use Rattle.rules.specs.Flags.{KO, SUICIDE, FILLEYE, SUPERKO, forbids}
use Rattle.rules.specs.Answers as answers
use Rattle.rules.specs.Answers.{number, accepts, refuse, ◌then◌}
use Rattle.legality.specs.declared.near.Near.{Near}
use Rattle.legality.specs.Near.{besides, saves, catches_more, caught}
use Rattle.game.specs.View.{no_point}
use Rattle.checking.specs.declared.spot.Spot.{Spot}
use Rattle.checking.specs.declared.spot.Spot.TheVariants.{Off, Stone, Empty}
use Rattle.points.specs.declared.answers.Refusal.{Refusal}
use Rattle.points.specs.Reason.{reason}
use Rattle.checking.specs.declared.superko.Leave.{Leave}
use Rattle.checking.specs.declared.superko.Leave.TheVariants.{Free, IfNew}

-- an answer, or the records decide between SuperKo and Accepted
pub data Told : Type 0 where
  Answer : answers.Answer → Told
  IfRecorded : Told

-- what the code tells
abbrev pub told_as : Result Leave Refusal → Told
told_as (Ok Free) = Answer answers.Accepted
told_as (Ok IfNew) = IfRecorded
told_as (Err r) = Answer (reason r)

-- the ko point's number is that of the point
unfoldable pub at_ko : ℕ → ℕ → Bool
at_ko ko p = not (eqb ko no_point) && eqb p ko

-- the superko test
unfoldable pub superko_told : Bool → Bool → ℕ → Told
superko_told captures ko records =
    cond (ltb 2 records && captures) (cond ko (Answer answers.SuperKo) IfRecorded) (Answer answers.Accepted)

-- the first of the other three that refuses
unfoldable pub first_refusal : Bool → Bool → Bool → answers.Answer
first_refusal suicide ko eye = refuse answers.Suicide suicide then refuse answers.Ko ko then refuse answers.FillEye eye

-- the four tests by the flags
unfoldable pub told_of : ℕ → Bool → Bool → Bool → Bool → ℕ → Told
told_of flags suicide ko eye captures records =
    let first = first_refusal (forbids flags SUICIDE && suicide) (forbids flags KO && ko) (forbids flags FILLEYE && eye) in
    cond (accepts first) (cond (forbids flags SUPERKO) (superko_told captures ko records) (Answer answers.Accepted)) (Answer first)

-- of an empty point, by what stands near it and the colours of the board
unfoldable pub told_near : ℕ → Near → List ℕ → ℕ → ℕ → ℕ → ℕ → ℕ → ℕ → Told
told_near flags n cols h w own ko records p =
    told_of flags (not (any (saves own) (besides n))) (at_ko ko p && not (any catches_more (besides n))) (eye h w cols own p) (any (caught (other own)) (besides n)) records

-- of a spot, where f tells it of an empty point
abbrev pub told_spot : Spot → (ℕ → Told) → Told
told_spot Off f = Answer answers.OffBoard
told_spot Stone f = Answer answers.PointNotEmpty
told_spot (Empty p) f = f p

-- the number that is answered, where it is known whether the board that the stone leaves is recorded
abbrev pub settled : Told → Bool → ℕ
settled (Answer a) again = number a
settled IfRecorded again = number (refuse answers.SuperKo again)

-- the number that is known already: 0 where the records decide
abbrev pub known : Told → ℕ
known (Answer a) = number a
known IfRecorded = 0

-- the records decide
abbrev pub undecided : Told → Bool
undecided (Answer a) = false
undecided IfRecorded = true
