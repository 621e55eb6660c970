-- `read_handicap`: the numbers are counted, and laid if they are pairs that the buffer holds.
use Rattle.std.proofs.Common.{◌≡◌, ◌∙◌, sym, rules, arith, List, ◌/◌, length, Err}
use Rattle.rules.specs.Calls.{Spot}
use Rattle.spelling.specs.Text.{words}
use Rattle.spelling.specs.Number.{numbers}
use Rattle.lines.specs.Command.{Handicap, handicap_of}
use Rattle.lines.specs.Steps.{Plainly, Names, Laid}
use Rattle.lines.specs.declared.command.Fault.TheVariants as faults
use Rattle.lines.specs.Laws.Calls.{wrong-reads}
use Rattle.lines.specs.Laws.Handicap.{handicap-bad, handicap-odd, handicap-even, handicap-short, handicap-laid}
use Rattle.lines.proofs.read.read_handicap.Goals.{Else-count-ne0}
use Rattle.lines.proofs.read.read_handicap.Goals as goal

-- the spots that an even number of numbers gives
even : (c : Else-count-ne0)
    → (spots : List Spot) × (handicap_of (numbers (words c.args.text.now)) ≡ Handicap spots) × (length spots ≡ c.in_ok-count.count / 2)
even c = handicap-even _ _ (sym c.in_ok-count.ensures.ok_part ∙ c.count_numbers.ensures) c.if-count-ne0.false

pub returns-in_err-count : goal.returns-in_err-count
unfolding Plainly
returns-in_err-count c =
    let e : c.from_residual.result ≡ Err faults.Handicap = search rules in
    rw e (wrong-reads faults.Handicap (handicap-bad _ (sym c.in_err-count.ensures.ok_part ∙ c.count_numbers.ensures)) _)

pub returns-then-count-ne0 : goal.returns-then-count-ne0
unfolding Plainly
returns-then-count-ne0 c = wrong-reads faults.Handicap (handicap-odd _ _ (sym c.in_ok-count.ensures.ok_part ∙ c.count_numbers.ensures) c.if-count-ne0.true) _

pub returns-then-spots-pairs : goal.returns-then-spots-pairs
returns-then-spots-pairs c = let s = even (goal.at.returns-then-spots-pairs c).Else-count-ne0 in handicap-short _ s.0 s.1 (omega (arith, s.2, c.if-spots-pairs.true))

pub lay_spots-requires : goal.lay_spots-requires
unfolding Names
lay_spots-requires c =
    let s = even (goal.at.lay_spots-requires c).Else-count-ne0 in
    record { spots = s.0; its = s.1; counted = s.2; fits = c.if-spots-pairs.false }

pub returns : goal.returns
unfolding Laid Names
returns c =
    let s = even (goal.at.returns c).Else-count-ne0 in
    handicap-laid _ s.0 s.1 _ _ s.2 c.if-spots-pairs.false (c.lay_spots.ensures s.0 s.1)
