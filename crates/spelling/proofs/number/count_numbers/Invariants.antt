-- `count_numbers`: so many numbers stand before the rest. The measure is the rest's length.
use Rattle.std.proofs.Common.{◌≡◌, ◌+◌, ◌≤◌, length}
use Rattle.spelling.specs.Text.{words}
use Rattle.spelling.specs.Number.{numbers}
use Rattle.spelling.specs.Steps.{count_of}
use Rattle.spelling.specs.Laws.Steps.{count_more}
use Rattle.spelling.proofs.number.count_numbers.Given as goal

abbrev pub invariant-loop-word : goal.invariant-loop-word
invariant-loop-word l =
    (l.count + length l.rest ≤ length l.text) × (count_of (numbers (words l.text)) ≡ count_more l.count (numbers (words l.rest)))

abbrev pub decreases-loop-word : goal.decreases-loop-word
decreases-loop-word l = length l.rest
