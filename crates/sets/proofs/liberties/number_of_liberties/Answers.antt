use Rattle.std.proofs.Common.{◌≡◌, ◌∙◌, ◌+◌, ◌*◌, ℕ, sym, ap, get_or, arith, rules}
use lib.Count.{ones, ones-le}
use Rattle.rules.specs.Sizes.{liberty_bytes}
use Rattle.rules.specs.Lists.{count, below}
use Rattle.rules.proofs.Laws.Places.{count-below-zero, count-below-le}
use Rattle.sets.specs.Liberties.{has, number, LibertySet}
use Rattle.sets.specs.Laws.Liberties.{count-byte}
use Rattle.sets.proofs.Arrays.{array-set}
use Rattle.sets.proofs.liberties.number_of_liberties.Goals.{Start}
use Rattle.sets.proofs.liberties.number_of_liberties.Goals as goal

-- the array that came in is a liberty set
came : (c : Start) → LibertySet c.args.set
came c = array-set c.args.set (search rules) (λ i. search rules)

pub loop-byte-init : goal.loop-byte-init
loop-byte-init c = sym (count-below-zero (has c.args.set))

pub overflow_add-sum : goal.overflow_add-sum
overflow_add-sum c =
    omega (
      arith,
      c.loop-byte.invariant,
      count-below-le (has c.args.set) (8 * c.loop-byte.byte-index),
      ones-le 8 (get_or c.args.set c.loop-byte.byte-index 0) c.loop-byte-test.element_fits.fits,
    )

pub loop-byte-preserved : goal.loop-byte-preserved
loop-byte-preserved c =
    ap (λ (n : ℕ). n + ones (get_or c.args.set c.loop-byte.byte-index 0)) c.loop-byte.invariant
    ∙ sym (count-byte c.args.set (came (goal.at.loop-byte-preserved c).Start) c.loop-byte.byte-index)

pub returns : goal.returns
unfolding number
returns c =
    let past : c.loop-byte.byte-index ≡ liberty_bytes = omega arith in
    c.loop-byte.invariant ∙ ap (λ (i : ℕ). count (has c.args.set) (below (8 * i))) past
