-- `looking::look::chain_seen`: no set has more liberties than it has places.
use native.Mathlib.Omega.{arith}
use Rattle.sets.specs.Laws.Liberties.{number-le}
use Rattle.looking.specs.Seen.{chain_seen}
use Rattle.looking.proofs.look.chain_seen.Goals as goal

pub overflow_cast-result : goal.overflow_cast-result
overflow_cast-result c = omega (arith, c.number_of_liberties.ensures, number-le c.args.chain.liberties)

pub returns : goal.returns
unfolding chain_seen
returns c = λ i. record {
  colour = c.args.chain.colour;
  liberties = c.number_of_liberties.ensures i;
  stones = c.args.chain.count;
}
