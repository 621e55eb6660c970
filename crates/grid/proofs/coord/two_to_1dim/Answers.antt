-- `two_to_1dim` meets its contract: the product of two bytes, and a byte, fit. Assumes nothing.
use mathlib.Core.Path.{refl}
use borrow.Author.Rules.{rules}
use Rattle.rules.specs.Points.{index}
use Rattle.grid.proofs.Bytes.{bytes_product, bytes-index, fits_word}
use Rattle.grid.proofs.coord.two_to_1dim.Goals as goal

pub overflow_mul-result : goal.overflow_mul-result
overflow_mul-result c = fits_word (bytes_product (search rules) (search rules))

pub overflow_add-result : goal.overflow_add-result
overflow_add-result c = fits_word (bytes-index (search rules) (search rules) (search rules))

pub returns : goal.returns
unfolding index
returns c = refl
