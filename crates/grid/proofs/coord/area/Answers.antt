-- `area` meets its contract: the product of two bytes fits. Assumes nothing.
use mathlib.Core.Path.{refl}
use borrow.Author.Rules.{rules}
use Rattle.rules.specs.Points.{area}
use Rattle.grid.proofs.Bytes.{bytes_product, fits_word}
use Rattle.grid.proofs.coord.area.Goals as goal

pub overflow_mul-result : goal.overflow_mul-result
overflow_mul-result c = fits_word (bytes_product (search rules) (search rules))

pub returns : goal.returns
unfolding area
returns c = refl
