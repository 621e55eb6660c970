-- What a record is packed from: the colours of all points of the largest board, and the bytes that hold them.
use Rattle.std.specs.Prelude.{List, [], ◌∷◌, ◌++◌, ℕ, ◌<◌}
use Rattle.rules.specs.Sizes.{max_area, hash_bytes, colour_bytes}
use Rattle.rules.specs.Lists.{tabulate}
use Rattle.rules.specs.Colours.{at}
use Rattle.rules.specs.Records.{low_bytes, four_colours}

-- the colours at the numbers of the largest board's points: those of the board first, the rest empty
unfoldable pub on_largest : List ℕ → List ℕ
on_largest cols = tabulate (at cols) 0 max_area

-- the bytes of a record that hold the colours
unfoldable pub colour_part : List ℕ → List ℕ
colour_part cols = tabulate (four_colours cols) 0 colour_bytes

-- the record of a board with this hash and these colours
unfoldable pub record_by : ℕ → List ℕ → List ℕ
record_by hash cols = low_bytes hash_bytes hash ++ (colour_part cols ++ (0 ∷ []))

-- colours that two bits hold
pub record Packing (cols : List ℕ) : Type 0 where
  pub small : (p : ℕ) → at cols p < 4
