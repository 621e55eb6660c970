-- `history::packing::write_colours`: the first i bytes after the hash are written.
use mathlib.Core.Path.{◌≡◌}
use lib.Seq.{paste}
use Rattle.rules.specs.Sizes.{hash_bytes}
use Rattle.history.specs.Packing.{colour_part}
use Rattle.history.proofs.packing.write_colours.Given as goal

abbrev pub invariant-loop-i : goal.invariant-loop-i
invariant-loop-i l = l.bytes ≡ paste l.initial.bytes hash_bytes (colour_part l.colours) l.i
