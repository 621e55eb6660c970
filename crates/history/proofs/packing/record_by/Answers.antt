-- `record_by`: hash and colours are written over zeros, the last of which stays.
use mathlib.Core.Path.{◌∙◌}
use Rattle.history.proofs.Laws.Packing.{record-made}
use Rattle.history.proofs.packing.record_by.Goals as goal

pub returns : goal.returns
returns c =
    c.write_colours.ensures ∙ record-made _ _ c.write_hash.ensures _
