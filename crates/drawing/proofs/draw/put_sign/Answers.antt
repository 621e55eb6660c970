-- `put_sign`: three stores.
use mathlib.Core.Path.{refl}
use Rattle.drawing.specs.Picture.{signed}
use Rattle.drawing.proofs.draw.put_sign.Goals as goal

pub returns : goal.returns
unfolding signed
returns c = record { value = refl; buffer_after = refl }
