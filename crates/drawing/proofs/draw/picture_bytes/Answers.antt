-- `picture_bytes`: the number of a board of bytes fits.
use Rattle.std.proofs.Common.{◌+◌, ◌*◌, ap₂, ℕ}
use Rattle.rules.specs.Picture.{picture_bytes}
use Rattle.drawing.proofs.draw.picture_bytes.Goals as goal

pub returns : goal.returns
unfolding picture_bytes
returns c = ap₂ (λ (h w : ℕ). h * (3 * w + 1)) c.from.ensures c.from-2.ensures
