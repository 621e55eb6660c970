-- `see` meets its contract: one word is stored. The shift is below 64, so nothing is shifted out.
use mathlib.Core.Path.{◌∙◌}
use Prim.Native.Nat.{◌%◌, ◌^◌}
use native.Mathlib.Nat.{one-mul}
use native.Mathlib.Omega.{arith}
use lib.Dec.{lit<}
use lib.Pow.{shl_exact}
use Rattle.flooding.specs.Laws.Seen.{saw-stored}
use Rattle.flooding.proofs.seen.see.Goals as goal

pub returns : goal.returns
returns c =
    let a = c.args in
    saw-stored a.seen.now a.point _ c.told-seen c.requires
    (shl_exact 1 (a.point % 64) 64 (lit< tt) (omega arith) ∙ one-mul (2 ^ (a.point % 64)))
