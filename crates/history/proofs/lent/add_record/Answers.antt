-- `history::lent::add_record`: the part that is lent is the next free record, and what the writer leaves there is put back in its place.
use mathlib.Core.Path.{ap₂}
use mathlib.Core.List.{List, ◌++◌}
use Prim.Native.Nat.{ℕ, ◌+◌, ◌*◌}
use native.Mathlib.Omega.{arith}
use lib.ListN.{take}
use borrow.Rule.Slice.PartMut.{Post-is}
use Rattle.rules.specs.Sizes.{record_bytes}
use Rattle.history.proofs.lent.add_record.Goals as goal

pub returns : goal.returns
returns c =
    let bytes = c.args.history.now in
    let a = record_bytes * c.args.count in
    ap₂ (λ (r z : List ℕ). take a bytes ++ (r ++ z)) c.write_record.ensures (Post-is a (a + record_bytes) bytes (omega arith))
