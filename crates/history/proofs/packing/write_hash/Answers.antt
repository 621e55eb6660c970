-- `history::packing::write_hash`: the library's bytes of the number are the low bytes of the definition.
use Rattle.std.proofs.Common.{◌≡◌, ap₂, ◌++◌, List, ℕ, arith}
use borrow.Rule.Slice.PartMut.{Post-is}
use Rattle.rules.specs.Sizes.{hash_bytes}
use Rattle.rules.specs.Records.{low_bytes}
use Rattle.history.proofs.Laws.Packing.{low-bytes}
use Rattle.history.proofs.packing.write_hash.Goals as goal

pub returns : goal.returns
returns c =
    let low = low-bytes hash_bytes c.args.hash in
    let written : c.copy_from_slice.new.self ≡ low_bytes hash_bytes c.args.hash = cc in
    ap₂ (λ (a b : List ℕ). a ++ b) written (Post-is 0 8 c.args.bytes.now (omega arith))
