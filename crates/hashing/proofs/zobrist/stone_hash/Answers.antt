-- `stone_hash` meets its contract: each way out has made the tests of the definition, and reads the entry that it names. Assumes nothing.
use mathlib.Core.Path.{◌≡◌}
use mathlib.Core.List.{List}
use Prim.Native.Nat.{ℕ, ◌<◌}
use native.Mathlib.Nat.{zero-add}
use native.Mathlib.Omega.{arith}
use lib.ListN.{get_or}
use borrow.Author.Tests.{lt-ltb, le-ltb, eq-eqb, ne_eqb}
use Rattle.rules.specs.Sizes.{hash_entries}
use Rattle.rules.specs.Lists.{tabulate}
use Rattle.rules.specs.Hash.{entry, stone_hash}
use Rattle.rules.proofs.Laws.Lists.{get_d_tabulate}
use Rattle.hashing.proofs.zobrist.stone_hash.Goals as goal

entry_at : {xs : List ℕ} {k : ℕ} → xs ≡ tabulate entry 0 hash_entries → k < hash_entries → get_or xs k 0 ≡ entry k
entry_at {xs} {k} e h = rw (e, get_d_tabulate entry 0 hash_entries k 0 h, zero-add)

pub returns-then-point-ge-MAX_AREA : goal.returns-then-point-ge-MAX_AREA
returns-then-point-ge-MAX_AREA c = simp (le-ltb _ _ c.if-point-ge-MAX_AREA.true)

pub returns-then-colour-eq-EMPTY : goal.returns-then-colour-eq-EMPTY
unfolding stone_hash
returns-then-colour-eq-EMPTY c = simp (lt-ltb _ _ c.if-point-ge-MAX_AREA.false, eq-eqb _ _ c.if-colour-eq-EMPTY.true)

pub returns-then-colour-eq-BLACK : goal.returns-then-colour-eq-BLACK
unfolding stone_hash
returns-then-colour-eq-BLACK c =
    simp (lt-ltb _ _ c.if-point-ge-MAX_AREA.false, ne_eqb _ _ c.if-colour-eq-EMPTY.false, eq-eqb _ _ c.if-colour-eq-BLACK.true)
    (entry_at c.table-numbers.ensures (omega arith))

pub returns : goal.returns
unfolding stone_hash
returns c =
    simp (lt-ltb _ _ c.if-point-ge-MAX_AREA.false, ne_eqb _ _ c.if-colour-eq-EMPTY.false, ne_eqb _ _ c.if-colour-eq-BLACK.false)
    (entry_at c.table-numbers.ensures (omega arith))
