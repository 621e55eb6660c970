-- An array of bytes as the code holds it is a liberty set: what owning it tells, in one record.
use mathlib.Core.Path.{◌≡◌}
use mathlib.Core.List.{List}
use Prim.Native.Nat.{ℕ}
use lib.ListN.{length, get_or}
use mir.Syntax.{w8}
use mir.Val.{Fits}
use Rattle.rules.specs.Sizes.{liberty_bytes}
use Rattle.sets.specs.Liberties.{LibertySet}

pub array-set : (xs : List ℕ) → length xs ≡ liberty_bytes → ((i : ℕ) → Fits w8 (get_or xs i 0)) → LibertySet xs
array-set xs l fits = record { long = l; bytes = λ i. (fits i).fits }
