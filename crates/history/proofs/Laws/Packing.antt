-- Laws of Packing: the colours of the largest board's points are packed as the board's own, and a record is made of its parts.
use Rattle.std.specs.Prelude.{◌≡◌, refl, List, [], ◌∷◌, ◌++◌, ℕ, zero, suc, ◌+◌, ◌*◌, ◌/◌, ◌%◌, ◌^◌, ◌≤◌, ltb, take, drop, replicate}
use Rattle.std.proofs.Common.{sym, ap₂, ◌∙◌, ⊎_elim, arith, take_at, drop_at, drop-drop, ltb-true, ltb-false}
use Rattle.std.proofs.Math.Path.{ap, fun_ext}
use native.Mathlib.Nat.{div-one}
use Rattle.std.specs.Int.{bytes_low_first}
use Rattle.std.proofs.Math.ListN.{length, get_or-eq_default}
use Rattle.rules.specs.Sizes.{max_area, hash_bytes, colour_bytes, record_bytes}
use Rattle.rules.specs.Lists.{tabulate}
use Rattle.rules.specs.Colours.{empty, at}
use Rattle.rules.specs.Records.{low_bytes, four_colours}
use Rattle.rules.proofs.Laws.Lists.{decided, length-tabulate, get_or-tabulate-zero, get_or-tabulate-beyond}
use Rattle.history.specs.Packing.{on_largest, colour_part, record_by}

-- ---- The colours of the largest board's points

pub length-on_largest : (cols : List ℕ) → length (on_largest cols) ≡ max_area
unfolding on_largest
length-on_largest cols = length-tabulate (at cols) 0 max_area

pub at-on_largest : (cols : List ℕ) → length cols ≤ max_area → (p : ℕ) → at (on_largest cols) p ≡ at cols p
unfolding on_largest at
at-on_largest cols fits p =
    ⊎_elim (λ t. get_or-tabulate-zero (at cols) max_area p empty (ltb-true p max_area t))
    (λ f.
    let off = ltb-false p max_area f in
    get_or-tabulate-beyond (at cols) 0 max_area p empty off ∙ sym (get_or-eq_default cols empty {n = p} (omega arith)))
    (decided (ltb p max_area))

-- they are packed as the board's own
four-on_largest : (cols : List ℕ) → length cols ≤ max_area → (i : ℕ) → four_colours (on_largest cols) i ≡ four_colours cols i
unfolding four_colours
four-on_largest cols fits i =
    rw (at-on_largest cols fits (4 * i), at-on_largest cols fits (4 * i + 1), at-on_largest cols fits (4 * i + 2), at-on_largest cols fits (4 * i + 3))

pub part-on_largest : (cols : List ℕ) → length cols ≤ max_area → colour_part (on_largest cols) ≡ colour_part cols
unfolding colour_part
part-on_largest cols fits = ap (λ (f : ℕ → ℕ). tabulate f 0 colour_bytes) (fun_ext (four-on_largest cols fits))

-- ---- Parts of a record

-- the first part and the second, written over zeros
assembled : (first second : List ℕ) → length first ≡ hash_bytes → (bytes : List ℕ) → bytes ≡ first ++ drop hash_bytes (replicate record_bytes 0)
    → take hash_bytes bytes ++ (second ++ drop (hash_bytes + colour_bytes) bytes) ≡ first ++ (second ++ (0 ∷ []))
assembled first second long bytes e =
    let rest : List ℕ = drop hash_bytes (replicate record_bytes 0) in
    ap₂ (λ (a z : List ℕ). a ++ (second ++ z)) (ap (take hash_bytes) e ∙ take_at first rest hash_bytes long)
    (sym (drop-drop colour_bytes hash_bytes bytes) ∙ ap (drop colour_bytes) (ap (drop hash_bytes) e ∙ drop_at first rest hash_bytes long))

-- hash and colours, written over zeros
module _ (hash : ℕ) (bytes : List ℕ) (e : bytes ≡ low_bytes hash_bytes hash ++ drop hash_bytes (replicate record_bytes 0)) where
  pub record-made : (cols : List ℕ) → take hash_bytes bytes ++ (colour_part cols ++ drop (hash_bytes + colour_bytes) bytes) ≡ record_by hash cols
  unfolding low_bytes record_by
  record-made cols = assembled (low_bytes hash_bytes hash) (colour_part cols) (length-tabulate (λ i. hash / 256 ^ i % 256) 0 hash_bytes) bytes e

-- ---- The hash's bytes

low_from : (i n x : ℕ) → bytes_low_first i n x ≡ tabulate (λ k. x / 256 ^ k % 256) i n
low_from i zero x = refl
low_from zero (suc n) x = ap₂ {C = List ℕ} (λ b l. b ∷ l) (ap (λ (y : ℕ). y % 256) (sym (div-one x))) (low_from 1 n x)
low_from (suc i) (suc n) x = ap (λ (l : List ℕ). (x / 256 ^ suc i % 256) ∷ l) (low_from (suc (suc i)) n x)

-- the library's bytes of a number are the low bytes of the definition
pub low-bytes : (n x : ℕ) → bytes_low_first 0 n x ≡ low_bytes n x
unfolding low_bytes
low-bytes n x = low_from 0 n x
