-- Laws of Records: a record has its hundred bytes, writing the next one leaves all others and what lies beyond the capacity, and the
-- written one is found again.
use Rattle.std.specs.Prelude.{◌≡◌, refl, true, false, not, ℕ, ◌+◌, ◌*◌, ◌-◌, ◌/◌, ◌%◌, ◌^◌, ◌≤◌, ◌<◌, leb, get_or, take}
use Rattle.std.proofs.Math.Path.{sym, ap}
use Rattle.std.proofs.Common.{ap₂, ◌∙◌, length-append, length-drop, drop_at, drop-drop, get_or-drop, leb-false}
use mathlib.Core.List.{List, [], ◌∷◌, ◌++◌}
use Rattle.std.proofs.Math.Logic.{⊎_elim}
use native.Mathlib.Omega.{arith}
use Rattle.std.proofs.Math.ListN.{length, drop, get_or-append}
use Rattle.std.proofs.Math.Seq.{length-take-le, take_at, get_or-take, ext_get_or}
use Rattle.rules.specs.Sizes.{hash_bytes, colour_bytes, record_bytes}
use Rattle.rules.specs.Lists.{tabulate}
use Rattle.rules.specs.Hash.{hash}
use Rattle.rules.specs.Records.{low_bytes, four_colours, record_of, capacity, stored, recorded, full, records_after, bytes_after}
use Rattle.rules.proofs.Laws.Lists.{decided, and_both, not-both, length-tabulate}

pub length-record : (cols : List ℕ) → length (record_of cols) ≡ record_bytes
unfolding record_of low_bytes
length-record cols =
    length-append (low_bytes hash_bytes (hash cols)) (tabulate (four_colours cols) 0 colour_bytes ++ (0 ∷ []))
    ∙ ap₂ (λ (m n : ℕ). m + n) (length-tabulate (λ i. hash cols / 256 ^ i % 256) 0 hash_bytes) (length-append (tabulate (four_colours cols) 0 colour_bytes) (0 ∷ []) ∙ ap (λ (n : ℕ). n + 1) (length-tabulate (four_colours cols) 0 colour_bytes))

-- a board that is not recorded, where the history is not full: there is room for one more record
pub room : (bytes : List ℕ) (n : ℕ) (cols : List ℕ) → full bytes n cols ≡ false → recorded bytes n cols ≡ false → record_bytes * n + record_bytes ≤ length bytes
unfolding full capacity
room bytes n cols f r =
    let l = leb-false (length bytes / record_bytes) n (⊎_elim (λ y. absurd (not-both (and_both (ap not r) y) f)) (λ y. y) (decided (leb (length bytes / record_bytes) n))) in
    omega arith

-- ---- A record written at its place

module _ (bytes r : List ℕ) (n : ℕ) (long : length r ≡ record_bytes) (fits : record_bytes * n + record_bytes ≤ length bytes) where
  abbrev written : List ℕ
  written = take (record_bytes * n) bytes ++ (r ++ drop (record_bytes * n + record_bytes) bytes)

  front_length : length (take (record_bytes * n) bytes) ≡ record_bytes * n
  front_length = length-take-le (record_bytes * n) bytes (omega arith)

  pub written-length : length written ≡ length bytes
  written-length =
      let one = length-append (take (record_bytes * n) bytes) (r ++ drop (record_bytes * n + record_bytes) bytes) in
      let two = length-append r (drop (record_bytes * n + record_bytes) bytes) in
      let three = length-drop (record_bytes * n + record_bytes) bytes in
      let four = front_length in
      omega arith

  -- the record stands at its place
  pub written-here : stored written n ≡ r
  unfolding stored
  written-here =
      ap (take record_bytes) (drop_at (take (record_bytes * n) bytes) (r ++ drop (record_bytes * n + record_bytes) bytes) (record_bytes * n) front_length)
      ∙ take_at r (drop (record_bytes * n + record_bytes) bytes) record_bytes long

  -- the records before it are as they were
  pub written-before : (i : ℕ) → i < n → stored written i ≡ stored bytes i
  unfolding stored
  written-before i l =
      ext_get_or 0 (take record_bytes (drop (record_bytes * i) written)) (take record_bytes (drop (record_bytes * i) bytes)) (sized written written-length ∙ sym (sized bytes refl))
      (λ j m.
      let under : j < record_bytes = rw (sized written written-length) at m in
      let early : record_bytes * i + j < record_bytes * n = omega arith in
      spot written j under
      ∙ get_or-append (take (record_bytes * n) bytes) (r ++ drop (record_bytes * n + record_bytes) bytes) 0 (record_bytes * i + j) (rw front_length early)
      ∙ get_or-take (record_bytes * n) bytes (record_bytes * i + j) 0 early
      ∙ sym (spot bytes j under))
    where
      sized : (xs : List ℕ) → length xs ≡ length bytes → length (take record_bytes (drop (record_bytes * i) xs)) ≡ record_bytes
      sized xs e = length-take-le record_bytes (drop (record_bytes * i) xs) (rw (length-drop (record_bytes * i) xs) (omega arith))

      spot : (xs : List ℕ) (j : ℕ) → j < record_bytes → get_or (take record_bytes (drop (record_bytes * i) xs)) j 0 ≡ get_or xs (record_bytes * i + j) 0
      spot xs j under = get_or-take record_bytes (drop (record_bytes * i) xs) j 0 under ∙ get_or-drop (record_bytes * i) xs j 0

  -- and so are the bytes after it
  pub written_after : (k : ℕ) → record_bytes * n + record_bytes ≤ k → drop k written ≡ drop k bytes
  written_after k l =
      ap (λ (m : ℕ). drop m written) split ∙ sym (drop-drop (k - start) start written) ∙ ap (drop (k - start)) at-start
      ∙ drop-drop (k - start) start bytes
      ∙ ap (λ (m : ℕ). drop m bytes) (sym split)
    where
      start : ℕ
      start = record_bytes * n + record_bytes

      split : k ≡ start + (k - start)
      split = omega arith

      at-start : drop start written ≡ drop start bytes
      at-start =
          sym (drop-drop record_bytes (record_bytes * n) written)
          ∙ ap (drop record_bytes) (drop_at (take (record_bytes * n) bytes) (r ++ drop start bytes) (record_bytes * n) front_length)
          ∙ drop_at r (drop start bytes) record_bytes long

-- ---- Recording the present board

module _ (bytes : List ℕ) (n : ℕ) (cols : List ℕ) (free : full bytes n cols ≡ false) where
  pub bytes_after-length : length (bytes_after bytes n cols) ≡ length bytes
  unfolding bytes_after
  bytes_after-length =
      ⊎_elim (λ (y : recorded bytes n cols ≡ true). rw y)
      (λ (k : recorded bytes n cols ≡ false). rw k (written-length bytes (record_of cols) n (length-record cols) (room bytes n cols free k)))
      (decided (recorded bytes n cols))

  pub records_after-fits : n ≤ capacity bytes → records_after bytes n cols ≤ capacity (bytes_after bytes n cols)
  unfolding records_after capacity
  records_after-fits l =
      ⊎_elim (λ (y : recorded bytes n cols ≡ true). rw (y, bytes_after-length) l)
      (λ (k : recorded bytes n cols ≡ false). let more = room bytes n cols free k in rw (k, bytes_after-length) (omega arith))
      (decided (recorded bytes n cols))

  -- bytes beyond the capacity never change
  pub bytes_after-beyond : drop (record_bytes * capacity bytes) (bytes_after bytes n cols) ≡ drop (record_bytes * capacity bytes) bytes
  unfolding bytes_after capacity
  bytes_after-beyond =
      ⊎_elim (λ (y : recorded bytes n cols ≡ true). rw y)
      (λ (k : recorded bytes n cols ≡ false).
      let more = room bytes n cols free k in
      rw k (written_after bytes (record_of cols) n (length-record cols) more (record_bytes * (length bytes / record_bytes)) (omega arith)))
      (decided (recorded bytes n cols))
