-- Laws of History: a record is among the first of the lent bytes exactly if the rules say that its board is recorded, and what is noted
-- is what the rules note.
use Rattle.std.specs.Prelude.{◌≡◌, refl, ℕ, ◌+◌, ◌*◌, ◌≤◌, ◌<◌, length}
use Rattle.std.proofs.Math.Path.{sym, ap}
use Rattle.std.proofs.Common.{◌∙◌, arith, length-drop, length-take-le}
use Rattle.std.proofs.Math.Bool.{true, false}
use mathlib.Core.List.{List, ◌++◌}
use Rattle.std.proofs.Math.ListN.{take, drop}
use Rattle.rules.specs.Sizes.{record_bytes}
use Rattle.rules.specs.Lists.{below, same}
use Rattle.rules.specs.Records.{record_of, capacity, stored, recorded, records_after, bytes_after}
use Rattle.rules.proofs.Laws.Lists.{any-yes, any_none, mem_below, below-mem}
use Rattle.rules.proofs.Laws.Records.{room}
use Rattle.history.specs.History.{among, Noting, Noted, Adding}

-- the code looks for a record as the rules look for a board
pub among-recorded : (bytes : List ℕ) (n : ℕ) (cols : List ℕ) → among bytes n (record_of cols) ≡ recorded bytes n cols
unfolding among recorded
among-recorded bytes n cols = refl

-- a stored record is whole
pub length-stored : (bytes : List ℕ) (n i : ℕ) → n ≤ capacity bytes → i < n → length (stored bytes i) ≡ record_bytes
unfolding stored capacity
length-stored bytes n i within l = length-take-le record_bytes (drop (record_bytes * i) bytes) (rw (length-drop (record_bytes * i) bytes) (omega arith))

module _ (bytes : List ℕ) (n : ℕ) (r : List ℕ) where
  pub among-here : (i : ℕ) → i < n → same (stored bytes i) r ≡ true → among bytes n r ≡ true
  unfolding among
  among-here i l e = any-yes (λ j. same (stored bytes j) r) (mem_below n i l) e

  pub among_none : ((i : ℕ) → i < n → same (stored bytes i) r ≡ false) → among bytes n r ≡ false
  unfolding among
  among_none h = any_none (λ j. same (stored bytes j) r) (below n) (λ i m. h i (below-mem n i m))

-- ---- Noting a board

module _ (bytes : List ℕ) (n : ℕ) (r : List ℕ) where
  pub noted-before : among bytes n r ≡ true → (cols : List ℕ) → r ≡ record_of cols → Noted bytes n cols n bytes
  unfolding records_after bytes_after
  noted-before y cols its =
      let there : recorded bytes n cols ≡ true = sym (among-recorded bytes n cols) ∙ ap (among bytes n) (sym its) ∙ y in
      record { counted = rw there; written = rw there }

  pub noted-new : among bytes n r ≡ false → (after : List ℕ)
      → after ≡ take (record_bytes * n) bytes ++ (r ++ drop (record_bytes * n + record_bytes) bytes)
      → (cols : List ℕ) → r ≡ record_of cols → Noted bytes n cols (n + 1) after
  unfolding records_after bytes_after
  noted-new k after e cols its =
      let missing : recorded bytes n cols ≡ false = sym (among-recorded bytes n cols) ∙ ap (among bytes n) (sym its) ∙ k in
      record {
        counted = rw missing;
        written = rw missing (e ∙ ap (λ (s : List ℕ). take (record_bytes * n) bytes ++ (s ++ drop (record_bytes * n + record_bytes) bytes)) its);
      }

-- a record that is not there has room
pub adding : (bytes : List ℕ) (n : ℕ) (r : List ℕ) → Noting bytes n r → among bytes n r ≡ false → Adding bytes n r
adding bytes n r is k =
    record {
      fits = room bytes n is.colours is.free (sym (among-recorded bytes n is.colours) ∙ ap (among bytes n) (sym is.its) ∙ k);
    }
