-- Laws of the lent history: what a call leaves of the bytes, and that they have room for what the state counts then.
use Rattle.std.specs.Prelude.{◌≡◌, true, List, ℕ, ◌*◌, ◌≤◌, ◌/◌, length, drop}
use Rattle.std.proofs.Math.Path.{refl, subst}
use Rattle.std.proofs.Common.{sym, ap, ◌∙◌}
use Rattle.std.proofs.Math.Bool.{false}
use Rattle.std.proofs.Math.Logic.{⊎_elim}
use Rattle.rules.specs.Sizes.{record_bytes}
use Rattle.rules.specs.Records.{capacity, full, records_after}
use Rattle.rules.specs.Answers.{HistoryFull, number, accepts}
use Rattle.rules.specs.Game.{Game}
use Rattle.rules.specs.Calls.{result, stone, stone_answer, stone_game}
use Rattle.rules.proofs.Laws.Lists.{decided}
use Rattle.rules.proofs.Laws.Calls.{then-second, refuse-not}
use Rattle.rules.proofs.Laws.Records.{bytes_after-length, bytes_after-beyond, records_after-fits}

-- what a call leaves of the lent bytes, and that they have room for what the state counts then
pub record Lent (bytes bytes' : List ℕ) (records : ℕ) : Type 0 where
  pub long : length bytes' ≡ length bytes
  pub beyond : drop (record_bytes * capacity bytes) bytes' ≡ drop (record_bytes * capacity bytes) bytes
  pub room : records ≤ capacity bytes

pub lent_same : {bytes bytes' : List ℕ} {n m : ℕ} → bytes' ≡ bytes → m ≡ n → n ≤ capacity bytes → Lent bytes bytes' m
lent_same {bytes} e f l =
    record {
      long = ap length e;
      beyond = ap (drop (record_bytes * capacity bytes)) e;
      room = subst (λ (k : ℕ). k ≤ capacity bytes) (sym f) l;
    }

-- one call after another
pub lent-on : {bytes bytes' bytes'' : List ℕ} {n m : ℕ} → Lent bytes bytes' n → Lent bytes' bytes'' m → Lent bytes bytes'' m
unfolding capacity
lent-on {bytes} {bytes'} {bytes''} {m = m} l k =
    record {
      long = k.long ∙ l.long;
      beyond =
          subst (λ (n : ℕ). drop (record_bytes * (n / record_bytes)) bytes'' ≡ drop (record_bytes * (n / record_bytes)) bytes') l.long k.beyond
          ∙ l.beyond;
      room = subst (λ (n : ℕ). m ≤ n / record_bytes) l.long k.room;
    }

-- and the next has the room
pub lent-room : {bytes bytes' : List ℕ} {n : ℕ} → Lent bytes bytes' n → n ≤ capacity bytes'
unfolding capacity
lent-room {n = n} l = subst (λ (k : ℕ). n ≤ k / record_bytes) (sym l.long) l.room

module _ (g : Game) (bytes : List ℕ) (r c : ℕ) where
  -- a stone is accepted only where the present board is recorded or finds room
  pub accepted-free : accepts (stone_answer g bytes r c) ≡ true → full bytes g.records g.colours ≡ false
  unfolding stone_answer accepts number
  accepted-free e = refuse-not HistoryFull (full bytes g.records g.colours) refl (then-second _ _ (then-second _ _ (then-second _ _ e)))

  pub stone-lent : g.records ≤ capacity bytes → Lent bytes (stone g bytes r c).bytes (stone g bytes r c).game.records
  unfolding stone result stone_game capacity
  stone-lent l =
      ⊎_elim
      (λ (y : accepts (stone_answer g bytes r c) ≡ true).
      let free = accepted-free y in
      rw y
      (record {
        long = bytes_after-length bytes g.records g.colours free;
        beyond = bytes_after-beyond bytes g.records g.colours free;
        room = fits free;
      }))
      (λ (n : accepts (stone_answer g bytes r c) ≡ false). rw n (lent_same refl refl l))
      (decided (accepts (stone_answer g bytes r c)))
    where
      fits : full bytes g.records g.colours ≡ false → records_after bytes g.records g.colours ≤ capacity bytes
      fits free =
          let long = bytes_after-length bytes g.records g.colours free in
          subst (λ (n : ℕ). records_after bytes g.records g.colours ≤ n) (ap (λ (n : ℕ). n / record_bytes) long)
          (records_after-fits bytes g.records g.colours free l)
