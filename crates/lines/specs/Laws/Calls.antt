-- Laws of the calls: each by the numbers or words that are read of it.
use Rattle.std.specs.Prelude.{◌≡◌, refl, true, false, cond, List, [], ◌∷◌, ℕ, ◌≤◌, ◌<◌, min, ltb, length, get_or, Option, None, Some, Result, Ok, Err}
use Rattle.std.proofs.Common.{sym, ap, ◌∙◌, subst, true≢false, ⊎_elim, arith, lt-ltb, le-ltb}
use Rattle.std.proofs.lemmas.Bool.{false≢true}
use Rattle.rules.specs.Lists.{same}
use Rattle.rules.specs.Colours.{black, white}
use Rattle.rules.proofs.Laws.Lists.{below_or_not}
use Rattle.lines.specs.declared.command.Read.{Read}
use Rattle.lines.specs.declared.command.Read.TheVariants as reads
use Rattle.lines.specs.declared.command.Fault.{Fault}
use Rattle.lines.specs.declared.command.Fault.TheVariants as faults
use Rattle.spelling.specs.Number.{byte_of, max_lent}
use Rattle.spelling.specs.Steps.{most, ended, exactly}
use Rattle.spelling.specs.Laws.Steps.{exactly-other}
use Rattle.lines.specs.Command.{Command, usual_lent, new_of, stone_of, check_of, legals_of, player_of, resign_of, alone}
use Rattle.lines.specs.Command as commands
use Rattle.lines.specs.Reads.{told, laid}
use Rattle.lines.specs.Steps.{Plainly}

-- a byte does not tell whether the number was capped
pub byte-capped : (n : ℕ) → byte_of (min n most) ≡ byte_of n
unfolding byte_of
byte-capped n = omega arith

-- ---- legals

abbrev pub legals_read : Option (List ℕ) → Result Read Fault
legals_read None = Err faults.Legals
legals_read (Some ns) = Ok (reads.Legals (byte_of (get_or ns 0 0)))

pub legals-read : (o : Option (List ℕ)) → Plainly (legals_of o) (legals_read (exactly 1 o))
unfolding Plainly legals_of exactly
legals-read None before = record { read = refl; buffer = refl }
legals-read (Some []) before = record { read = refl; buffer = refl }
legals-read (Some (a ∷ [])) before = record { read = simp byte-capped; buffer = refl }
legals-read (Some (a ∷ b ∷ ns)) before =
    record { read = ap legals_read (exactly-other 1 (a ∷ b ∷ ns) (λ e. absurd (omega arith))); buffer = refl }

-- ---- stone

abbrev pub stone_read : Option (List ℕ) → Result Read Fault
stone_read None = Err faults.Stone
stone_read (Some ns) = Ok (reads.Stone (byte_of (get_or ns 0 0)) (byte_of (get_or ns 1 0)))

pub stone-read : (o : Option (List ℕ)) → Plainly (stone_of o) (stone_read (exactly 2 o))
unfolding Plainly stone_of exactly
stone-read None before = record { read = refl; buffer = refl }
stone-read (Some []) before = record { read = refl; buffer = refl }
stone-read (Some (a ∷ [])) before = record { read = refl; buffer = refl }
stone-read (Some (a ∷ b ∷ [])) before = record { read = simp byte-capped; buffer = refl }
stone-read (Some (a ∷ b ∷ c ∷ ns)) before =
    record { read = ap stone_read (exactly-other 2 (a ∷ b ∷ c ∷ ns) (λ e. absurd (omega arith))); buffer = refl }

-- ---- check

abbrev pub check_read : Option (List ℕ) → Result Read Fault
check_read None = Err faults.Check
check_read (Some ns) = Ok (reads.Check (byte_of (get_or ns 0 0)) (byte_of (get_or ns 1 0)) (byte_of (get_or ns 2 0)))

pub check-read : (o : Option (List ℕ)) → Plainly (check_of o) (check_read (exactly 3 o))
unfolding Plainly check_of exactly
check-read None before = record { read = refl; buffer = refl }
check-read (Some []) before = record { read = refl; buffer = refl }
check-read (Some (a ∷ [])) before = record { read = refl; buffer = refl }
check-read (Some (a ∷ b ∷ [])) before = record { read = refl; buffer = refl }
check-read (Some (a ∷ b ∷ c ∷ [])) before = record { read = simp byte-capped; buffer = refl }
check-read (Some (a ∷ b ∷ c ∷ d ∷ ns)) before =
    record { read = ap check_read (exactly-other 3 (a ∷ b ∷ c ∷ d ∷ ns) (λ e. absurd (omega arith))); buffer = refl }

-- ---- new

abbrev four_read : Option (List ℕ) → Result Read Fault
four_read None = Err faults.New
four_read (Some ns) =
    cond (ltb max_lent (get_or ns 3 0)) (Err faults.Bytes) (Ok (reads.New (byte_of (get_or ns 0 0)) (byte_of (get_or ns 1 0)) (byte_of (get_or ns 2 0)) (get_or ns 3 0)))

-- by three numbers, or else by four
abbrev pub new_read : Option (List ℕ) → Option (List ℕ) → Result Read Fault
new_read (Some ns) others = Ok (reads.New (byte_of (get_or ns 0 0)) (byte_of (get_or ns 1 0)) (byte_of (get_or ns 2 0)) usual_lent)
new_read None others = four_read others

-- too many bytes are too many when they are capped, and others are not capped
new-bytes : (h w flags bytes : ℕ)
    → Plainly (cond (ltb max_lent bytes) (commands.Wrong faults.Bytes) (commands.New h w flags bytes))
    (cond (ltb max_lent (min bytes most)) (Err faults.Bytes) (Ok (reads.New (byte_of h) (byte_of w) (byte_of flags) (min bytes most))))
unfolding Plainly
new-bytes h w flags bytes before =
    ⊎_elim
    (λ l.
    let m : max_lent < min bytes most = omega arith in
    rw (lt-ltb max_lent bytes l, lt-ltb max_lent (min bytes most) m) (record { read = refl; buffer = refl }))
    (λ l.
    let m : min bytes most ≡ bytes = omega arith in
    rw (m, le-ltb max_lent bytes l) (record { read = refl; buffer = refl }))
    (below_or_not max_lent bytes)

pub new-read : (o : Option (List ℕ)) → Plainly (new_of o) (new_read (exactly 3 o) (exactly 4 o))
unfolding Plainly new_of exactly
new-read None before = record { read = refl; buffer = refl }
new-read (Some []) before = record { read = refl; buffer = refl }
new-read (Some (a ∷ [])) before = record { read = refl; buffer = refl }
new-read (Some (a ∷ b ∷ [])) before = record { read = refl; buffer = refl }
new-read (Some (a ∷ b ∷ c ∷ [])) before = record { read = simp byte-capped; buffer = refl }
new-read (Some (a ∷ b ∷ c ∷ d ∷ [])) before = simp byte-capped (new-bytes a b c d before)
new-read (Some (a ∷ b ∷ c ∷ d ∷ e ∷ ns)) before =
    let ms : List ℕ = a ∷ b ∷ c ∷ d ∷ e ∷ ns in
    record {
      read = ap (λ (q : Option (List ℕ)). new_read q (exactly 4 (Some ms))) (exactly-other 3 ms (λ z. absurd (omega arith))) ∙ ap four_read (exactly-other 4 ms (λ z. absurd (omega arith)));
      buffer = refl;
    }

pub four-over : (ns : List ℕ) → max_lent < get_or ns 3 0 → four_read (Some ns) ≡ Err faults.Bytes
four-over ns l = rw (lt-ltb max_lent (get_or ns 3 0) l)

pub four-read : (ns : List ℕ) → get_or ns 3 0 ≤ max_lent
    → four_read (Some ns) ≡ Ok (reads.New (byte_of (get_or ns 0 0)) (byte_of (get_or ns 1 0)) (byte_of (get_or ns 2 0)) (get_or ns 3 0))
four-read ns l = rw (le-ltb max_lent (get_or ns 3 0) l)

-- ---- What is wrong

pub wrong-reads : {command : Command} (fault : Fault) → command ≡ commands.Wrong fault → Plainly command (Err fault)
unfolding Plainly
wrong-reads fault e before = record { read = sym (ap (told (length before)) e); buffer = sym (ap (laid before) e) }

-- ---- resign, and the calls that stand alone

module _ (w : List ℕ) where
  pub player-black : same w (98 ∷ []) ≡ true → Plainly (player_of w) (Ok (reads.Resign black))
  unfolding Plainly player_of
  player-black e before = rw e (record { read = refl; buffer = refl })

  pub player-white : same w (98 ∷ []) ≡ false → same w (119 ∷ []) ≡ true → Plainly (player_of w) (Ok (reads.Resign white))
  unfolding Plainly player_of
  player-white d e before = rw (d, e) (record { read = refl; buffer = refl })

  pub player-none : same w (98 ∷ []) ≡ false → same w (119 ∷ []) ≡ false → Plainly (player_of w) (Err faults.Resign)
  unfolding Plainly player_of
  player-none d e before = rw (d, e) (record { read = refl; buffer = refl })

  pub resign-one : (ws : List (List ℕ)) → ended ws ≡ true → resign_of (w ∷ ws) ≡ player_of w
  unfolding ended resign_of
  resign-one [] e = refl
  resign-one (v ∷ ws) e = absurd (false≢true e)

  pub resign-more : (ws : List (List ℕ)) → ended ws ≡ false → resign_of (w ∷ ws) ≡ commands.Wrong faults.Resign
  unfolding ended resign_of
  resign-more [] e = absurd (true≢false e)
  resign-more (v ∷ ws) e = refl

module _ (command : Command) (ws : List (List ℕ)) where
  pub alone-ended : (r : Result Read Fault) → ended ws ≡ true → Plainly command r → Plainly (alone command ws) r
  unfolding ended alone
  alone-ended r e p = subst (λ (x : Command). Plainly x r) (sym (whole ws e)) p
    where
      whole : (vs : List (List ℕ)) → ended vs ≡ true → alone command vs ≡ command
      whole [] f = refl
      whole (v ∷ vs) f = absurd (false≢true f)

  pub alone-more : ended ws ≡ false → Plainly (alone command ws) (Err faults.Alone)
  unfolding ended alone
  alone-more e = wrong-reads faults.Alone (over ws e)
    where
      over : (vs : List (List ℕ)) → ended vs ≡ false → alone command vs ≡ commands.Wrong faults.Alone
      over [] f = absurd (true≢false f)
      over (v ∷ vs) f = refl
