-- Laws of Told: a call's promise and the number that was told are what was done.
use Rattle.std.specs.Prelude.{◌≡◌, List, ℕ, length}
use Rattle.std.proofs.Math.Path.{refl, subst}
use Rattle.std.proofs.Common.{sym, ◌∙◌}
use Rattle.rules.specs.Answers.{Answer}
use Rattle.rules.specs.Calls as rules
use Rattle.game.specs.declared.state.Game.{Game}
use Rattle.game.specs.Promise.{Made, CalledAlone, Called}
use Rattle.game.specs.View.{TrueState, RoomIn}
use Rattle.checking.specs.Promise.{Checked}
use Rattle.writing.specs.Figures.{decimal}
use Rattle.telling.specs.declared.calls.Told.{Told}
use Rattle.telling.specs.Reply.{TrueDesk, Stays, Starts, Calls, Lays, Checks}
use Rattle.telling.specs.Told.{Acted, Unlent, Tells}

module _ {answer : ℕ} {g' : Game} {lent : ℕ} {before after : List ℕ} {r : Told} (t : Tells answer g' lent before r after) where
  pub told-calls : {call : rules.Result} {g : Game} → CalledAlone call g answer g' → Unlent (Calls call g) lent before r after
  unfolding Unlent
  told-calls {call} {g} called bytes e =
      record {
        text = decimal answer;
        written = t.written;
        short = t.short;
        done =
            record {
              number = answer;
              said = refl;
              called = subst (CalledAlone call g answer) (sym t.game) called;
              lent = t.lends ∙ e;
              kept = refl;
            };
      }

  pub told-starts : {h w flags : ℕ} (other : ℕ) → Made h w flags answer g' → Unlent (Starts h w flags lent) other before r after
  unfolding Unlent
  told-starts {h} {w} {flags} other made bytes e =
      record {
        text = decimal answer;
        written = t.written;
        short = t.short;
        done = record { number = answer; said = refl; made = subst (Made h w flags answer) (sym t.game) made; lends = t.lends; kept = refl };
      }

  pub told-lays : {call : rules.Result} {g : Game} {bytes bytes' : List ℕ} → Called (TrueState g × RoomIn g (length bytes)) call g bytes answer g' bytes' → lent ≡ length bytes
      → Acted (Lays call g bytes) before r bytes' after
  unfolding TrueDesk
  told-lays {call} {g} {bytes} {bytes'} called e =
      record {
        text = decimal answer;
        written = t.written;
        short = t.short;
        done =
            record {
              number = answer;
              said = refl;
              called = subst (λ (x : Game). Called (TrueState g × RoomIn g (length bytes)) call g bytes answer x bytes') (sym t.game) called;
              lent = t.lends ∙ e;
            };
      }

  pub told-stays : (text bytes : List ℕ) → lent ≡ length bytes → Stays g' bytes (record { text = text; game = r.game; lent = r.lent; bytes = bytes })
  told-stays text bytes e = record { game = t.game; lent = t.lends ∙ e; kept = refl }

  pub told-checks : {said : Answer} {bytes : List ℕ} → Checked (TrueState g' × RoomIn g' (length bytes)) said answer → lent ≡ length bytes → Acted (Checks said g' bytes) before r bytes after
  unfolding TrueDesk
  told-checks {said} {bytes} checked e =
      record {
        text = decimal answer;
        written = t.written;
        short = t.short;
        done = record { number = answer; said = refl; checked = checked; stays = told-stays (decimal answer) bytes e };
      }
