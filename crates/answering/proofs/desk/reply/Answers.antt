-- `reply`: what was read is what the line means, so what was done is what the rules say of it.
use mathlib.Core.Path.{◌≡◌, refl, sym, ap, ◌∙◌, subst₂}
use mathlib.Core.List.{List, [], ◌∷◌, ◌++◌}
use Prim.Native.Nat.{ℕ}
use native.Mathlib.Omega.{arith}
use lib.ListN.{length, replicate, length-replicate}
use Rattle.std.specs.Prelude.{Result}
use Rattle.lines.specs.declared.command.Fault.{Fault}
use Rattle.lines.specs.declared.command.Read.{Read}
use Rattle.lines.specs.Command.{meaning}
use Rattle.lines.specs.Reads.{told}
use Rattle.reading.specs.Laws.Few.{max_spots, meaning-few}
use Rattle.telling.specs.Reply.{Reply}
use Rattle.acting.specs.Acts.{Acts, Ready}
use Rattle.answering.specs.Laws.Does.{ready-told, does-told}
use Rattle.answering.proofs.desk.reply.Goals.{After-read_line-read}
use Rattle.answering.proofs.desk.reply.Goals as goal

-- the buffer for the spots is as long as a line can fill
long : length {A = ℕ} (replicate max_spots 0) ≡ max_spots
long = length-replicate {A = ℕ} max_spots 0

-- what was read, and the buffer, by what the line means
as-told : (c : After-read_line-read) → c.read_line-read.result ≡ told max_spots (meaning c.args.line.now)
as-told c = c.read_line-read.ensures.read ∙ ap (λ (k : ℕ). told k (meaning c.args.line.now)) long

pub act-told-requires : goal.act-told-requires
act-told-requires c =
    let line = c.args.line.now in
    let ready =
    subst₂ (λ (s : List ℕ) (r : Result Read Fault). Ready line s r) (sym c.read_line-read.ensures.buffer) (sym (as-told (goal.at.act-told-requires c).After-read_line-read)) (ready-told line _ long (meaning line) refl (meaning-few line)) in
    (omega arith, (omega (arith, ap length c.clear.ensures), ready))

-- the text that was put into an empty one, and the line feed
ended : (text : List ℕ) {empty told whole : List ℕ} → empty ≡ [] → told ≡ empty ++ text → whole ≡ told ++ (10 ∷ []) → whole ≡ text ++ (10 ∷ [])
ended text e p q = q ∙ ap (λ (t : List ℕ). t ++ (10 ∷ [])) (p ∙ ap (λ (t : List ℕ). t ++ text) e)

pub returns : goal.returns
returns c =
    let line = c.args.line.now in
    let g = c.args.game in
    let bytes = c.args.lent.now in
    let done = c.act-told.ensures in
    let a : Reply = record { text = done.text; game = c.act-told.result.game; lent = c.act-told.result.lent; bytes = c.act-told.new.lent } in
    record {
      text = done.text;
      does =
          does-told line _ long g bytes a (meaning line) (meaning-few line)
          (subst₂ (λ (s : List ℕ) (r : Result Read Fault). Acts line s g r bytes a) c.read_line-read.ensures.buffer (as-told (goal.at.returns c).After-read_line-read) done.done);
      written = ended done.text c.clear.ensures done.written c.push.ensures.items;
      whole =
          omega (arith, done.short, c.push.ensures.len, ap length (done.written ∙ ap (λ (t : List ℕ). t ++ done.text) c.clear.ensures));
    }
