-- `read_stone`: what the numbers make of the call.
use Rattle.std.proofs.Common.{◌≡◌, ℕ, sym, ap, ap₂, ◌∙◌, subst, rules, Ok, Err}
use Rattle.lines.specs.Steps.{Plainly}
use Rattle.lines.specs.declared.command.Read.TheVariants as reads
use Rattle.lines.specs.declared.command.Fault.TheVariants as faults
use Rattle.lines.specs.Laws.Calls.{stone_read, stone-read}
use Rattle.lines.proofs.read.read_stone.Goals as goal

pub returns-in_err-row : goal.returns-in_err-row
returns-in_err-row c =
    let e : c.from_residual.result ≡ Err faults.Stone = search rules in
    subst (Plainly _) (ap stone_read (sym c.numbers.ensures ∙ c.in_err-row.ensures.ok_part) ∙ sym e) (stone-read _)

pub returns : goal.returns
returns c =
    subst (Plainly _)
    (ap stone_read (sym c.numbers.ensures ∙ c.in_ok-row.ensures.ok_part) ∙ ap₂ (λ (r k : ℕ). Ok (reads.Stone r k)) (sym c.byte_of.ensures) (sym c.byte_of-2.ensures))
    (stone-read _)
