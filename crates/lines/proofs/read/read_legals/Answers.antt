-- `read_legals`: what the numbers make of the call.
use Rattle.std.proofs.Common.{◌≡◌, ℕ, sym, ap, ◌∙◌, subst, rules, Ok, Err}
use Rattle.lines.specs.Steps.{Plainly}
use Rattle.lines.specs.declared.command.Read.TheVariants as reads
use Rattle.lines.specs.declared.command.Fault.TheVariants as faults
use Rattle.lines.specs.Laws.Calls.{legals_read, legals-read}
use Rattle.lines.proofs.read.read_legals.Goals as goal

pub returns-in_err-flags : goal.returns-in_err-flags
returns-in_err-flags c =
    let e : c.from_residual.result ≡ Err faults.Legals = search rules in
    subst (Plainly _) (ap legals_read (sym c.numbers.ensures ∙ c.in_err-flags.ensures.ok_part) ∙ sym e) (legals-read _)

pub returns : goal.returns
returns c =
    subst (Plainly _)
    (ap legals_read (sym c.numbers.ensures ∙ c.in_ok-flags.ensures.ok_part) ∙ ap (λ (f : ℕ). Ok (reads.Legals f)) (sym c.byte_of.ensures))
    (legals-read _)
