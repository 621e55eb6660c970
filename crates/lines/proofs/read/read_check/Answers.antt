-- `read_check`: what the numbers make of the call.
use Rattle.std.proofs.Common.{◌≡◌, sym, ap, ◌∙◌, subst, rules, Ok, Err}
use Rattle.lines.specs.Steps.{Plainly}
use Rattle.lines.specs.declared.command.Read.TheVariants as reads
use Rattle.lines.specs.declared.command.Fault.TheVariants as faults
use Rattle.lines.specs.Laws.Calls.{check_read, check-read}
use Rattle.lines.proofs.read.read_check.Goals as goal

pub returns-in_err-row : goal.returns-in_err-row
returns-in_err-row c =
    let e : c.from_residual.result ≡ Err faults.Check = search rules in
    subst (Plainly _) (ap check_read (sym c.numbers.ensures ∙ c.in_err-row.ensures.ok_part) ∙ sym e) (check-read _)

pub returns : goal.returns
returns c =
    let row = c.byte_of.ensures in
    let column = c.byte_of-2.ensures in
    let flags = c.byte_of-3.ensures in
    subst (Plainly _)
    (ap check_read (sym c.numbers.ensures ∙ c.in_ok-row.ensures.ok_part) ∙ sym (λ i. Ok (reads.Check (row i) (column i) (flags i))))
    (check-read _)
