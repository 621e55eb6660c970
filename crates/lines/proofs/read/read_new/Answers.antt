-- `read_new`: what three numbers, or four, make of the call.
use Rattle.std.proofs.Common.{◌≡◌, ℕ, List, Option, sym, ap, ap₂, ◌∙◌, subst, rules, Ok, Err, slice_index}
use Rattle.spelling.specs.Text.{words}
use Rattle.spelling.specs.Number.{numbers}
use Rattle.spelling.specs.Steps.{exactly}
use Rattle.lines.specs.Command.{usual_lent}
use Rattle.lines.specs.Steps.{Plainly}
use Rattle.lines.specs.declared.command.Read.TheVariants as reads
use Rattle.lines.specs.declared.command.Fault.TheVariants as faults
use Rattle.lines.specs.Laws.Calls.{new_read, new-read, four-over, four-read}
use Rattle.lines.proofs.read.read_new.Goals as goal

pub returns-in-Some : goal.returns-in-Some
returns-in-Some c =
    let height = c.byte_of.ensures in
    let width = c.byte_of-in-Some.ensures in
    let flags = c.byte_of-in-Some-2.ensures in
    subst (Plainly _)
    (ap (λ (q : Option (List ℕ)). new_read q (exactly 4 (numbers (words c.args.text.now)))) (sym c.numbers.ensures ∙ c.in-Some.is) ∙ sym (λ i. Ok (reads.New (height i) (width i) (flags i) usual_lent)))
    (new-read _)

pub returns-in_err-height : goal.returns-in_err-height
returns-in_err-height c =
    let e : c.from_residual.result ≡ Err faults.New = search rules in
    subst (Plainly _) (ap₂ new_read (sym c.numbers.ensures ∙ c.in_default.is) (sym c.numbers-2.ensures ∙ c.in_err-height.ensures.ok_part) ∙ sym e) (new-read _)

pub returns-then-bytes-gt-MAX_LENT : goal.returns-then-bytes-gt-MAX_LENT
returns-then-bytes-gt-MAX_LENT c =
    subst (Plainly _)
    (ap₂ new_read (sym c.numbers.ensures ∙ c.in_default.is) (sym c.numbers-2.ensures ∙ c.in_ok-height.ensures.ok_part)
    ∙ four-over c.in_ok-height.field-0 c.if-bytes-gt-MAX_LENT.true)
    (new-read _)

pub returns : goal.returns
returns c =
    let ns = c.in_ok-height.field-0 in
    let height = c.byte_of-2.ensures in
    let width = c.byte_of-3.ensures in
    let flags = c.byte_of-4.ensures in
    subst (Plainly _)
    (ap₂ new_read (sym c.numbers.ensures ∙ c.in_default.is) (sym c.numbers-2.ensures ∙ c.in_ok-height.ensures.ok_part)
    ∙ four-read ns c.if-bytes-gt-MAX_LENT.false
    ∙ sym (λ i. Ok (reads.New (height i) (width i) (flags i) (slice_index ns 3))))
    (new-read _)
