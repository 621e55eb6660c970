-- `read_text`: the first byte, then the first word, then the words behind it.
use Rattle.std.proofs.Common.{◌≡◌, sym, ap, ◌∙◌, subst, rules, Err}
use Rattle.spelling.specs.Steps.{spelled}
use Rattle.lines.specs.Command.{Command, called}
use Rattle.lines.specs.Reads.{Reads}
use Rattle.lines.specs.Steps.{Plainly}
use Rattle.lines.specs.declared.command.Fault.TheVariants as faults
use Rattle.lines.specs.Laws.Calls.{wrong-reads}
use Rattle.reading.specs.Laws.Line.{echo-reads, given-empty, given-hash, given-blank, given-called}
use Rattle.reading.proofs.line.read_text.Goals.{then-is_empty-via-then-is_empty, then-is_empty-via-else-is_empty+then-text-eq-HASH}
use Rattle.reading.proofs.line.read_text.Goals as goal

pub returns-then-is_empty : goal.returns-then-is_empty
unfolding Plainly
returns-then-is_empty c =
    elim c.then-is_empty.branch [
      | then-is_empty-via-then-is_empty w ↦ echo-reads (given-empty _ w.if-is_empty.ensures) _
      | then-is_empty-via-else-is_empty+then-text-eq-HASH w ↦ echo-reads (given-hash _ w.if-text-eq-HASH.true) _
    ]

pub returns-in_err-word : goal.returns-in_err-word
unfolding Plainly
returns-in_err-word c =
    let e : c.from_residual.result ≡ Err faults.Blank = search rules in
    let none_left = c.next_word.ensures.parted ∙ ap spelled c.in_err-word.ensures.ok_part in
    rw e (wrong-reads faults.Blank (given-blank _ c.if-is_empty.ensures c.if-text-eq-HASH.false none_left) _)

pub returns-in_err-name : goal.returns-in_err-name
unfolding Plainly called
returns-in_err-name c =
    let e : c.from_residual-in_err-name.result ≡ Err faults.Unknown = search rules in
    let first = c.next_word.ensures.parted ∙ ap spelled c.in_ok-word.ensures.ok_part in
    rw e
    (wrong-reads faults.Unknown
    (given-called _ c.if-is_empty.ensures c.if-text-eq-HASH.false _ first (sym c.in_err-name.ensures.ok_part ∙ c.name_of.ensures)) _)

pub returns : goal.returns
returns c =
    let first = c.next_word.ensures.parted ∙ ap spelled c.in_ok-word.ensures.ok_part in
    subst (λ (x : Command). Reads x c.args.spots.now c.read_behind.result c.read_behind.new.spots)
    (sym (given-called _ c.if-is_empty.ensures c.if-text-eq-HASH.false _ first (sym c.in_ok-name.ensures.ok_part ∙ c.name_of.ensures)))
    c.read_behind.ensures
