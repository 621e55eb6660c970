-- `read_resign`: one word, and nothing behind it.
use Rattle.std.proofs.Common.{◌≡◌, sym, ap, ◌∙◌, subst, rules, Err}
use Rattle.spelling.specs.Steps.{spelled}
use Rattle.lines.specs.Command.{Command, resign_of}
use Rattle.lines.specs.Steps.{Plainly}
use Rattle.lines.specs.declared.command.Fault.TheVariants as faults
use Rattle.lines.specs.Laws.Calls.{resign-one, resign-more, wrong-reads}
use Rattle.lines.proofs.read.read_resign.Goals as goal

pub returns-in_err-word : goal.returns-in_err-word
unfolding resign_of
returns-in_err-word c =
    let e : c.from_residual.result ≡ Err faults.Resign = search rules in
    rw e (wrong-reads faults.Resign (ap resign_of (c.next_word.ensures.parted ∙ ap spelled c.in_err-word.ensures.ok_part)))

pub returns-then-at_end : goal.returns-then-at_end
returns-then-at_end c =
    subst (λ (x : Command). Plainly x c.read_player.result)
    (sym (ap resign_of (c.next_word.ensures.parted ∙ ap spelled c.in_ok-word.ensures.ok_part) ∙ resign-one _ _ (sym c.if-at_end.ensures)))
    c.read_player.ensures

pub returns : goal.returns
returns c =
    wrong-reads faults.Resign (ap resign_of (c.next_word.ensures.parted ∙ ap spelled c.in_ok-word.ensures.ok_part) ∙ resign-more _ _ (sym c.if-at_end.ensures))
