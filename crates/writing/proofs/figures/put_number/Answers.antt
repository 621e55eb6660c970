-- `put_number`: the fewest digits that hold the number.
use Rattle.std.proofs.Common.{ap, ◌∙◌, List, ℕ, ◌++◌}
use Rattle.writing.specs.Laws.Figures.{fewest-decimal}
use Rattle.writing.proofs.figures.put_number.Goals as goal

pub returns-clause-put : goal.returns-clause-put
returns-clause-put g c =
    let d = c.decimal-count.ensures in
    c.put_text.ensures ∙ ap (λ (t : List ℕ). c.args.out.now.items ++ t) (d.digits ∙ fewest-decimal _ _ d.len)
