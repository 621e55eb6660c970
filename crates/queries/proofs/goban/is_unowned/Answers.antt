-- `queries::goban::is_unowned`: no slot was found.
use Rattle.std.proofs.Common.{ap, sym, ◌∙◌, Option, ℕ}
use Rattle.std.specs.Option.{is_some}
use Rattle.queries.specs.Laws.Owner.{none-unowned}
use Rattle.queries.proofs.goban.is_unowned.Goals as goal

pub returns : goal.returns
returns c = none-unowned c.args.owners.now c.args.point c.is_none.result (ap (λ (o : Option ℕ). is_some o) (sym c.owner_at.ensures) ∙ c.is_none.ensures)
