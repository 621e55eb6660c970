-- `above` meets its contract: a row above there is where the point is not in the first.
use Rattle.std.proofs.Common.{◌≡◌, ◌∙◌, ◌<◌, ◌≤◌, ◌-◌, ℕ, sym, ap, arith}
use Rattle.std.specs.Prelude.{Option, None, Some}
use Rattle.std.specs.Option.{SomeIff}
use Rattle.rules.specs.Points.{area, back, stay, towards}
use Rattle.flooding.specs.Laws.Edges.{above-some, above-none}
use Rattle.flooding.proofs.edges.above.Goals as goal

either : (h w p : ℕ) → p < area h w → (o : Option ℕ) → SomeIff o (w ≤ p) (p - w) → o ≡ towards h w p back stay
either h w p on None n = sym (above-none h w p on (omega (arith, n)))
either h w p on (Some q) (l, e) = ap {B = Option ℕ} Some e ∙ sym (above-some h w p on l)

pub returns : goal.returns
returns c = either c.args.height c.args.width c.args.point c.requires c.checked_sub.result c.checked_sub.ensures
