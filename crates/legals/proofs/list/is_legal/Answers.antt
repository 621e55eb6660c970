-- `is_legal`: refused, free, or as the records say.
use mathlib.Core.Bool.{Bool, true, false, not}
use mathlib.Core.Path.{◌≡◌, refl, sym, ap, ◌∙◌}
use lib.Dec.{eqb}
use Rattle.std.specs.Prelude.{Result, Ok}
use Rattle.rules.specs.Records.{recorded}
use Rattle.rules.specs.Answers.{SuperKo, number, accepts, refuse}
use Rattle.rules.specs.Calls.{resulting}
use Rattle.points.specs.declared.answers.Refusal.{Refusal}
use Rattle.game.specs.View.{view_of}
use Rattle.points.proofs.Reasons.{refuses}
use Rattle.checking.specs.declared.superko.Leave.{Leave}
use Rattle.checking.specs.Told.{told_as, settled}
use Rattle.legals.proofs.list.is_legal.Goals.{Start}
use Rattle.legals.proofs.list.is_legal.Goals as goal

-- it is accepted, if this is told
abbrev Accepted : (c : Start) → Result Leave Refusal → Bool
Accepted c r = let g = c.args.game.now in eqb (settled (told_as r) (recorded c.args.history.now g.records (resulting (view_of g) c.args.point))) 0

new-free : (again : Bool) → not again ≡ eqb (number (refuse SuperKo again)) 0
unfolding refuse number
new-free true = refl
new-free false = refl

pub returns-in-Err : goal.returns-in-Err
unfolding accepts
returns-in-Err c = sym (ap (Accepted (goal.at.returns-in-Err c).Start) c.in-Err.is ∙ refuses c.in-Err.field-0)

pub returns-in-Free : goal.returns-in-Free
unfolding number
returns-in-Free c = sym (ap (Accepted (goal.at.returns-in-Free c).Start) (c.in-Ok.is ∙ ap Ok c.in-Free.is))

pub returns-in-IfNew : goal.returns-in-IfNew
returns-in-IfNew c =
    ap not c.repeats.ensures ∙ new-free _ ∙ sym (ap (Accepted (goal.at.returns-in-IfNew c).Start) (c.in-Ok.is ∙ ap Ok c.in-IfNew.is))
