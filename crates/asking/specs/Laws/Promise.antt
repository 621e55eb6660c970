-- Laws of Promise: it leaves nothing free: two results that meet it are equal.
use Rattle.std.specs.Prelude.{Bool, ◌⊎◌, ◌≡◌}
use Rattle.std.proofs.Common.{⊎_elim, sym, ◌∙◌}
use Rattle.rules.proofs.Laws.Lists.{decided}
use Rattle.queries.specs.declared.goban.TestAnswer.{TestAnswer}
use Rattle.asking.specs.Promise.{Tested}

pub tested-unique : {is : Type 0} {off holds : Bool} {r r' : TestAnswer} → is ⊎ ¬ is → Tested is off holds r → Tested is off holds r' → r ≡ r'
tested-unique {off = off} way p q =
    ⊎_elim
    (λ t. ⊎_elim (λ e. p.beyond t e ∙ sym (q.beyond t e)) (λ e. p.told t e ∙ sym (q.told t e)) (decided off))
    (λ n. p.damaged n ∙ sym (q.damaged n))
    way
