-- `laying::lay::is_dead`: a number is 0 exactly if it is not above 0.
use mathlib.Core.Bool.{not}
use mathlib.Core.Path.{◌≡◌, ap, ◌∙◌, sym}
use mathlib.Core.Logic.{⊎_elim}
use Prim.Native.Nat.{ℕ}
use native.Mathlib.Omega.{arith}
use lib.Dec.{eqb, ltb}
use borrow.Author.Tests.{lt-ltb, le-ltb, eq-eqb, ne_eqb}
use Rattle.rules.proofs.Laws.Lists.{equal_or_not}
use Rattle.sets.specs.Liberties.{number}
use Rattle.laying.proofs.lay.is_dead.Goals as goal

not_some : (n : ℕ) → not (ltb 0 n) ≡ eqb n 0
not_some n =
    ⊎_elim
    (λ e. ap not (le-ltb 0 n (omega arith)) ∙ sym (eq-eqb n 0 e))
    (λ e. ap not (lt-ltb 0 n (omega arith)) ∙ sym (ne_eqb n 0 e))
    (equal_or_not n 0)

pub returns : goal.returns
returns c = ap not c.any_liberty.ensures ∙ not_some (number c.args.chain.liberties)
