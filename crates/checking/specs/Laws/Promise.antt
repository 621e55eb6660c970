-- Laws of Promise: what is refused and what is told, and that a promise leaves nothing free.
use Rattle.std.specs.Prelude.{List, ◌⊎◌, ℕ, ◌≤◌, ◌<◌}
use Rattle.std.proofs.Common.{⊎_elim, ◌∙◌, arith, lt-ltb, le-ltb}
use Rattle.std.proofs.Math.Path.{◌≡◌, refl, sym}
use Rattle.rules.specs.Sizes.{max_flags}
use Rattle.rules.specs.Answers.{Answer, BadFlags, Damaged, number}
use Rattle.rules.specs.Calls.{flags_answer, check_answer, point_answer}
use Rattle.rules.specs.Game as rules
use Rattle.rules.proofs.Laws.Lists.{both_ways}
use Rattle.listing.specs.declared.list.Listed.{Listed}
use Rattle.listing.specs.Lists.{Left}
use Rattle.rules.proofs.Laws.Answers.{refused-then, passed_then}
use Rattle.listing.specs.Laws.Answers.{left-refused}
use Rattle.listing.specs.Laws.Unique.{left_unique}
use Rattle.checking.specs.Promise.{Checked, Filled}

module _ {is : Type 0} {said : Answer} where
  pub checked-damaged : ¬ is → Checked is said (number Damaged)
  checked-damaged n = record { damaged = λ _. refl; answered = λ t. absurd (n t) }

  pub checked-answered : is → {answer : ℕ} → answer ≡ number said → Checked is said answer
  checked-answered t e = record { damaged = λ n. absurd (n t); answered = λ _. e }

  pub checked-unique : {a b : ℕ} → Checked is said a → Checked is said b → a ≡ b
  checked-unique p q = both_ways (λ t. p.answered t ∙ sym (q.answered t)) (λ n. p.damaged n ∙ sym (q.damaged n))

module _ {is : Type 0} {answer : Answer} {places before : List ℕ} where
  pub filled-damaged : ¬ is → Filled is answer places before (record { number = 3; count = 0 }) before
  unfolding number
  filled-damaged n =
      record { damaged = λ _. left-refused Damaged places before 3 refl (λ (z : ◌≡◌ {A = ℕ} 3 0). omega arith); told = λ t. absurd (n t) }

  pub filled-told : is → {r : Listed} {after : List ℕ} → Left answer places before r after → Filled is answer places before r after
  filled-told t l = record { damaged = λ n. absurd (n t); told = λ _. l }

  pub filled-unique :
      is ⊎ ¬ is → {r r' : Listed} {after after' : List ℕ} → Filled is answer places before r after → Filled is answer places before r' after' →
      (r ≡ r') × (after ≡ after')
  filled-unique way p q = ⊎_elim (λ t. left_unique (p.told t) (q.told t)) (λ n. left_unique (p.damaged n) (q.damaged n)) way

-- ---- The flags that are given

module _ (g : rules.Game) (bytes : List ℕ) (flags r c : ℕ) where
  pub check-unflagged : max_flags < flags → number BadFlags ≡ number (check_answer g bytes flags r c)
  unfolding check_answer flags_answer number
  check-unflagged l = sym (refused-then BadFlags (point_answer g bytes flags r c) (λ (z : ◌≡◌ {A = ℕ} 2 0). omega arith) (lt-ltb max_flags flags l))

  pub check-flagged : flags ≤ max_flags → number (point_answer g bytes flags r c) ≡ number (check_answer g bytes flags r c)
  unfolding check_answer flags_answer
  check-flagged l = sym (passed_then BadFlags (point_answer g bytes flags r c) (le-ltb max_flags flags l))
