-- Laws of Answers: a test that holds refuses, and one that does not lets the next one speak.
use Rattle.std.specs.Prelude.{◌≡◌, Bool, true, false, cond, ◌≢◌, ℕ}
use Rattle.std.proofs.Common.{sym, ap, ◌∙◌, eq-eqb, ne_eqb}
use Rattle.rules.specs.Answers.{Answer, Accepted, number, accepts, ◌then◌, refuse}

-- ---- By the number

pub accepts-zero : (a : Answer) → number a ≡ 0 → accepts a ≡ true
unfolding accepts
accepts-zero a e = eq-eqb (number a) 0 e

pub refuses-other : (a : Answer) → number a ≢ 0 → accepts a ≡ false
unfolding accepts
refuses-other a n = ne_eqb (number a) 0 n

-- and by a number that was answered
pub zero-accepts : (a : Answer) (n : ℕ) → n ≡ number a → n ≡ 0 → accepts a ≡ true
zero-accepts a n e z = accepts-zero a (sym e ∙ z)

pub other-refuses : (a : Answer) (n : ℕ) → n ≡ number a → n ≢ 0 → accepts a ≡ false
other-refuses a n e k = refuses-other a (λ z. k (e ∙ z))

-- ---- Two answers in a row, and one test

pub then-refused : (a b : Answer) → accepts a ≡ false → (a then b) ≡ a
unfolding ◌then◌
then-refused a b e = ap (λ (t : Bool). cond t b a) e

pub then-accepted : (a b : Answer) → accepts a ≡ true → (a then b) ≡ b
unfolding ◌then◌
then-accepted a b e = ap (λ (t : Bool). cond t b a) e

pub refuses : (a : Answer) {t : Bool} → t ≡ true → refuse a t ≡ a
unfolding refuse
refuses a e = ap (λ (t : Bool). cond t a Accepted) e

pub passes : (a : Answer) {t : Bool} → t ≡ false → refuse a t ≡ Accepted
unfolding refuse
passes a e = ap (λ (t : Bool). cond t a Accepted) e

pub test-refuses : (a b : Answer) {t : Bool} → accepts a ≡ false → t ≡ true → (refuse a t then b) ≡ a
test-refuses a b {t} n e = then-refused (refuse a t) b (ap accepts (refuses a e) ∙ n) ∙ refuses a e

pub test-passes : (a b : Answer) {t : Bool} → t ≡ false → (refuse a t then b) ≡ b
unfolding accepts number
test-passes a b {t} e = then-accepted (refuse a t) b (ap accepts (passes a e))

-- ---- The numbers of these

pub refused-then : (a b : Answer) {t : Bool} → number a ≢ 0 → t ≡ true → number (refuse a t then b) ≡ number a
refused-then a b n e = ap number (test-refuses a b (refuses-other a n) e)

pub passed_then : (a b : Answer) {t : Bool} → t ≡ false → number (refuse a t then b) ≡ number b
passed_then a b e = ap number (test-passes a b e)
