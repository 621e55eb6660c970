-- Laws of Told: what the tests tell settles to the rules' answer, and the records decide only where the stone captures.
use Rattle.std.specs.Prelude.{Bool, true, false, ◌&&◌, ◌||◌, ◌≡◌, refl, ◌≢◌, ℕ, ltb}
use Rattle.std.proofs.Math.Bool.{cond}
use Rattle.std.proofs.Math.Path.{sym, ap}
use Rattle.std.proofs.Common.{◌∙◌}
use Rattle.rules.specs.Flags.{KO, SUICIDE, FILLEYE, SUPERKO, forbids}
use Rattle.rules.specs.Answers as answers
use Rattle.rules.specs.Answers.{number, accepts, refuse, ◌then◌}
use Rattle.rules.proofs.Laws.Lists.{not-both}
use Rattle.checking.specs.Told.{Told, Answer, IfRecorded, superko_told, first_refusal, told_of, settled, known, undecided}

-- ---- What it settles to

pub superko-settled :
    (captures ko : Bool) (records : ℕ) (again : Bool) →
    settled (superko_told captures ko records) again ≡ number (refuse answers.SuperKo (ltb 2 records && captures && (ko || again)))
unfolding superko_told refuse
superko-settled captures ko records again = go (ltb 2 records) captures ko
  where
    go : (many captures ko : Bool) →
        settled (cond (many && captures) (cond ko (Answer answers.SuperKo) IfRecorded) (Answer answers.Accepted)) again
        ≡ number (cond (many && captures && (ko || again)) answers.SuperKo answers.Accepted)
    go false captures ko = refl
    go true false ko = refl
    go true true false = refl
    go true true true = refl

pub told-settled :
    (flags : ℕ) (suicide ko eye captures : Bool) (records : ℕ) (again : Bool) →
    settled (told_of flags suicide ko eye captures records) again
    ≡ number
    (refuse answers.Suicide (forbids flags SUICIDE && suicide)
    then refuse answers.Ko (forbids flags KO && ko)
    then refuse answers.FillEye (forbids flags FILLEYE && eye)
    then refuse answers.SuperKo (forbids flags SUPERKO && (ltb 2 records && captures && (ko || again))))
unfolding told_of first_refusal ◌then◌ accepts refuse number
told-settled flags suicide ko eye captures records again =
    go (forbids flags SUICIDE && suicide) (forbids flags KO && ko) (forbids flags FILLEYE && eye) (forbids flags SUPERKO)
    (superko_told captures ko records) (ltb 2 records && captures && (ko || again)) (superko-settled captures ko records again)
  where
    go : (a b c d : Bool) (last : Told) (test : Bool) → settled last again ≡ number (refuse answers.SuperKo test) →
        settled (cond (accepts (first_refusal a b c)) (cond d last (Answer answers.Accepted)) (Answer (first_refusal a b c))) again
        ≡ number (refuse answers.Suicide a then refuse answers.Ko b then refuse answers.FillEye c then refuse answers.SuperKo (d && test))
    go true b c d last test e = refl
    go false true c d last test e = refl
    go false false true d last test e = refl
    go false false false false last test e = refl
    go false false false true last test e = e

-- ---- As it is told

module _ (flags : ℕ) (suicide ko eye captures : Bool) (records : ℕ) (first : answers.Answer)
    (its : first ≡ first_refusal (forbids flags SUICIDE && suicide) (forbids flags KO && ko) (forbids flags FILLEYE && eye)) where
  abbrev last : Told
  last = cond (forbids flags SUPERKO) (superko_told captures ko records) (Answer answers.Accepted)

  whole : cond (accepts first) last (Answer first) ≡ told_of flags suicide ko eye captures records
  unfolding told_of
  whole = ap (λ (a : answers.Answer). cond (accepts a) last (Answer a)) its

  pub told-refused : accepts first ≡ false → Answer first ≡ told_of flags suicide ko eye captures records
  told-refused e = sym (ap (λ (t : Bool). cond t last (Answer first)) e) ∙ whole

  module _ (passed : accepts first ≡ true) where
    past : last ≡ told_of flags suicide ko eye captures records
    past = sym (ap (λ (t : Bool). cond t last (Answer first)) passed) ∙ whole

    pub told_free : forbids flags SUPERKO ≡ false → Answer answers.Accepted ≡ told_of flags suicide ko eye captures records
    told_free e = sym (ap (λ (t : Bool). cond t (superko_told captures ko records) (Answer answers.Accepted)) e) ∙ past

    pub told-superko : forbids flags SUPERKO ≡ true → superko_told captures ko records ≡ told_of flags suicide ko eye captures records
    told-superko e = sym (ap (λ (t : Bool). cond t (superko_told captures ko records) (Answer answers.Accepted)) e) ∙ past

-- ---- Where the records decide, the stone captures

superko-silent : (ko : Bool) (records : ℕ) → undecided (superko_told false ko records) ≡ false
unfolding superko_told
superko-silent ko records = go (ltb 2 records)
  where
    go : (many : Bool) →
        undecided (cond (many && false) (cond ko (Answer answers.SuperKo) IfRecorded) (Answer answers.Accepted)) ≡ false
    go true = refl
    go false = refl

told-silent : (flags : ℕ) (suicide ko eye : Bool) (records : ℕ) → undecided (told_of flags suicide ko eye false records) ≡ false
unfolding told_of
told-silent flags suicide ko eye records =
    go (first_refusal (forbids flags SUICIDE && suicide) (forbids flags KO && ko) (forbids flags FILLEYE && eye)) (forbids flags SUPERKO)
    (superko_told false ko records) (superko-silent ko records)
  where
    go : (first : answers.Answer) (d : Bool) (last : Told) → undecided last ≡ false →
        undecided (cond (accepts first) (cond d last (Answer answers.Accepted)) (Answer first)) ≡ false
    go first d last e = pick (accepts first) d
      where
        pick : (a d : Bool) → undecided (cond a (cond d last (Answer answers.Accepted)) (Answer first)) ≡ false
        pick true true = e
        pick true false = refl
        pick false d = refl

pub superko-captures : (captures ko : Bool) (records : ℕ) → undecided (superko_told captures ko records) ≡ true → captures ≡ true
superko-captures true ko records e = refl
superko-captures false ko records e = absurd (not-both e (superko-silent ko records))

pub told-captures :
    (flags : ℕ) (suicide ko eye captures : Bool) (records : ℕ) → undecided (told_of flags suicide ko eye captures records) ≡ true → captures ≡ true
told-captures flags suicide ko eye true records e = refl
told-captures flags suicide ko eye false records e = absurd (not-both e (told-silent flags suicide ko eye records))

-- ---- What is known before the stone is laid

pub known-settles : (t : Told) → known t ≢ 0 → (again : Bool) → settled t again ≡ known t
known-settles (Answer n) other again = refl
known-settles IfRecorded other again = absurd (other refl)

-- what passes so far settles by whether the board is recorded, which is looked for only where that decides
pub passed-settles :
    (t : Told) (again recorded : Bool) → known t ≡ 0 → (undecided t ≡ true → again ≡ recorded) → (undecided t ≡ false → again ≡ false)
    → settled t recorded ≡ number (refuse answers.SuperKo again)
unfolding refuse number
passed-settles (Answer n) again recorded z looked skipped = z ∙ sym (ap (λ (b : Bool). number (refuse answers.SuperKo b)) (skipped refl))
passed-settles IfRecorded again recorded z looked skipped = ap (λ (b : Bool). number (refuse answers.SuperKo b)) (sym (looked refl))
