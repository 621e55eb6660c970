-- Laws of Number: a number that is capped while it grows is the number capped.
use Rattle.std.specs.Prelude.{◌≡◌, refl, Bool, cond, ◌&&◌, length, get_or, None, Some}
use Rattle.std.proofs.Math.Path.{sym, ap}
use Rattle.std.proofs.Common.{◌∙◌, add-one, drop-cons, le-leb}
use Rattle.std.proofs.Math.Bool.{true, false}
use mathlib.Core.List.{List, [], ◌∷◌}
use Prim.Native.Nat.{ℕ, ◌+◌, ◌≤◌, ◌<◌, min}
use native.Mathlib.Omega.{arith}
use Rattle.std.proofs.Math.ListN.{drop, drop_of_length-le}
use Rattle.std.proofs.lemmas.Bool.{lt-leb}
use Rattle.std.specs.Char.{is_ascii_digit}
use Rattle.rules.specs.Lists.{all}
use Rattle.spelling.specs.Number.{first_digit, last_digit, digit, grown, value, number_of}
use Rattle.spelling.specs.Steps.{most, numeral}

-- ---- Digits

pub digit-yes : (b : ℕ) → first_digit ≤ b → b ≤ last_digit → digit b ≡ true
unfolding digit
digit-yes b l h = simp (le-leb _ _ l, le-leb _ _ h)

pub digit_low : (b : ℕ) → b < first_digit → digit b ≡ false
unfolding digit
digit_low b l = simp (lt-leb _ _ l)

pub digit-high : (b : ℕ) → first_digit ≤ b → last_digit < b → digit b ≡ false
unfolding digit
digit-high b l h = simp (le-leb _ _ l, lt-leb _ _ h)

-- the library's word for a digit
pub digit-is : (b : ℕ) {t : Bool} → t ≡ is_ascii_digit b → digit b ≡ t
unfolding digit
digit-is b e = sym e

-- ---- Numbers above the cap are one number

grown-capped : (b m n : ℕ) → min m most ≡ min n most → min (grown m b) most ≡ min (grown n b) most
unfolding grown
grown-capped b m n e = omega arith

value-capped : (l : List ℕ) (m n : ℕ) → min m most ≡ min n most → min (value m l) most ≡ min (value n l) most
value-capped [] m n e = e
value-capped (b ∷ l) m n e = value-capped l (grown m b) (grown n b) (grown-capped b m n e)

min-twice : (n : ℕ) → min n most ≡ min (min n most) most
min-twice n = omega arith

-- ---- Going through a word

module _ (word : List ℕ) where
  -- all before the place are digits, and write this number
  pub record Growing (number at : ℕ) : Type 0 where
    pub within : at ≤ length word
    pub small : number ≤ most
    pub digits : all digit word ≡ all digit (drop at word)
    pub written : min (value 0 word) most ≡ min (value number (drop at word)) most

  here : (at : ℕ) → at < length word → drop at word ≡ get_or word at 0 ∷ drop (at + 1) word
  here at l = rw add-one (drop-cons word at 0 l)

  pub growing-none : Growing 0 0
  growing-none = record { within = omega arith; small = omega arith; digits = refl; written = refl }

  pub growing-more : {number at : ℕ} (next : ℕ) → Growing number at → at < length word → digit (get_or word at 0) ≡ true → next ≡ min (grown number (get_or word at 0)) most → Growing next (at + 1)
  growing-more {number} {at} next g l yes' e =
      record {
        within = omega arith;
        small = omega arith;
        digits = g.digits ∙ ap (all digit) (here at l) ∙ ap (λ (t : Bool). t && all digit (drop (at + 1) word)) yes';
        written =
            g.written
            ∙ ap (λ (r : List ℕ). min (value number r) most) (here at l)
            ∙ value-capped (drop (at + 1) word) (grown number (get_or word at 0)) next (rw e (min-twice (grown number (get_or word at 0))));
      }

  -- a byte that is no digit
  pub growing-not : {number at : ℕ} → Growing number at → at < length word → digit (get_or word at 0) ≡ false → None ≡ numeral (number_of word)
  unfolding number_of numeral
  growing-not {number} {at} g l no' =
      let bad : all digit word ≡ false = g.digits ∙ ap (all digit) (here at l) ∙ ap (λ (t : Bool). t && all digit (drop (at + 1) word)) no' in
      sym (ap (λ (t : Bool). numeral (cond t (Some (value 0 word)) None)) bad)

  pub growing-whole : {number at : ℕ} → Growing number at → length word ≤ at → Some number ≡ numeral (number_of word)
  unfolding number_of numeral
  growing-whole {number} {at} g l =
      let none_left : drop at word ≡ [] = drop_of_length-le word {i = at} l in
      let good : all digit word ≡ true = g.digits ∙ ap (all digit) none_left in
      let same : number ≡ min (value 0 word) most = min-small number g.small ∙ sym (g.written ∙ ap (λ (r : List ℕ). min (value number r) most) none_left) in
      ap Some same ∙ sym (ap (λ (t : Bool). numeral (cond t (Some (value 0 word)) None)) good)
    where
      min-small : (n : ℕ) → n ≤ most → n ≡ min n most
      min-small n h = omega arith
