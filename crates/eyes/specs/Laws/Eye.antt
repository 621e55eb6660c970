-- Laws of the eye test: the empty corners are asked one by one, and only points of the board are asked.
use Rattle.std.specs.Prelude.{◌≡◌, Bool, ◌||◌, ℕ, ◌+◌, ◌<◌, length, get_or, drop, Option, None, Some, unwrap_or, ◌≤◌}
use Rattle.std.proofs.Math.Path.{refl, ap, ap₂}
use Rattle.std.proofs.Common.{sym, ◌∙◌, ⊎_elim, add-one, drop-cons}
use Rattle.std.proofs.Math.ListN.{drop_of_length-le}
use Rattle.std.proofs.Math.Bool.{true, false, cond, ◌&&◌}
use mathlib.Core.List.Memᴰ
use mathlib.Core.List.{List, [], ◌∷◌, Memᴰ}
use Rattle.std.proofs.Math.Dec.{eqb}
use Rattle.rules.specs.Lists.{any, all, pick, present}
use Rattle.rules.specs.Colours.{empty, other, at}
use Rattle.rules.specs.Points.{Shift, area, towards, neighbours, corners}
use Rattle.rules.specs.Tests.{friendly, friendly_corners, two_or_three, empty_corners, eye_among, eye}
use Rattle.rules.proofs.Laws.Lists.{present-mem, any_same, all_same, pick_same}
use Rattle.rules.proofs.Laws.Counting.{count_same}
use Rattle.rules.proofs.Laws.Points.{towards-step, neighbours-on}
use Rattle.eyes.specs.Eye.{said, scanned}

-- ---- Corner by corner

module _ (h w : ℕ) (cols : List ℕ) (own : ℕ) where
  -- what the empty ones among these corners say
  abbrev pub among : List (Option ℕ) → Bool
  among os = eye_among h w cols own (pick (λ q. eqb (at cols q) empty) (present os))

  -- what a corner says, by the three tests
  pub scanned-tests :
      (o : Option ℕ) (q : ℕ) (vacant enemy two : Bool) → o ≡ Some q → eqb (at cols q) empty ≡ vacant
      → any (λ r. eqb (at cols r) (other own)) (neighbours h w q) ≡ enemy → two_or_three h w cols (friendly_corners h w cols own q) ≡ two
      → scanned h w cols own o ≡ cond vacant (cond enemy (Some false) (cond two (Some true) None)) None
  unfolding scanned said
  scanned-tests o q vacant enemy two there v e t =
      ap (scanned h w cols own) there ∙ ap (λ (x : Bool). cond x (said h w cols own q) None) v
      ∙ ap₂ (λ (x y : Bool). cond vacant (cond x (Some false) (cond y (Some true) None)) None) e t

  said-decides : (q : ℕ) (qs : List ℕ) → eye_among h w cols own (q ∷ qs) ≡ unwrap_or (said h w cols own q) (eye_among h w cols own qs)
  unfolding said
  said-decides q qs = go (any (λ r. eqb (at cols r) (other own)) (neighbours h w q)) (two_or_three h w cols (friendly_corners h w cols own q)) (eye_among h w cols own qs)
    where
      go : (enemy two rest : Bool) → cond enemy false (cond two true rest) ≡ unwrap_or (cond enemy (Some false) (cond two (Some true) None)) rest
      go true two rest = refl
      go false true rest = refl
      go false false rest = refl

  among_first : (o : Option ℕ) (os : List (Option ℕ)) → among (o ∷ os) ≡ unwrap_or (scanned h w cols own o) (among os)
  unfolding scanned
  among_first None os = refl
  among_first (Some q) os = go (eqb (at cols q) empty) (pick (λ r. eqb (at cols r) empty) (present os)) (said-decides q)
    where
      go : (t : Bool) (qs : List ℕ) → ((qs : List ℕ) → eye_among h w cols own (q ∷ qs) ≡ unwrap_or (said h w cols own q) (eye_among h w cols own qs))
          → eye_among h w cols own (cond t (q ∷ qs) qs) ≡ unwrap_or (cond t (said h w cols own q) None) (eye_among h w cols own qs)
      go true qs is = is qs
      go false qs is = refl

  pub among-all : (p : ℕ) → eye_among h w cols own (empty_corners h w cols p) ≡ among (drop 0 (corners h w p))
  unfolding empty_corners
  among-all p = refl

  pub among_next :
      (os : List (Option ℕ)) (d : ℕ) → d < length os → among (drop d os) ≡ unwrap_or (scanned h w cols own (get_or os d None)) (among (drop (d + 1) os))
  among_next os d l =
      ap among (drop-cons os d None l ∙ ap (λ (n : ℕ). get_or os d None ∷ drop n os) (sym (add-one d)))
      ∙ among_first (get_or os d None) (drop (d + 1) os)

  pub among_none : (os : List (Option ℕ)) (d : ℕ) → length os ≤ d → among (drop d os) ≡ false
  among_none os d l = ap among (drop_of_length-le os l)

  -- what the corners before the place d leave to say
  pub record Left (e : Bool) (os : List (Option ℕ)) (d : ℕ) : Type 0 where
    pub said-then : e ≡ among (drop d os)

  module _ (e : Bool) (os : List (Option ℕ)) (d : ℕ) (left : Left e os d) where
    -- the next one decides, or leaves it to the others
    pub decided-by : d < length os → (r s : Option Bool) → r ≡ scanned h w cols own (get_or os d None) → r ≡ s → e ≡ unwrap_or s (among (drop (d + 1) os))
    decided-by l r s here is =
        left.said-then ∙ among_next os d l ∙ ap (λ (o : Option Bool). unwrap_or o (among (drop (d + 1) os))) (sym here ∙ is)

    pub decided-none : length os ≤ d → e ≡ false
    decided-none l = left.said-then ∙ among_none os d l

-- the eye test, by its four parts
pub eye-tests :
    (h w : ℕ) (cols : List ℕ) (own p : ℕ) (surrounded four two rest : Bool) → all (λ q. eqb (at cols q) own) (neighbours h w p) ≡ surrounded
    → eqb (friendly_corners h w cols own p) 4 ≡ four → two_or_three h w cols (friendly_corners h w cols own p) ≡ two
    → eye_among h w cols own (empty_corners h w cols p) ≡ rest → eye h w cols own p ≡ surrounded && (four || (two && rest))
unfolding eye
eye-tests h w cols own p surrounded four two rest s f t r =
    ap₂ ◌&&◌ s (ap₂ ◌||◌ f (ap₂ ◌&&◌ t r))

-- ---- Only points of the board are asked

corner-on : (h w p q : ℕ) → Memᴰ (Some q) (corners h w p) → q < area h w
unfolding corners
corner-on h w p q m =
    ⊎_elim (on _ _)
    (λ m. ⊎_elim (on _ _) (λ m. ⊎_elim (on _ _) (λ m. ⊎_elim (on _ _) (λ m. absurd (Memᴰ.not-nil m)) (Memᴰ.cases_cons m)) (Memᴰ.cases_cons m)) (Memᴰ.cases_cons m))
    (Memᴰ.cases_cons m)
  where
    on : (dr dc : Shift) → Some q ≡ towards h w p dr dc → q < area h w
    on dr dc e = (towards-step h w p q dr dc (sym e)).to

module _ (h w : ℕ) (a b : List ℕ) (own : ℕ) (same : (q : ℕ) → q < area h w → at a q ≡ at b q) where
  same_test : (c q : ℕ) → q < area h w → eqb (at a q) c ≡ eqb (at b q) c
  same_test c q on = ap (λ (k : ℕ). eqb k c) (same q on)

  friendly_corners-same : (p : ℕ) → friendly_corners h w a own p ≡ friendly_corners h w b own p
  unfolding friendly_corners friendly
  friendly_corners-same p = count_same (friendly h w a own) (friendly h w b own) (corners h w p) each
    where
      each : (o : Option ℕ) → Memᴰ o (corners h w p) → friendly h w a own o ≡ friendly h w b own o
      each None m = refl
      each (Some q) m = same_test own q (corner-on h w p q m)

  eye_among-same : (qs : List ℕ) → eye_among h w a own qs ≡ eye_among h w b own qs
  unfolding two_or_three
  eye_among-same [] = refl
  eye_among-same (q ∷ qs) =
      ap₂ (λ (enemy rest : Bool). cond enemy false rest)
      (any_same (λ r. eqb (at a r) (other own)) (λ r. eqb (at b r) (other own)) (neighbours h w q) (λ r m. same_test (other own) r (neighbours-on h w q r m)))
      (ap₂ (λ (n : ℕ) (rest : Bool). cond (two_or_three h w a n) true rest) (friendly_corners-same q) (eye_among-same qs))

  empty_corners-same : (p : ℕ) → empty_corners h w a p ≡ empty_corners h w b p
  unfolding empty_corners
  empty_corners-same p =
      pick_same (λ q. eqb (at a q) empty) (λ q. eqb (at b q) empty) (present (corners h w p))
      (λ q m. same_test empty q (corner-on h w p q (present-mem (corners h w p) m)))

  -- colours that agree on the board's points have the same eyes
  pub eye-same : (p : ℕ) → eye h w a own p ≡ eye h w b own p
  unfolding eye two_or_three
  eye-same p =
      ap₂ ◌&&◌
      (all_same (λ q. eqb (at a q) own) (λ q. eqb (at b q) own) (neighbours h w p) (λ q m. same_test own q (neighbours-on h w p q m)))
      (ap₂ (λ (n : ℕ) (t : Bool). eqb n 4 || (two_or_three h w a n && t)) (friendly_corners-same p)
      (eye_among-same (empty_corners h w a p) ∙ ap (eye_among h w b own) (empty_corners-same p)))
