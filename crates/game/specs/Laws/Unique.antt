-- What is equal whether a statement holds or not is equal: so two results that meet one promise are, though no law decides if a state is true.
use Rattle.std.specs.Prelude.{◌≡◌, refl, Bool, true, false, List, ◌⊎◌, ℕ, Option, None, Some}
use Rattle.std.proofs.Common.{sym, ap, ◌∙◌, inl, inr, ⊎_elim}
use Rattle.std.proofs.Math.Logic.{⊎_map}
use Rattle.std.proofs.lemmas.Option.{none-some, same_Some}
use Rattle.rules.specs.Lists.{same}
use Rattle.rules.specs.Game as rules
use Rattle.rules.proofs.Laws.Lists.{decided, equal_or_not, both_ways, not-both, same-equal, same_self}

either_way : {A P : Type 0} {x y : A} → (x ≡ y) ⊎ ¬ (x ≡ y) → (P → x ≡ y) → (¬ P → x ≡ y) → x ≡ y
either_way (inl e) f g = e
either_way (inr n) f g = absurd (n (g (λ p. n (f p))))

lists-or-not : (xs ys : List ℕ) → (xs ≡ ys) ⊎ ¬ (xs ≡ ys)
lists-or-not xs ys =
    ⊎_map (same-equal xs ys) (λ (n : same xs ys ≡ false) e. not-both (ap (same xs) (sym e) ∙ same_self xs) n) (decided (same xs ys))

pub bytes_same : {P : Type 0} (xs ys : List ℕ) → (P → xs ≡ ys) → (¬ P → xs ≡ ys) → xs ≡ ys
bytes_same xs ys = either_way (lists-or-not xs ys)

points-or-not : (x y : Option ℕ) → (x ≡ y) ⊎ ¬ (x ≡ y)
points-or-not None None = inl refl
points-or-not None (Some n) = inr (λ e. none-some n e)
points-or-not (Some m) None = inr (λ e. none-some m (sym e))
points-or-not (Some m) (Some n) = ⊎_map (ap Some) (λ apart e. apart (same_Some m n e)) (equal_or_not m n)

marks-or-not : (a b : Bool) → (a ≡ b) ⊎ ¬ (a ≡ b)
marks-or-not true b = ⊎_map sym (λ n e. not-both (sym e) n) (decided b)
marks-or-not false b = ⊎_elim (λ y. inr (λ e. not-both y (sym e))) (λ n. inl (sym n)) (decided b)

module _ {P : Type 0} {v v' : rules.Game} (f : P → v ≡ v') (g : ¬ P → v ≡ v') where
  number : (field : rules.Game → ℕ) → field v ≡ field v'
  number field = both_ways (λ p. ap field (f p)) (λ n. ap field (g n))

  pub views_same : v ≡ v'
  views_same =
      λ i.
      record {
        height = number (λ w. w.height) i;
        width = number (λ w. w.width) i;
        flags = number (λ w. w.flags) i;
        colours = either_way (lists-or-not v.colours v'.colours) (λ p. ap (λ (w : rules.Game). w.colours) (f p)) (λ n. ap (λ (w : rules.Game). w.colours) (g n)) i;
        turn = number (λ w. w.turn) i;
        passes = number (λ w. w.passes) i;
        white_held = number (λ w. w.white_held) i;
        black_held = number (λ w. w.black_held) i;
        ko_point = either_way (points-or-not v.ko_point v'.ko_point) (λ p. ap (λ (w : rules.Game). w.ko_point) (f p)) (λ n. ap (λ (w : rules.Game). w.ko_point) (g n)) i;
        outcome = either_way (points-or-not v.outcome v'.outcome) (λ p. ap (λ (w : rules.Game). w.outcome) (f p)) (λ n. ap (λ (w : rules.Game). w.outcome) (g n)) i;
        handicap = number (λ w. w.handicap) i;
        accepted = number (λ w. w.accepted) i;
        black_put = number (λ w. w.black_put) i;
        white_put = number (λ w. w.white_put) i;
        records = number (λ w. w.records) i;
        begun = either_way (marks-or-not v.begun v'.begun) (λ p. ap (λ (w : rules.Game). w.begun) (f p)) (λ n. ap (λ (w : rules.Game). w.begun) (g n)) i;
      }
