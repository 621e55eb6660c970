-- A promise leaves nothing free but what a true board leaves free: two results that meet it are equal in answer, view and bytes. Whether
-- the state is true need not be decided: numbers, lists and options that are equal either way are equal.
use Rattle.std.specs.Prelude.{◌≡◌, refl, Bool, true, false, List, ◌⊎◌, ℕ, Option, None, Some}
use Rattle.std.proofs.Common.{sym, ap, ◌∙◌, inl, inr, ⊎_elim}
use Rattle.std.proofs.Math.Logic.{⊎_map}
use Rattle.std.proofs.lemmas.Option.{none-some, same_Some}
use Rattle.rules.specs.Lists.{same}
use Rattle.rules.specs.Game as rules
use Rattle.rules.specs.Calls.{Result}
use Rattle.rules.proofs.Laws.Lists.{decided, equal_or_not, both_ways, not-both, same-equal, same_self}
use Rattle.game.specs.declared.state.Game.{Game}
use Rattle.game.specs.View.{view_of}
use Rattle.game.specs.Promise.{Called, CalledAlone}
use Rattle.playing.specs.Promise.{CalledTrue}

-- ---- Equal either way

either_way : {A P : Type 0} {x y : A} → (x ≡ y) ⊎ ¬ (x ≡ y) → (P → x ≡ y) → (¬ P → x ≡ y) → x ≡ y
either_way (inl e) f g = e
either_way (inr n) f g = absurd (n (g (λ p. n (f p))))

lists-or-not : (xs ys : List ℕ) → (xs ≡ ys) ⊎ ¬ (xs ≡ ys)
lists-or-not xs ys =
    ⊎_map (same-equal xs ys) (λ (n : same xs ys ≡ false) e. not-both (ap (same xs) (sym e) ∙ same_self xs) n) (decided (same xs ys))

points-or-not : (x y : Option ℕ) → (x ≡ y) ⊎ ¬ (x ≡ y)
points-or-not None None = inl refl
points-or-not None (Some n) = inr (λ e. none-some n e)
points-or-not (Some m) None = inr (λ e. none-some m (sym e))
points-or-not (Some m) (Some n) = ⊎_map (ap Some) (λ apart e. apart (same_Some m n e)) (equal_or_not m n)

marks-or-not : (a b : Bool) → (a ≡ b) ⊎ ¬ (a ≡ b)
marks-or-not true b = ⊎_map sym (λ n e. not-both (sym e) n) (decided b)
marks-or-not false b = ⊎_elim (λ y. inr (λ e. not-both y (sym e))) (λ n. inl (sym n)) (decided b)

module _ {P : Type 0} {v v' : rules.Game} (f : P → v ≡ v') (g : ¬ P → v ≡ v') where
  number : (field : rules.Game → ℕ) → field v ≡ field v'
  number field = both_ways (λ p. ap field (f p)) (λ n. ap field (g n))

  views_same : v ≡ v'
  views_same =
      λ i.
      record {
        height = number (λ w. w.height) i;
        width = number (λ w. w.width) i;
        flags = number (λ w. w.flags) i;
        colours = either_way (lists-or-not v.colours v'.colours) (λ p. ap (λ (w : rules.Game). w.colours) (f p)) (λ n. ap (λ (w : rules.Game). w.colours) (g n)) i;
        turn = number (λ w. w.turn) i;
        passes = number (λ w. w.passes) i;
        white_held = number (λ w. w.white_held) i;
        black_held = number (λ w. w.black_held) i;
        ko_point = either_way (points-or-not v.ko_point v'.ko_point) (λ p. ap (λ (w : rules.Game). w.ko_point) (f p)) (λ n. ap (λ (w : rules.Game). w.ko_point) (g n)) i;
        outcome = either_way (points-or-not v.outcome v'.outcome) (λ p. ap (λ (w : rules.Game). w.outcome) (f p)) (λ n. ap (λ (w : rules.Game). w.outcome) (g n)) i;
        handicap = number (λ w. w.handicap) i;
        accepted = number (λ w. w.accepted) i;
        black_put = number (λ w. w.black_put) i;
        white_put = number (λ w. w.white_put) i;
        records = number (λ w. w.records) i;
        begun = either_way (marks-or-not v.begun v'.begun) (λ p. ap (λ (w : rules.Game). w.begun) (f p)) (λ n. ap (λ (w : rules.Game). w.begun) (g n)) i;
      }

-- ---- Two results

module _ {call : Result} {g : Game} {a a' : ℕ} {g' g'' : Game} where
  pub alone-unique : CalledAlone call g a g' → CalledAlone call g a' g'' → (a ≡ a') × (view_of g' ≡ view_of g'')
  alone-unique p q = (
    both_ways (λ is. p.answered is ∙ sym (q.answered is)) (λ n. (p.damaged n).0 ∙ sym (q.damaged n).0),
    views_same (λ is. p.shown is ∙ sym (q.shown is)) (λ n. ap view_of ((p.damaged n).1 ∙ sym (q.damaged n).1)),
  )

  module _ {bytes bytes' bytes'' : List ℕ} where
    pub called-unique : {P : Type 0} → Called P call g bytes a g' bytes' → Called P call g bytes a' g'' bytes'' → (a ≡ a') × (view_of g' ≡ view_of g'') × (bytes' ≡ bytes'')
    called-unique p q = (
      both_ways (λ is. p.answered is ∙ sym (q.answered is)) (λ n. (p.damaged n).0 ∙ sym (q.damaged n).0),
      views_same (λ is. p.shown is ∙ sym (q.shown is)) (λ n. ap view_of ((p.damaged n).1 ∙ sym (q.damaged n).1)),
      either_way (lists-or-not bytes' bytes'') (λ is. p.lent is ∙ sym (q.lent is)) (λ n. (p.damaged n).2 ∙ sym (q.damaged n).2),
    )

    pub true-unique : CalledTrue call g bytes a g' bytes' → CalledTrue call g bytes a' g'' bytes'' → (a ≡ a') × (view_of g' ≡ view_of g'') × (bytes' ≡ bytes'')
    true-unique p q = (p.answered ∙ sym q.answered, p.shown ∙ sym q.shown, p.lent ∙ sym q.lent)
