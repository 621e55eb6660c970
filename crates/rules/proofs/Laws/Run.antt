-- The flood over any graph marks exactly what walks of one colour reach from its seeds. The laws are those of a run, which has no
-- bound; that the bound of `flooded` suffices is a law apart.
use Rattle.std.specs.Prelude.{◌≡◌, refl, Bool, not, ◌↔◌, ◌⊎◌, ℕ, zero, suc, ◌+◌, ◌*◌, ◌≤◌, ◌<◌, length, get_or, set, replicate}
use Rattle.std.proofs.Common.{sym, ◌∙◌, subst, inl, inr, ⊎_elim, arith, length-append, length-set, get_or-set_same, get_or-set_other}
use Rattle.std.proofs.Math.Bool.{true, false}
use mathlib.Core.List.Memᴰ.{head}
use mathlib.Core.List.Memᴰ.{not-nil}
use mathlib.Core.List.Memᴰ.{tail}
use mathlib.Core.List.{List, [], ◌∷◌, ◌++◌, Memᴰ}
use mathlib.Core.List.Memᴰ
use mathlib.Core.List.Memᴰ.{append_cases}
use mathlib.Core.List.Memᴰ.{cases_cons}
use Rattle.std.proofs.lemmas.List.{length-replicate, get_or-replicate}
use borrow.Author.Tests.{not-true, not-false}
use Rattle.rules.specs.Lists.{count}
use Rattle.rules.specs.Reach.{Walk, here, step}
use Rattle.rules.specs.Flood.{fresh, flood, flooded, marked}
use Rattle.rules.proofs.Laws.Lists.{and_left, and_right, not-both, decided, equal_or_not, get_or-within, get_d_default, count-not-set, count-not-replicate}
use Rattle.rules.proofs.Laws.Reach.{walk_first}

-- ---- One mark

module _ (pass : ℕ → Bool) (marks : List Bool) (p : ℕ) where
  fresh-passed : fresh pass marks p ≡ true → pass p ≡ true
  unfolding fresh
  fresh-passed e = and_left _ _ e

  fresh_unmarked : fresh pass marks p ≡ true → get_or marks p true ≡ false
  unfolding fresh
  fresh_unmarked e = not-true _ (and_right (pass p) _ e)

  fresh-within : fresh pass marks p ≡ true → p < length marks
  fresh-within e = get_or-within marks p true (λ t. not-both t (fresh_unmarked e))

  not-fresh-marked : fresh pass marks p ≡ false → pass p ≡ true → p < length marks → marked marks p ≡ true
  unfolding fresh marked
  not-fresh-marked e t h = get_d_default marks p false true h ∙ not-false _ (rw t at e)

marked-set : (marks : List Bool) (p : ℕ) → p < length marks → marked (set marks p true) p ≡ true
unfolding marked
marked-set marks p h = get_or-set_same marks p true false h

marked-grows : (marks : List Bool) (p q : ℕ) → marked marks q ≡ true → marked (set marks p true) q ≡ true
unfolding marked
marked-grows marks p q e =
    ⊎_elim
    (λ s. subst (λ (r : ℕ). marked (set marks r true) q ≡ true) s (marked-set marks q (get_or-within marks q false (not-both e))))
    (λ n. get_or-set_other marks p q true false n ∙ e)
    (equal_or_not q p)

-- what is marked was marked before, or is the point marked now
set-marked : (marks : List Bool) (p q : ℕ) → marked (set marks p true) q ≡ true → (marked marks q ≡ true) ⊎ (q ≡ p)
unfolding marked
set-marked marks p q e = ⊎_elim inr (λ n. inl (sym (get_or-set_other marks p q true false n) ∙ e)) (equal_or_not q p)

-- ---- A run: the steps of the flood, from points to do and marks to the marks at its end

module _ (beside : ℕ → List ℕ) (pass : ℕ → Bool) where
  pub data Run (final : List Bool) : List ℕ → List Bool → Type 0 where
    done : Run final [] final
    skip : {p : ℕ} {todo : List ℕ} {marks : List Bool} → fresh pass marks p ≡ false → Run final todo marks → Run final (p ∷ todo) marks
    mark :
        {p : ℕ} {todo : List ℕ} {marks : List Bool} →
        fresh pass marks p ≡ true → Run final (beside p ++ todo) (set marks p true) → Run final (p ∷ todo) marks

  -- the bound suffices: each point to do is looked at, and each new mark puts at most four more to do
  module _ (few : (p : ℕ) → length (beside p) ≤ 4) where
    pub flood-run : (n : ℕ) (todo : List ℕ) (marks : List Bool) → length todo + 4 * count not marks ≤ n → Run (flood beside pass n todo marks) todo marks
    flood-run zero [] marks h = done
    flood-run zero (p ∷ todo) marks h = absurd (omega arith)
    flood-run (suc n) [] marks h = done
    flood-run (suc n) (p ∷ todo) marks h =
        ⊎_elim
        (λ (t : fresh pass marks p ≡ true).
        let l = length-append (beside p) todo in
        let s = count-not-set marks p (fresh_unmarked pass marks p t) in
        rw (t, flood) (mark t (flood-run n (beside p ++ todo) (set marks p true) (omega (arith, few p)))))
        (λ (f : fresh pass marks p ≡ false). rw (f, flood) (skip f (flood-run n todo marks (omega arith))))
        (decided (fresh pass marks p))

  pub flooded-run :
      (n : ℕ) (seeds : List ℕ) → ((p : ℕ) → length (beside p) ≤ 4) →
      Run (flooded beside pass n seeds) seeds (replicate n false)
  unfolding flooded
  flooded-run n seeds few = flood-run few (length seeds + 4 * n) seeds (replicate n false) (rw count-not-replicate (omega arith))

-- ---- What a run marks

-- Q holds at whatever lies beside a marked point and may be passed
abbrev pub Around : (ℕ → List ℕ) → (ℕ → Bool) → List Bool → (ℕ → Type 0) → Type 0
Around beside pass marks Q = (p q : ℕ) → marked marks p ≡ true → Memᴰ q (beside p) → pass q ≡ true → q < length marks → Q q

module _ {beside : ℕ → List ℕ} {pass : ℕ → Bool} {final : List Bool} where
  pub run_length : {todo : List ℕ} {marks : List Bool} → Run beside pass final todo marks → length final ≡ length marks
  run_length done = refl
  run_length (skip f r) = run_length r
  run_length (mark {p} {marks} t r) = run_length r ∙ length-set marks p true

  pub run-grows : {todo : List ℕ} {marks : List Bool} → Run beside pass final todo marks → (q : ℕ) → marked marks q ≡ true → marked final q ≡ true
  run-grows done q e = e
  run-grows (skip f r) q e = run-grows r q e
  run-grows (mark {p} {marks} t r) q e = run-grows r q (marked-grows marks p q e)

  -- a run has one end
  pub run-unique :
      {final' : List Bool} {todo : List ℕ} {marks : List Bool} → Run beside pass final todo marks → Run beside pass final' todo marks → final ≡ final'
  run-unique done done = refl
  run-unique (skip f r) (skip g s) = run-unique r s
  run-unique (skip f r) (mark t s) = absurd (not-both t f)
  run-unique (mark t r) (skip f s) = absurd (not-both t f)
  run-unique (mark t r) (mark u s) = run-unique r s

  -- a point to do that may be passed is marked at the end
  pub run-todo :
      {todo : List ℕ} {marks : List Bool} → Run beside pass final todo marks →
      (s : ℕ) → Memᴰ s todo → pass s ≡ true → s < length marks → marked final s ≡ true
  run-todo done s m t h = absurd (not-nil m)
  run-todo (skip {p} {marks} f r) s m t h =
      ⊎_elim
      (λ e. run-grows r s (not-fresh-marked pass marks s (subst (λ (x : ℕ). fresh pass marks x ≡ false) (sym e) f) t h))
      (λ n. run-todo r s n t h)
      (cases_cons m)
  run-todo (mark {p} {todo} {marks} f r) s m t h =
      ⊎_elim
      (λ e. run-grows r s (subst (λ (x : ℕ). marked (set marks x true) s ≡ true) e (marked-set marks s h)))
      (λ n. run-todo r s (Memᴰ.append_right (beside p) n) t (rw length-set h))
      (cases_cons m)

  -- nothing is left out: if what lies beside each marked point is marked or to do, then at the end it is marked
  pub run-closed :
      {todo : List ℕ} {marks : List Bool} → Run beside pass final todo marks →
      Around beside pass marks (λ q. (marked marks q ≡ true) ⊎ Memᴰ q todo) → Around beside pass final (λ q. marked final q ≡ true)
  run-closed done around = λ p q e m t h. ⊎_elim (λ y. y) (λ n. absurd (not-nil n)) (around p q e m t h)
  run-closed (skip {todo} {marks} f r) around = run-closed r still
    where
      still : Around beside pass marks (λ q. (marked marks q ≡ true) ⊎ Memᴰ q todo)
      still p q e m t h =
          ⊎_elim inl
          (λ n.
          ⊎_elim (λ same. inl (not-fresh-marked pass marks q (subst (λ (x : ℕ). fresh pass marks x ≡ false) (sym same) f) t h)) inr
          (cases_cons n))
          (around p q e m t h)
  run-closed (mark {p = s} {todo} {marks} f r) around = run-closed r still
    where
      still : Around beside pass (set marks s true) (λ q. (marked (set marks s true) q ≡ true) ⊎ Memᴰ q (beside s ++ todo))
      still p q e m t h =
          ⊎_elim
          (λ old.
          ⊎_elim (λ y. inl (marked-grows marks s q y))
          (λ n.
          ⊎_elim (λ same. inl (subst (λ (x : ℕ). marked (set marks x true) q ≡ true) same (marked-set marks q (rw length-set at h))))
          (λ later. inr (Memᴰ.append_right (beside s) later))
          (cases_cons n))
          (around p q old m t (rw length-set at h)))
          (λ new. inr (Memᴰ.append_left todo (subst (λ (x : ℕ). Memᴰ q (beside x)) new m)))
          (set-marked marks s p e)

  module _ {col : ℕ → ℕ} {c : ℕ} (means : (q : ℕ) → pass q ≡ true ↔ col q ≡ c) where
    -- what is marked at the end was marked before, or is reached from a point to do
    pub run_sound :
        {todo : List ℕ} {marks : List Bool} → Run beside pass final todo marks → (q : ℕ) → marked final q ≡ true →
        (marked marks q ≡ true) ⊎ ((s : ℕ) × Memᴰ s todo × (s < length marks) × Walk beside col c s q)
    run_sound done q e = inl e
    run_sound (skip f r) q e = ⊎_elim inl (λ w. inr (w.0, tail w.1, w.2, w.3)) (run_sound r q e)
    run_sound (mark {p} {todo} {marks} t r) q e =
        ⊎_elim
        (λ old. ⊎_elim inl (λ same. inr (p, head refl, within, subst (λ (x : ℕ). Walk beside col c p x) (sym same) (here of-colour))) (set-marked marks p q old))
        (λ w.
        ⊎_elim (λ m. inr (p, head refl, within, step of-colour m w.3))
        (λ m. inr (w.0, tail m, (rw length-set at w.2), w.3))
        (append_cases (beside p) w.1))
        (run_sound r q e)
      where
        of-colour : col p ≡ c
        of-colour = (means p).0 (fresh-passed pass marks p t)

        within : p < length marks
        within = fresh-within pass marks p t

-- ---- From nothing marked, a run marks what its seeds' walks reach

pub nothing-marked : (n q : ℕ) → marked (replicate n false) q ≡ true → ⊥
unfolding marked
nothing-marked n q e =
    let h : q < n = rw length-replicate at (get_or-within (replicate n false) q false (not-both e)) in
    not-both e (get_or-replicate n q false false h)

module _
    {beside : ℕ → List ℕ}
    {pass : ℕ → Bool}
    {col : ℕ → ℕ}
    {c : ℕ}
    (means : (q : ℕ) → pass q ≡ true ↔ col q ≡ c)
    (n : ℕ)
    (on : (p q : ℕ) → Memᴰ q (beside p) → q < n)
  where
    pub run-marks :
        {final : List Bool} {seeds : List ℕ} → Run beside pass final seeds (replicate n false) →
        (q : ℕ) → marked final q ≡ true ↔ ((s : ℕ) × Memᴰ s seeds × (s < n) × Walk beside col c s q)
    run-marks {final} run q = (
      λ e. ⊎_elim (λ none. absurd (nothing-marked n q none)) (λ w. (w.0, w.1, (rw length-replicate at w.2), w.3)) (run_sound means run q e),
      λ w. walked w.3 (run-todo run w.0 w.1 ((means w.0).1 (walk_first w.3)) (rw length-replicate w.2)),
    )
      where
        closed : Around beside pass final (λ q. marked final q ≡ true)
        closed = run-closed run (λ p q e m t h. absurd (nothing-marked n p e))

        walked : {s q : ℕ} → Walk beside col c s q → marked final s ≡ true → marked final q ≡ true
        walked (here e) y = y
        walked (step {p} {q} e m w) y = walked w (closed p q y m ((means q).1 (walk_first w)) (rw (run_length run, length-replicate) (on p q m)))

    pub flooded-marks :
        ((p : ℕ) → length (beside p) ≤ 4) →
        (seeds : List ℕ) (q : ℕ) →
        marked (flooded beside pass n seeds) q ≡ true ↔ ((s : ℕ) × Memᴰ s seeds × (s < n) × Walk beside col c s q)
    flooded-marks few seeds q = run-marks (flooded-run beside pass n seeds few) q

pub flooded-length :
    (beside : ℕ → List ℕ) (pass : ℕ → Bool) (n : ℕ) (seeds : List ℕ) → ((p : ℕ) → length (beside p) ≤ 4) → length (flooded beside pass n seeds) ≡ n
flooded-length beside pass n seeds few = run_length (flooded-run beside pass n seeds few) ∙ length-replicate n false
