-- Laws of Reach, over any graph of points: walks join and turn round, what happens elsewhere leaves a chain as it is, and a colour
-- is cleared in one way only.
use Rattle.std.specs.Prelude.{◌≡◌, ◌↔◌, ◌≢◌, ◌⊎◌, ℕ}
use Rattle.std.proofs.Common.{sym, ap, ◌∙◌, subst, inl, inr, ⊎_elim}
use Rattle.std.proofs.Math.Path.{fun_ext}
use mathlib.Core.List.Memᴰ
use mathlib.Core.List.{List, Memᴰ}
use Rattle.rules.specs.Colours.{empty, other}
use Rattle.rules.specs.Reach.{Walk, here, step, Reaches, Clearing, Move}
use Rattle.rules.proofs.Laws.Lists.{equal_or_not, both_ways}

-- ---- Walks

module _ {beside : ℕ → List ℕ} {col : ℕ → ℕ} {c : ℕ} where
  pub walk_first : {p q : ℕ} → Walk beside col c p q → col p ≡ c
  walk_first (here e) = e
  walk_first (step e m w) = e

  pub walk-last : {p q : ℕ} → Walk beside col c p q → col q ≡ c
  walk-last (here e) = e
  walk-last (step e m w) = walk-last w

  pub walk-join : {p q r : ℕ} → Walk beside col c p q → Walk beside col c q r → Walk beside col c p r
  walk-join (here e) v = v
  walk-join (step e m w) v = step e m (walk-join w v)

  -- one step more at the end
  pub walk-on : {p q r : ℕ} → Walk beside col c p q → Memᴰ r (beside q) → col r ≡ c → Walk beside col c p r
  walk-on w m e = walk-join w (step (walk-last w) m (here e))

  pub walk-reverse : ((p q : ℕ) → Memᴰ q (beside p) → Memᴰ p (beside q)) → {p q : ℕ} → Walk beside col c p q → Walk beside col c q p
  walk-reverse turn (here e) = here e
  walk-reverse turn (step {p} {q} e m w) = walk-on (walk-reverse turn w) (turn p q m) e

-- what is reached at the end of a walk is reached from its start
pub walk-reaches :
    {beside : ℕ → List ℕ} {col : ℕ → ℕ} {c p q e : ℕ} → Walk beside col c p q → Reaches beside col q e → Reaches beside col p e
walk-reaches {beside} {col} {c} {p} {q} w r =
    record {
      apart = λ z. r.apart (walk-last w ∙ sym (walk_first w) ∙ z);
      last = r.last;
      walk =
          subst (λ (x : ℕ). Walk beside col x p r.last) (sym (walk_first w))
          (walk-join w (subst (λ (x : ℕ). Walk beside col x q r.last) (walk-last w) r.walk));
      target = r.target;
      next = r.next;
      there = r.there;
    }

-- ---- Two colourings, before and after a change

module _ {beside : ℕ → List ℕ} {col col' : ℕ → ℕ} {c : ℕ} where
  -- what is reached from p kept its colour: the walk is still there
  pub walk_kept : {p q : ℕ} → ((x : ℕ) → Walk beside col c p x → col' x ≡ c) → Walk beside col c p q → Walk beside col' c p q
  walk_kept {p} kept (here e) = here (kept p (here e))
  walk_kept {p} kept (step e m w) = step (kept p (here e)) m (walk_kept (λ x v. kept x (step e m v)) w)

  -- nothing beside what is reached from p took the colour: no walk is new
  pub walk-old :
      {p q : ℕ} →
      col p ≡ c →
      ((x y : ℕ) → Walk beside col c p x → Memᴰ y (beside x) → col' y ≡ c → col y ≡ c) →
      Walk beside col' c p q → Walk beside col c p q
  walk-old first none (here e) = here first
  walk-old {p} first none (step {q} e m w) =
      let second : col q ≡ c = none p q (here first) m (walk_first w) in
      step first m (walk-old second (λ x y v. none x y (step first m v)) w)

  -- walks of a colour depend on where that colour stands, and on nothing else
  pub walk-agree : {p q : ℕ} → ((x : ℕ) → col x ≡ c → col' x ≡ c) → Walk beside col c p q → Walk beside col' c p q
  walk-agree agree w = walk_kept (λ x v. agree x (walk-last v)) w

  -- a change at the point x alone, outside p's chain, which gives x the chain's colour only where x is not beside the chain
  pub walk-elsewhere :
      {p : ℕ} (q x : ℕ) →
      col p ≡ c →
      ((y : ℕ) → y ≢ x → col' y ≡ col y) →
      ¬ Walk beside col c p x →
      ((y : ℕ) → Walk beside col c p y → Memᴰ x (beside y) → col' x ≢ c) →
      Walk beside col c p q ↔ Walk beside col' c p q
  walk-elsewhere {p} q x first same out near = (walk_kept kept, walk-old first old)
    where
      kept : (y : ℕ) → Walk beside col c p y → col' y ≡ c
      kept y v = same y (λ e. out (subst (λ (z : ℕ). Walk beside col c p z) e v)) ∙ walk-last v

      old : (y z : ℕ) → Walk beside col c p y → Memᴰ z (beside y) → col' z ≡ c → col z ≡ c
      old y z v m e = ⊎_elim (λ s. absurd (near y v (Memᴰ.cast (sym s) m) (ap col' (sym s) ∙ e))) (λ n. sym (same z n) ∙ e) (equal_or_not z x)

  -- x alone took the colour: a walk is as before, or it leads on from x
  pub walk_put :
      {p q : ℕ} (x : ℕ) →
      ((y : ℕ) → y ≢ x → col' y ≡ col y) →
      Walk beside col' c p q → Walk beside col c p q ⊎ ((q ≡ x) ⊎ ((r : ℕ) × Memᴰ r (beside x) × Walk beside col c r q))
  walk_put {p} x same (here e) = ⊎_elim (λ s. inr (inl s)) (λ n. inl (here (sym (same p n) ∙ e))) (equal_or_not p x)
  walk_put {p} {q} x same (step {q = r} e m w) =
      ⊎_elim
      (λ v.
      ⊎_elim (λ s. inr (inr (r, subst (λ (y : ℕ). Memᴰ r (beside y)) s m, v))) (λ n. inl (step (sym (same p n) ∙ e) m v)) (equal_or_not p x))
      inr
      (walk_put x same w)

-- a walk of one colouring is a walk of another where its colour has another name
pub walk-renamed :
    {beside : ℕ → List ℕ} {col col' : ℕ → ℕ} {c c' p q : ℕ} →
    ((x : ℕ) → col x ≡ c → col' x ≡ c') → Walk beside col c p q → Walk beside col' c' p q
walk-renamed {p = p} named (here e) = here (named p e)
walk-renamed {p = p} named (step e m w) = step (named p e) m (walk-renamed named w)

-- ---- Clearing

-- whether a point reaches empty need not be decided for this
pub clearing-unique :
    {beside : ℕ → List ℕ} {col : ℕ → ℕ} {c : ℕ} {after after' : ℕ → ℕ} →
    Clearing beside col c after → Clearing beside col c after' → (p : ℕ) → after p ≡ after' p
clearing-unique {beside} {col} {c} a b p =
    ⊎_elim
    (λ e. both_ways {P = Reaches beside col p empty} (λ r. a.alive p e r ∙ sym (b.alive p e r)) (λ n. a.emptied p e n ∙ sym (b.emptied p e n)))
    (λ n. a.others p n ∙ sym (b.others p n))
    (equal_or_not (col p) c)

-- ---- A move

-- Tromp-Taylor 7 leaves nothing open: two moves at one point of one board leave the same colours
pub move-unique :
    {beside : ℕ → List ℕ} {before : ℕ → ℕ} {own p : ℕ} {after after' : ℕ → ℕ} →
    Move beside before own p after → Move beside before own p after' → (q : ℕ) → after q ≡ after' q
move-unique {beside} {before} {own} {p} {after} {after'} a b = clearing-unique a.self (subst (λ (c : ℕ → ℕ). Clearing beside c own after') (sym taken) b.self)
  where
    put : a.coloured ≡ b.coloured
    put = fun_ext (λ q. ⊎_elim (λ s. ap a.coloured s ∙ a.put ∙ sym b.put ∙ ap b.coloured (sym s)) (λ n. a.rest q n ∙ sym (b.rest q n)) (equal_or_not q p))

    taken : a.captured ≡ b.captured
    taken = fun_ext (clearing-unique a.opponent (subst (λ (c : ℕ → ℕ). Clearing beside c (other own) b.captured) (sym put) b.opponent))
