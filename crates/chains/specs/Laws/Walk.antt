-- Laws of the walk: a step may be taken first or last, and the walk's length is the greatest that stays among the points.
use Rattle.std.specs.Prelude.{Bool, true, false, cond, ◌≡◌, refl, ◌≢◌, ltb, length, get_or, set}
use Rattle.std.proofs.Common.{sym, ◌∙◌, not-suc-le-zero, le_of_suc-le-suc, zero-add, add-zero, add-suc, suc-add, le_refl, le_antisymm, arith, get_or-set_other, lt-ltb, le-ltb, ltb-true}
use Rattle.std.proofs.Math.Path.{ap, fun_ext}
use mathlib.Core.List.Memᴰ
use mathlib.Core.List.{List, [], ◌∷◌, ◌++◌, Memᴰ}
use Prim.Native.Nat.{ℕ, zero, suc, ◌+◌, ◌≤◌, ◌<◌, min, zero-le, suc-le-suc}
use Rattle.std.proofs.Math.Nat.{le_trans, min-le_left, min-le_right, le-min}
use Rattle.rules.specs.Sizes.{max_area}
use Rattle.rules.specs.Lists.{tabulate}
use Rattle.chains.specs.Walk.{stepped, walked, on_board, walk_length}
use Rattle.rules.proofs.Laws.Lists.{length-tabulate, get_d_tabulate, tabulate-mem, mem-tabulate}
use Rattle.rules.proofs.Laws.Places.{tabulate-ext, tabulate-suc, tabulate-shift}

module _ (next : List ℕ) where
  -- the first step taken first
  pub stepped-first : (p k : ℕ) → stepped next (get_or next p 0) k ≡ stepped next p (suc k)
  stepped-first p zero = refl
  stepped-first p (suc k) = ap (λ (q : ℕ). get_or next q 0) (stepped-first p k)

  pub stepped-add : (p j k : ℕ) → stepped next (stepped next p j) k ≡ stepped next p (j + k)
  stepped-add p j zero = ap (stepped next p) (sym (add-zero j))
  stepped-add p j (suc k) = ap (λ (q : ℕ). get_or next q 0) (stepped-add p j k) ∙ ap (stepped next p) (sym (add-suc j k))

  -- ---- The points walked

  pub length-walked : (p n : ℕ) → length (walked next p n) ≡ n
  unfolding walked
  length-walked p n = length-tabulate (stepped next p) 0 n

  pub get_or-walked : (p n k d : ℕ) → k < n → get_or (walked next p n) k d ≡ stepped next p k
  unfolding walked
  get_or-walked p n k d h = get_d_tabulate (stepped next p) 0 n k d h ∙ ap (stepped next p) (zero-add k)

  pub walked-mem : (p n : ℕ) {q : ℕ} → Memᴰ q (walked next p n) → (k : ℕ) × (k < n) × (q ≡ stepped next p k)
  unfolding walked
  walked-mem p n m = let (k, l, e) = tabulate-mem (stepped next p) 0 n m in (k, l, e ∙ ap (stepped next p) (zero-add k))

  pub mem-walked : (p n k : ℕ) → k < n → Memᴰ (stepped next p k) (walked next p n)
  unfolding walked
  mem-walked p n k h = Memᴰ.cast (ap (stepped next p) (sym (zero-add k))) (mem-tabulate (stepped next p) 0 n k h)

  pub walked-suc : (p n : ℕ) → walked next p (suc n) ≡ walked next p n ++ (stepped next p n ∷ [])
  unfolding walked
  walked-suc p n =
      tabulate-suc (stepped next p) 0 n ∙ ap (λ (k : ℕ). tabulate (stepped next p) 0 n ++ (stepped next p k ∷ [])) (zero-add n)

  -- the first point apart
  pub walked-first : (p n : ℕ) → walked next p (suc n) ≡ p ∷ walked next (get_or next p 0) n
  unfolding walked
  walked-first p n =
      ap (λ (l : List ℕ). p ∷ l)
      (tabulate-shift (stepped next p) 0 n ∙ ap (λ (f : ℕ → ℕ). tabulate f 0 n) (sym (fun_ext (stepped-first p))))

  -- the first j points, and the k from there on
  pub walked-add : (p j k : ℕ) → walked next p (j + k) ≡ walked next p j ++ walked next (stepped next p j) k
  unfolding walked
  walked-add p zero k = ap (walked next p) (zero-add k)
  walked-add p (suc j) k =
      ap (walked next p) (suc-add j k) ∙ walked-first p (j + k)
      ∙ ap (λ (l : List ℕ). p ∷ l)
      (walked-add (get_or next p 0) j k
      ∙ ap (λ (q : ℕ). walked next (get_or next p 0) j ++ walked next q k) (stepped-first p j))
      ∙ ap (λ (l : List ℕ). l ++ walked next (stepped next p (suc j)) k) (sym (walked-first p j))

  -- ---- How far the walk goes

  pub on_board-le : (p n : ℕ) → on_board next p n ≤ n
  on_board-le p zero = zero-le
  on_board-le p (suc n) = elim (ltb p max_area) as (λ b. cond b (suc (on_board next (get_or next p 0) n)) 0 ≤ suc n) [
    | true ↦ suc-le-suc (on_board-le (get_or next p 0) n)
    | false ↦ zero-le
  ]

  -- what stays among the points for n steps, and stops there if not all m are gone, is n long
  pub on_board-is :
      (p n m : ℕ) → n ≤ m → ((k : ℕ) → k < n → stepped next p k < max_area) → (n < m → max_area ≤ stepped next p n)
      → on_board next p m ≡ n
  on_board-is p zero zero h on stop = refl
  on_board-is p zero (suc m) h on stop = rw (le-ltb p max_area (stop (suc-le-suc zero-le)))
  on_board-is p (suc n) zero h on stop = absurd (not-suc-le-zero h)
  on_board-is p (suc n) (suc m) h on stop =
      rw (lt-ltb p max_area (on 0 (suc-le-suc zero-le)))
      (ap suc (on_board-is (get_or next p 0) n m (le_of_suc-le-suc h)
      (λ k l. rw stepped-first (on (suc k) (suc-le-suc l)))
      (λ l. rw stepped-first (stop (suc-le-suc l)))))

  -- all that is walked is a point
  pub on_board-points : (p n k : ℕ) → k < on_board next p n → stepped next p k < max_area
  on_board-points p zero k h = absurd (not-suc-le-zero h)
  on_board-points p (suc n) k h = go (ltb p max_area) refl k (on_board-points (get_or next p 0) n) h
    where
      go : (b : Bool) → ltb p max_area ≡ b → (k : ℕ)
          → ((j : ℕ) → j < on_board next (get_or next p 0) n → stepped next (get_or next p 0) j < max_area)
          → k < cond b (suc (on_board next (get_or next p 0) n)) 0 → stepped next p k < max_area
      go true e zero rest l = ltb-true p max_area e
      go true e (suc k) rest l = rw stepped-first at (rest k (le_of_suc-le-suc l))
      go false e k rest l = absurd (not-suc-le-zero l)

  -- no greater walk stays among the points
  pub on_board-greatest :
      (p n m : ℕ) → n ≤ m → ((k : ℕ) → k < n → stepped next p k < max_area) → n ≤ on_board next p m
  on_board-greatest p zero m h on = zero-le
  on_board-greatest p (suc n) zero h on = absurd (not-suc-le-zero h)
  on_board-greatest p (suc n) (suc m) h on =
      rw (lt-ltb p max_area (on 0 (suc-le-suc zero-le)))
      (suc-le-suc (on_board-greatest (get_or next p 0) n m (le_of_suc-le-suc h) (λ k l. rw stepped-first (on (suc k) (suc-le-suc l)))))

  pub walk_length-le : (p count : ℕ) → walk_length next p count ≤ count
  unfolding walk_length
  walk_length-le p count = le_trans (on_board-le p (min count max_area)) (min-le_left count max_area)

  pub walk_length-area : (p count : ℕ) → walk_length next p count ≤ max_area
  unfolding walk_length
  walk_length-area p count = le_trans (on_board-le p (min count max_area)) (min-le_right count max_area)

  pub walk_length-points : (p count k : ℕ) → k < walk_length next p count → stepped next p k < max_area
  unfolding walk_length
  walk_length-points p count k h = on_board-points p (min count max_area) k h

  pub walk_length-greatest :
      (p count n : ℕ) → n ≤ count → n ≤ max_area → ((k : ℕ) → k < n → stepped next p k < max_area) → n ≤ walk_length next p count
  unfolding walk_length
  walk_length-greatest p count n h l on = on_board-greatest p n (min count max_area) (le-min h l) on

  -- a chain whose stones are all points is walked whole
  pub walk_length-whole :
      (p count : ℕ) → count ≤ max_area → ((k : ℕ) → k < count → stepped next p k < max_area) → walk_length next p count ≡ count
  walk_length-whole p count l on =
      le_antisymm (walk_length-le p count) (walk_length-greatest p count count (le_refl count) l on)

-- ---- Two lists of links

module _ (next other : List ℕ) (p : ℕ) where
  -- the links of the points passed are all that counts
  pub stepped_same :
      (k : ℕ) → ((j : ℕ) → j < k → get_or other (stepped next p j) 0 ≡ get_or next (stepped next p j) 0)
      → stepped other p k ≡ stepped next p k
  stepped_same zero h = refl
  stepped_same (suc k) h =
      ap (λ (q : ℕ). get_or other q 0) (stepped_same k (λ j l. h j (omega arith))) ∙ h k (omega arith)

  pub walked_same :
      (n : ℕ) → ((j : ℕ) → j < n → get_or other (stepped next p j) 0 ≡ get_or next (stepped next p j) 0)
      → walked other p n ≡ walked next p n
  unfolding walked
  walked_same n h =
      tabulate-ext (stepped other p) (stepped next p) 0 n (λ k l. stepped_same (0 + k) (λ j m. h j (omega arith)))

-- a link that is not passed may be set
pub stepped-set :
    (next : List ℕ) (i v p k : ℕ) → ((j : ℕ) → j < k → stepped next p j ≢ i) → stepped (set next i v) p k ≡ stepped next p k
stepped-set next i v p k h =
    stepped_same next (set next i v) p k (λ j l. get_or-set_other next i (stepped next p j) v 0 (h j l))
