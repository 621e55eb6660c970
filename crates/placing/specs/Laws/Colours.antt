-- Laws of colours: a point that is coloured and the others, an empty board, and colours that no one has.
use Rattle.std.specs.Prelude.{◌≡◌, refl, Bool, false, List, [], ◌∷◌, ◌≢◌, ℕ, zero, suc, ◌≤◌, ◌<◌, ltb, length, get_or}
use Rattle.std.proofs.Math.Path.{ap}
use Rattle.std.proofs.Common.{◌∙◌, inl, inr, ⊎_elim, arith, ltb-true, ltb-false}
use Rattle.std.proofs.Math.ListN.{set, length-set}
use Rattle.std.proofs.lemmas.List.{length-replicate}
use Rattle.std.proofs.Math.Seq.{get_or-set_same, get_or-set_other, set-get_or, set_out}
use Rattle.rules.specs.Lists.{any}
use Rattle.rules.specs.Colours.{empty, black, white, at}
use Rattle.rules.specs.Points.{area}
use Rattle.rules.specs.Move.{coloured}
use Rattle.rules.specs.Game.{Player, empty_board}
use Rattle.rules.proofs.Laws.Lists.{or-none-left, or-none-right, decided, equal_or_not, get_or-replicate-same}

-- ---- Lists

-- what no element passes, no place passes, if what stands beyond the list does not
pub get_or-no : {A : Type 0} (f : A → Bool) (l : List A) (p : ℕ) (d : A) → f d ≡ false → any f l ≡ false → f (get_or l p d) ≡ false
get_or-no f [] p d beyond e = beyond
get_or-no f (x ∷ xs) zero d beyond e = or-none-left (f x) (any f xs) e
get_or-no f (x ∷ xs) (suc p) d beyond e = get_or-no f xs p d beyond (or-none-right (f x) (any f xs) e)

-- ---- A point is coloured

module _ (cols : List ℕ) (c p : ℕ) where
  pub coloured-length : length (coloured cols c p) ≡ length cols
  unfolding coloured
  coloured-length = length-set cols p c

  pub coloured-here : p < length cols → at (coloured cols c p) p ≡ c
  unfolding coloured at
  coloured-here on = get_or-set_same cols p c empty on

  pub coloured-else : (q : ℕ) → q ≢ p → at (coloured cols c p) q ≡ at cols q
  unfolding coloured at
  coloured-else q n = get_or-set_other cols p q c empty n

  -- the colour that stood there already
  pub coloured-same : c ≡ at cols p → coloured cols c p ≡ cols
  unfolding coloured at
  coloured-same e = ap (λ (x : ℕ). set cols p x) e ∙ set-get_or cols p empty

-- ---- Colours that players have

pub known-colours : (cols : List ℕ) → any (ltb white) cols ≡ false → (p : ℕ) → at cols p ≤ white
unfolding at
known-colours cols e p = ltb-false white (get_or cols p empty) (get_or-no (ltb white) cols p empty refl e)

pub stone-player : (c : ℕ) → c ≤ white → c ≢ empty → Player c
unfolding Player
stone-player c l n =
    ⊎_elim (λ e. inl e) (λ (k : c ≢ black). inr (omega arith)) (equal_or_not c black)

pub coloured-known : (cols : List ℕ) (c p : ℕ) → c ≤ white → ((q : ℕ) → at cols q ≤ white) → (q : ℕ) → at (coloured cols c p) q ≤ white
unfolding coloured
coloured-known cols c p low known q =
    ⊎_elim
    (λ s.
    ⊎_elim (λ t. let e : at (coloured cols c p) q ≡ c = ap (at (coloured cols c p)) s ∙ coloured-here cols c p (ltb-true p (length cols) t) in omega arith)
    (λ t.
    let e : at (coloured cols c p) q ≡ at cols q = ap (λ (l : List ℕ). at l q) (set_out cols p c (ltb-false p (length cols) t)) in
    omega (arith, known q))
    (decided (ltb p (length cols))))
    (λ n. let e = coloured-else cols c p q n in omega (arith, known q))
    (equal_or_not q p)

-- ---- An empty board

pub empty-length : (h w : ℕ) → length (empty_board h w) ≡ area h w
unfolding empty_board
empty-length h w = length-replicate (area h w) empty

pub empty-at : (h w q : ℕ) → at (empty_board h w) q ≡ empty
unfolding empty_board at
empty-at h w q = get_or-replicate-same (area h w) q empty
