-- Laws of what owns a point: a slot that is found is the owner, and where none is found the point is empty.
use Rattle.std.specs.Prelude.{◌≡◌, refl, Bool, true, false, cond, not, List, ◌≢◌, ℕ, ◌≤◌, ◌<◌, eqb, ltb, get_or, Option, None, Some}
use Rattle.std.specs.Option.{is_some}
use Rattle.std.proofs.Math.Path.{sym, ap, fun_ext}
use Rattle.std.proofs.Common.{◌∙◌, arith}
use Rattle.std.proofs.Math.Logic.{⊎_elim}
use borrow.Author.Tests.{eq-eqb, ne_eqb, ltb-true, ltb-false, lt-ltb, le-ltb}
use Rattle.rules.specs.Sizes.{slots}
use Rattle.rules.specs.Colours.{empty, at}
use Rattle.rules.proofs.Laws.Lists.{get_d_default, equal_or_not}
use Rattle.chains.specs.declared.group.Chain.{Chain}
use Rattle.chains.specs.Group.{free_chain}
use Rattle.board.specs.declared.goban.Board.{Board}
use Rattle.board.specs.Board.{owner, chain_in, colour_at, colours_of}
use Rattle.board.specs.True.{TrueBoard}
use Rattle.board.specs.Laws.Board.{at-colours, empty-unowned}
use Rattle.board.specs.Laws.Views.{empty-owner}
use Rattle.queries.specs.Goban.{owner_of, unowned}

owner_of-slot : (s t : ℕ) → owner_of s ≡ Some t → (s ≡ t) × (t < slots)
unfolding owner_of
owner_of-slot s t = go (ltb s slots) refl
  where
    go : (u : Bool) → ltb s slots ≡ u → cond u (Some s) None ≡ Some t → (s ≡ t) × (t < slots)
    go true l e = let same : s ≡ t = cc in let under = ltb-true s slots l in (same, omega arith)
    go false l e = let z : ◌≡◌ {A = ℕ} 0 1 = cc in absurd (omega arith)

owner_of-nobody : (s : ℕ) → owner_of s ≡ None → slots ≤ s
unfolding owner_of
owner_of-nobody s = go (ltb s slots) refl
  where
    go : (u : Bool) → ltb s slots ≡ u → cond u (Some s) None ≡ None → slots ≤ s
    go true l e = let z : ◌≡◌ {A = ℕ} 0 1 = cc in absurd (omega arith)
    go false l e = ltb-false s slots l

-- a number that names a slot is found, and another is not
pub found-none : (n : ℕ) → slots ≤ n → owner_of n ≡ None
unfolding owner_of
found-none n l = rw (le-ltb n slots l)

pub found-some : (n m : ℕ) → m ≡ n → n < slots → ◌≡◌ {A = Option ℕ} (Some m) (owner_of n)
unfolding owner_of
found-some n m e l = rw (lt-ltb n slots l) (ap {B = Option ℕ} Some e)

pub none-unowned : (owners : List ℕ) (p : ℕ) (t : Bool) → is_some (owner_of (get_or owners p slots)) ≡ not t → t ≡ unowned owners p
unfolding owner_of unowned
none-unowned owners p t e = go (ltb (get_or owners p slots) slots) t e
  where
    go : (u t : Bool) → is_some (cond u (Some (get_or owners p slots)) None) ≡ not t → t ≡ not u
    go true true e = e
    go true false e = refl
    go false true e = refl
    go false false e = e

pub nobody-unowned : (owners : List ℕ) (p : ℕ) → owner_of (get_or owners p slots) ≡ None → unowned owners p ≡ true
unfolding unowned
nobody-unowned owners p e = ap not (le-ltb _ slots (owner_of-nobody (get_or owners p slots) e))

pub slot-owned : (owners : List ℕ) (p s : ℕ) → owner_of (get_or owners p slots) ≡ Some s → unowned owners p ≡ false
unfolding unowned
slot-owned owners p s e =
    let (same, under) = owner_of-slot (get_or owners p slots) s e in
    ap not (lt-ltb (get_or owners p slots) slots (omega arith))

-- the slot that was found is one of the table
pub found-under : {found : Option ℕ} (n s : ℕ) → found ≡ owner_of n → found ≡ Some s → s < slots
found-under {found} n s read e = (owner_of-slot n s (sym read ∙ e)).1

module _ (b : Board) (is : TrueBoard b) where
  -- what stands in a slot, whatever stands beyond the table
  pub chain-read : (s : ℕ) (d : Chain) → s < slots → get_or b.chains s d ≡ chain_in b s
  unfolding chain_in
  chain-read s d under = get_d_default b.chains s d free_chain (omega (arith, is.table.shape.chains))

  -- a number that names no slot is the one that means none
  owner-none : (p : ℕ) → slots ≤ owner b p → owner b p ≡ slots
  owner-none p l =
      ⊎_elim (λ e. e) (λ n. let under = (is.table.owned p n).1 in absurd (omega arith)) (equal_or_not (owner b p) slots)

  unowned-owner : (p : ℕ) → unowned b.owners p ≡ eqb (owner b p) slots
  unfolding unowned owner
  unowned-owner p =
      ⊎_elim (λ (e : owner b p ≡ slots). rw (eq-eqb (owner b p) slots e, le-ltb (owner b p) slots (omega arith)))
      (λ (n : owner b p ≢ slots). rw (ne_eqb (owner b p) slots n, lt-ltb (owner b p) slots (is.table.owned p n).1))
      (equal_or_not (owner b p) slots)

  -- what no chain owns is what is empty
  pub unowned-empty : unowned b.owners ≡ (λ p. eqb (at (colours_of b) p) empty)
  unowned-empty = fun_ext (λ p. unowned-owner p ∙ sym (empty-owner b is p))

  -- ---- What the owner that was found says of the point

  module _ (p at_p : ℕ) (same : at_p ≡ p) (found : Option ℕ) (read : found ≡ owner_of (get_or b.owners at_p slots)) where
    pub found-nobody : found ≡ None → at (colours_of b) p ≡ empty
    unfolding owner
    found-nobody e =
        at-colours b is.table p
        ∙ empty-unowned b is.table p
        (owner-none p (owner_of-nobody (owner b p) (ap (λ (q : ℕ). owner_of (owner b q)) (sym same) ∙ sym read ∙ e)))

    pub found-slot : (s : ℕ) → found ≡ Some s → owner b p ≡ s
    unfolding owner
    found-slot s e = (owner_of-slot (owner b p) s (ap (λ (q : ℕ). owner_of (owner b q)) (sym same) ∙ sym read ∙ e)).0

  -- the slot that owns it has its colour
  pub colour-told : (p s : ℕ) → owner b p ≡ s → (chain_in b s).colour ≡ at (colours_of b) p
  unfolding colour_at
  colour-told p s owns = ap (λ (t : ℕ). (chain_in b t).colour) (sym owns) ∙ sym (at-colours b is.table p)
