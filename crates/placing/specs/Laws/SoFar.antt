-- Placing point by point: the first points stand as given, the others are empty. A stone that chokes a chain there chokes it in the whole.
use Rattle.std.specs.Prelude.{◌≡◌, refl, true, false, List, ℕ, ◌+◌, ◌≤◌, ◌<◌, ltb, length}
use Rattle.std.proofs.Math.Path.{sym}
use Rattle.std.proofs.Common.{ap, ap₂, ◌∙◌, subst, ⊎_elim, arith, ltb-true, ltb-false}
use Rattle.std.proofs.Math.Seq.{ext_get_or}
use Rattle.rules.specs.Colours.{empty, at}
use Rattle.rules.specs.Points.{area}
use Rattle.rules.specs.Move.{coloured}
use Rattle.rules.specs.Calls.{choked}
use Rattle.rules.proofs.Laws.Lists.{decided, equal_or_not}
use Rattle.board.specs.declared.goban.Board.{Board}
use Rattle.board.specs.Board.{colours_of}
use Rattle.board.specs.True.{TrueBoard}
use Rattle.board.specs.Laws.Board.{length-colours}
use Rattle.board.specs.Laws.Chains.{true-colours}
use Rattle.placing.specs.Placing.{Stands, Stuck, Adding, Placing}
use Rattle.placing.specs.Laws.Colours.{coloured-here, coloured-else, empty-at}
use Rattle.placing.specs.Laws.Choked.{Grows, stuck-grows, stuck-choked, free-choked}

-- the first i points of the given colours stand
pub record SoFar (h w : ℕ) (given : List ℕ) (i : ℕ) (b : Board) : Type 0 where
  pub is_true : TrueBoard b
  pub tall : b.height ≡ h
  pub wide : b.width ≡ w
  pub done : (q : ℕ) → q < i → at (colours_of b) q ≡ at given q
  pub rest : (q : ℕ) → i ≤ q → at (colours_of b) q ≡ empty

pub so-far-none : (b : Board) (given : List ℕ) → Placing b given → SoFar b.height b.width given 0 b
so-far-none b given is =
    record {
      is_true = is.onto.is_true;
      tall = refl;
      wide = refl;
      done = λ q l. absurd (omega arith);
      rest = λ q l. ap (λ (cols : List ℕ). at cols q) is.onto.bare ∙ empty-at b.height b.width q;
    }

module _ (h w : ℕ) (given : List ℕ) (covers : length given ≡ area h w) (i : ℕ) (b : Board) (is : SoFar h w given i b) where
  same_area : area b.height b.width ≡ area h w
  same_area = ap₂ area is.tall is.wide

  colours-length : length (colours_of b) ≡ area h w
  colours-length = length-colours b ∙ same_area

  module _ (on : i < length given) where
    pub so-far-on : i < area b.height b.width
    so-far-on = omega (arith, same_area)

    -- the points with the next one coloured
    next-done : (q : ℕ) → q < i + 1 → at (coloured (colours_of b) (at given i) i) q ≡ at given q
    next-done q l =
        ⊎_elim
        (λ s. ap (at (coloured (colours_of b) (at given i) i)) s ∙ coloured-here (colours_of b) (at given i) i (omega (arith, colours-length)) ∙ ap (at given) (sym s))
        (λ n. coloured-else (colours_of b) (at given i) i q n ∙ is.done q (omega arith))
        (equal_or_not q i)

    next-rest : (q : ℕ) → i + 1 ≤ q → at (coloured (colours_of b) (at given i) i) q ≡ empty
    next-rest q l = coloured-else (colours_of b) (at given i) i q (λ s. omega arith) ∙ is.rest q (omega arith)

    pub so-far-next : (after : Board) → Stands b.height b.width (coloured (colours_of b) (at given i) i) after → SoFar h w given (i + 1) after
    so-far-next after new =
        record {
          is_true = new.is_true;
          tall = new.tall ∙ is.tall;
          wide = new.wide ∙ is.wide;
          done = λ q l. ap (λ (cols : List ℕ). at cols q) new.colours ∙ next-done q l;
          rest = λ q l. ap (λ (cols : List ℕ). at cols q) new.colours ∙ next-rest q l;
        }

    -- a stone that chokes a chain now
    pub so-far-stuck : Stuck b.height b.width (coloured (colours_of b) (at given i) i) → choked h w given ≡ true
    so-far-stuck s =
        stuck-choked h w given covers
        (stuck-grows h w (coloured (colours_of b) (at given i) i) given grows
        (subst (λ (x : ℕ). Stuck h x (coloured (colours_of b) (at given i) i)) is.wide
        (subst (λ (x : ℕ). Stuck x b.width (coloured (colours_of b) (at given i) i)) is.tall s)))
      where
        grows : Grows (coloured (colours_of b) (at given i) i) given
        grows q n =
            ⊎_elim
            (λ t. sym (next-done q (ltb-true q (i + 1) t)))
            (λ t. absurd (n (next-rest q (ltb-false q (i + 1) t))))
            (decided (ltb q (i + 1)))

  -- all points stand
  pub so-far-all : length given ≤ i → Stands h w given b
  unfolding at
  so-far-all end =
      record {
        is_true = is.is_true;
        tall = is.tall;
        wide = is.wide;
        colours = ext_get_or empty (colours_of b) given (colours-length ∙ sym covers) (λ q l. is.done q (omega (arith, colours-length)));
      }

-- the point whose turn it is may get its colour
pub so-far-adding :
    (onto : Board) (given : List ℕ) → Placing onto given → (i : ℕ) (b : Board) → SoFar onto.height onto.width given i b → i < length given
    → Adding b i (at given i)
so-far-adding onto given placing i b is on =
    record {
      is_true = is.is_true;
      on = so-far-on _ _ given placing.covers i b is on;
      vacant = is.rest i (omega arith);
      known = placing.known i;
    }

-- on a true board no chain is choked
pub stands-free : (h w : ℕ) (cols : List ℕ) (b : Board) → Stands h w cols b → choked h w cols ≡ false
stands-free h w cols b is =
    sym (ap₂ (λ (x y : ℕ). choked x y (colours_of b)) is.tall is.wide ∙ ap (choked h w) is.colours)
    ∙ free-choked b.height b.width (colours_of b) (true-colours b is.is_true).breathes
