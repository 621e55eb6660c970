-- Laws of Seen: what a board shows has a place for each point, what of that stands beside a point is what the rules say, and the
-- liberties of a chain are shown at its first point before they are at the others.
use Rattle.std.specs.Prelude.{◌≡◌, refl, ◌≢◌, Option, None, Some}
use Rattle.std.specs.Option.{option_map}
use Rattle.std.proofs.Math.Path.{sym, ap}
use Rattle.std.proofs.Common.{ap₂, ◌∙◌, arith}
use mathlib.Core.List.{List, [], ◌∷◌, map, Memᴰ}
use Prim.Native.Nat.{ℕ, ◌≤◌, ◌<◌}
use Rattle.std.proofs.Math.ListN.{length, get_or, get_or-eq_default}
use Rattle.rules.specs.Sizes.{max_area, slots}
use Rattle.rules.specs.Colours.{at}
use Rattle.rules.specs.Points.{area, sides, neighbours}
use Rattle.rules.specs.Chain.{size, liberties}
use Rattle.rules.proofs.Laws.Lists.{length-tabulate, get_or-tabulate-zero, mem-present}
use Rattle.rules.proofs.Laws.Points.{neighbours-on}
use Rattle.sets.specs.Liberties.{number}
use Rattle.board.specs.declared.goban.Board.{Board}
use Rattle.board.specs.Board.{owner, chain_in}
use Rattle.board.specs.True.{ExactChain, TrueBoard}
use Rattle.history.specs.Packing.{on_largest}
use Rattle.history.proofs.Laws.Packing.{length-on_largest}
use Rattle.legality.specs.declared.near.Beside.{Beside}
use Rattle.legality.specs.Near.{of_stone, seen, near_of}
use Rattle.looking.specs.Seen.{chain_seen, nothing, seen_of, Counted, Shows, shown, near_in}
use Rattle.looking.specs.Laws.Table.{liberties_at, liberties-told}

-- functions that agree on the list's elements
map_same : {A B : Type 0} (f g : A → B) (xs : List A) → ((x : A) → Memᴰ x xs → f x ≡ g x) → map f xs ≡ map g xs
map_same f g [] h = refl
map_same {A} {B} f g (x ∷ xs) h = ap₂ (λ (y : B) (ys : List B). y ∷ ys) (h x (Memᴰ.head refl)) (map_same f g xs (λ y m. h y (Memᴰ.tail m)))

module _ (h w : ℕ) (cols : List ℕ) (fits : area h w ≤ max_area) where
  pub seen-shows : Shows h w (seen_of h w cols).colours (seen_of h w cols).liberties (seen_of h w cols).stones
  unfolding seen_of
  seen-shows =
      record {
        fits = fits;
        coloured = length-on_largest cols;
        breathing = length-tabulate (of_stone cols (liberties h w cols)) 0 max_area;
        counted = length-tabulate (of_stone cols (size h w cols)) 0 max_area;
      }

  -- what is shown at a point is what stands there
  shown-seen : (q : ℕ) → q < max_area → shown (seen_of h w cols).colours (seen_of h w cols).liberties (seen_of h w cols).stones q ≡ seen h w cols q
  unfolding seen_of on_largest shown seen
  shown-seen q low =
      λ i.
      record {
        colour = get_or-tabulate-zero (at cols) max_area q 0 low i;
        liberties = get_or-tabulate-zero (of_stone cols (liberties h w cols)) max_area q 0 low i;
        stones = get_or-tabulate-zero (of_stone cols (size h w cols)) max_area q 0 low i;
      }

  pub near-seen : (p : ℕ) → near_in h w (seen_of h w cols).colours (seen_of h w cols).liberties (seen_of h w cols).stones p ≡ near_of h w cols p
  unfolding near_in near_of neighbours
  near-seen p = λ i. record { sides = map_same (option_map the-shown) (option_map (seen h w cols)) (sides h w p) there i }
    where
      the-shown : ℕ → Beside
      the-shown = shown (seen_of h w cols).colours (seen_of h w cols).liberties (seen_of h w cols).stones

      there : (o : Option ℕ) → Memᴰ o (sides h w p) → option_map the-shown o ≡ option_map (seen h w cols) o
      there None m = refl
      there (Some q) m =
          let on = neighbours-on h w p q (mem-present (sides h w p) m) in
          ap {B = Option Beside} Some (shown-seen q (omega arith))

-- beyond the arrays nothing is shown
pub shown-beyond : (cs ls ss : List ℕ) (q : ℕ) → length cs ≤ q → length ls ≤ q → length ss ≤ q → nothing ≡ shown cs ls ss q
unfolding nothing shown
shown-beyond cs ls ss q c l s =
    λ i.
    record {
      colour = sym (get_or-eq_default cs 0 {n = q} c) i;
      liberties = sym (get_or-eq_default ls 0 {n = q} l) i;
      stones = sym (get_or-eq_default ss 0 {n = q} s) i;
    }

-- ---- The first point of a chain

module _ (b : Board) (is : TrueBoard b) (p : ℕ) (n : owner b p ≢ slots) where
  chain : ExactChain b (owner b p)
  chain = let (on, below, is-used) = is.table.owned p n in is.table.exact (owner b p) below is-used

  pub first_counted : (ls : List ℕ) → p < max_area → ((k : ℕ) → k < p → get_or ls k 0 ≡ liberties_at b k)
      → Counted (chain_in b (owner b p)) ls p
  unfolding chain_seen
  first_counted ls within read =
      record {
        within = within;
        first =
            λ l.
            read (chain_in b (owner b p)).origin l
            ∙ sym (liberties-told b is (chain_in b (owner b p)).origin)
            ∙ ap (λ (s : ℕ). number (chain_in b s).liberties) chain.origin;
      }
