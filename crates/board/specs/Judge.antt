-- What the judge computes: tests on a board's lists that all say yes exactly on true boards. Those of one slot are over the sizes, the
-- owner of each point and one chain, so that code that is lent the arrays can promise them.
use Rattle.std.specs.Prelude.{◌≡◌, Bool, cond, not, ◌&&◌, ◌||◌, List, ℕ, ◌+◌, ◌≤◌, ◌<◌, eqb, ltb, leb, length}
use Rattle.rules.specs.Sizes.{max_area, slots}
use Rattle.rules.specs.Lists.{all, count, below, same, tabulate}
use Rattle.rules.specs.Points.{area}
use Rattle.rules.specs.Colours.{black, white}
use Rattle.rules.specs.Hash.{entry}
use Rattle.rules.specs.Calls.{side_ok}
use Rattle.chains.specs.declared.group.Chain.{Chain}
use Rattle.chains.specs.Group.{used}
use Rattle.sets.specs.Liberties.{set_of, number}
use Rattle.owning.specs.Owners.{owner_in, ring, placed, row_apart, column_apart, RowStarts}
use Rattle.flooding.specs.Flood.{found, shore, hash_of}
use Rattle.board.specs.declared.goban.Board.{Board}
use Rattle.board.specs.Board.{owner, chain_in, colour_at}

unfoldable pub player : ℕ → Bool
player c = eqb c black || eqb c white

module _ (h w : ℕ) (own : ℕ → ℕ) (next : List ℕ) (s : ℕ) (c : Chain) where
  -- as many stones as the chain counts are found from its origin
  unfoldable pub counted : Bool
  counted = eqb (count (found h w own s c.origin) (below (area h w))) c.count

  -- its liberties are the empty points beside those stones, and there is one
  unfoldable pub liberties_good : Bool
  liberties_good = same c.liberties (set_of (shore h w own (found h w own s c.origin))) && ltb 0 (number c.liberties)

  unfoldable pub chain_good : Bool
  chain_good = player c.colour && (eqb (own c.origin) s && (counted && (ring own next s c && liberties_good)))

  unfoldable pub slot_good : Bool
  slot_good = not (used c) || chain_good

-- what is lent to judge a slot
pub record Lent (h w s : ℕ) (next : List ℕ) (starts : List Bool) (notes queue : List ℕ) (sum : ℕ) : Type 0 where
  pub low : s < slots
  pub fits : area h w ≤ max_area
  pub links_long : length next ≡ max_area
  pub notes_long : length notes ≡ max_area
  pub queue_long : length queue ≡ max_area
  pub starting : RowStarts h w starts
  pub hashed : sum ≡ hash_of h w (owner_in notes)
  pub standing : (p : ℕ) → owner_in notes p < slots → p < area h w

-- ---- What the judge notes of each point: a stone that was found has its colour, behind the numbers of the slots

module _ (b : Board) where
  -- the slot that owns p is among the first n, and p was found from its origin
  unfoldable pub found_below : ℕ → ℕ → Bool
  found_below n p =
      ltb (owner b p) n
      && (used (chain_in b (owner b p)) && found b.height b.width (owner b) (owner b p) (chain_in b (owner b p)).origin p)

  unfoldable pub noted : ℕ → ℕ → ℕ
  noted n p = cond (found_below n p) (slots + colour_at b p) (owner b p)

-- ---- All tests

unfoldable pub judged : Board → Bool
judged b =
    side_ok b.height && (side_ok b.width
    && (all (placed b.height b.width (owner b)) (below max_area)
    && (all (λ s. slot_good b.height b.width (owner b) b.next s (chain_in b s)) (below slots)
    && (all (λ p. leb slots (noted b slots p)) (below (area b.height b.width))
    && (all (row_apart (owner b) (noted b slots) b.width) (below (area b.height b.width))
    && (all (column_apart (owner b) (noted b slots) b.width) (below (area b.height b.width))
    && eqb b.hash (hash_of b.height b.width (noted b slots))))))))
