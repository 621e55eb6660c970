-- What is asked of the owners of points and of links, over numbers and lists alone, so that code that is lent the arrays can promise it.
use Rattle.std.specs.Prelude.{◌≡◌, Bool, cond, not, ◌&&◌, ◌||◌, List, ℕ, ◌+◌, ◌-◌, ◌≤◌, eqb, ltb, leb, length, get_or}
use Rattle.rules.specs.Sizes.{max_area, slots}
use Rattle.rules.specs.Lists.{all, below}
use Rattle.rules.specs.Points.{area, column}
use Rattle.rules.specs.Flood.{marked}
use Rattle.chains.specs.declared.group.Chain.{Chain}
use Rattle.chains.specs.Walk.{stepped}

-- what an array of owners says of a point
unfoldable pub owner_in : List ℕ → ℕ → ℕ
owner_in owners p = get_or owners p slots

module _ (own : ℕ → ℕ) (next : List ℕ) (s : ℕ) (c : Chain) where
  -- k links from the origin stands a stone of slot s, and for k above 0 one that comes after the origin
  unfoldable pub on_ring : ℕ → Bool
  on_ring k =
      let p = stepped next c.origin k in
      eqb (own p) s && (eqb k 0 || ltb c.origin p)

  -- the links lead from the origin to last and back, in as many steps as the chain has stones
  unfoldable pub ring : Bool
  ring =
      all on_ring (below c.count)
      && (eqb (stepped next c.origin (c.count - 1)) c.last && eqb (stepped next c.origin c.count) c.origin)

module _ (h w : ℕ) (own : ℕ → ℕ) where
  -- a point of the board has no owner or a slot, and a point beyond the board no owner
  unfoldable pub placed : ℕ → Bool
  placed p = cond (ltb p (area h w)) (leb (own p) slots) (eqb (own p) slots)

module _ (own note : ℕ → ℕ) where
  -- p and q have one owner, or notes apart
  unfoldable pub apart : ℕ → ℕ → Bool
  apart p q = eqb (own p) (own q) || not (eqb (note p) (note q))

  -- p and the point to its left, and p and the point above
  unfoldable pub row_apart : ℕ → ℕ → Bool
  row_apart w p = eqb (column w p) 0 || apart p (p - 1)

  unfoldable pub column_apart : ℕ → ℕ → Bool
  column_apart w p = ltb p w || apart p (p - w)

-- which points begin a row, and whether the point behind the last does
pub record RowStarts (h w : ℕ) (starts : List Bool) : Type 0 where
  pub long : length starts ≡ max_area + 1
  pub begins : (p : ℕ) → p ≤ area h w → marked starts p ≡ eqb (column w p) 0
