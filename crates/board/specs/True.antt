-- A true board, as 01 writes it: sizes in range; each on-board point owned by no chain or by a used slot, each point beyond the area by
-- none; used slots hold exactly the largest connected one-colour sets, with colour, count, exact liberties, at least one liberty, and
-- links that go round the chain once from its least point (origin) to last and back; hash as defined.
use Rattle.std.specs.Prelude.{◌≡◌, Bool, true, ◌&&◌, ◌≢◌, ℕ, ◌+◌, ◌≤◌, ◌<◌, eqb, length, get_or}
use mathlib.Core.List.{Memᴰ}
use Rattle.rules.specs.Sizes.{max_area, slots}
use Rattle.rules.specs.Lists.{any, count, below, Distinct}
use Rattle.rules.specs.Points.{area, neighbours}
use Rattle.rules.specs.Colours.{empty}
use Rattle.rules.specs.Reach.{Walk}
use Rattle.rules.specs.Hash.{hash}
use Rattle.rules.specs.Game.{Player, TrueSize}
use Rattle.chains.specs.Group.{used}
use Rattle.sets.specs.Liberties.{set_of, number}
use Rattle.chains.specs.Walk.{stepped, walked}
use Rattle.board.specs.declared.goban.Board.{Board}
use Rattle.board.specs.Board.{owner, chain_in, colour_at, colours_of}

-- q is a liberty of the chain in slot s: an empty point beside one of its stones
unfoldable pub liberty_of : Board → ℕ → ℕ → Bool
liberty_of b s q = eqb (owner b q) slots && any (λ r. eqb (owner b r) s) (neighbours b.height b.width q)

-- the slot s holds a connected one-colour set: the points that it owns
pub record ExactChain (b : Board) (s : ℕ) : Type 0 where
  pub colour : Player (chain_in b s).colour
  -- the origin is the least point
  pub origin : owner b (chain_in b s).origin ≡ s
  pub least : (p : ℕ) → owner b p ≡ s → (chain_in b s).origin ≤ p
  pub connected : (p : ℕ) → owner b p ≡ s → Walk (neighbours b.height b.width) (owner b) s (chain_in b s).origin p
  pub counted : (chain_in b s).count ≡ count (λ p. eqb (owner b p) s) (below (area b.height b.width))
  -- the links go round it once, from origin to last and back
  pub linked : (k : ℕ) → k < (chain_in b s).count → owner b (stepped b.next (chain_in b s).origin k) ≡ s
  pub once : Distinct (walked b.next (chain_in b s).origin (chain_in b s).count)
  pub last : (k : ℕ) → k + 1 ≡ (chain_in b s).count → stepped b.next (chain_in b s).origin k ≡ (chain_in b s).last
  pub back : get_or b.next (chain_in b s).last 0 ≡ (chain_in b s).origin
  pub liberties : (chain_in b s).liberties ≡ set_of (liberty_of b s)

-- what the struct's type says of its arrays
pub record Shaped (b : Board) : Type 0 where
  pub owners : length b.owners ≡ max_area
  pub links : length b.next ≡ max_area
  pub chains : length b.chains ≡ slots

-- the table tells the truth of the points and slots, whether or not the sets are the largest and have liberties
pub record ExactTable (b : Board) : Type 0 where
  pub size : TrueSize b.height b.width
  pub shape : Shaped b
  pub owned : (p : ℕ) → owner b p ≢ slots → (p < area b.height b.width) × (owner b p < slots) × (used (chain_in b (owner b p)) ≡ true)
  pub exact : (s : ℕ) → s < slots → used (chain_in b s) ≡ true → ExactChain b s
  pub hashed : b.hash ≡ hash (colours_of b)

pub record TrueBoard (b : Board) : Type 0 where
  pub table : ExactTable b
  -- the sets are the largest: stones side by side of one colour have one owner
  pub largest :
      (p q : ℕ) → Memᴰ q (neighbours b.height b.width p) → colour_at b p ≢ empty → colour_at b p ≡ colour_at b q → owner b p ≡ owner b q
  pub breathes : (s : ℕ) → s < slots → used (chain_in b s) ≡ true → 0 < number (chain_in b s).liberties
