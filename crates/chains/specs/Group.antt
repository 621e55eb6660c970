-- A chain and its slot in the table: when a slot is used, what stands in a free one, and which slot is the first free.
use Rattle.std.specs.Prelude.{Bool, true, false, not, List, ◌≡◌, ℕ, ◌<◌, eqb, length, get_or, Option}
use Rattle.std.specs.List.{position_from}
use Rattle.rules.specs.Colours.{empty}
use Rattle.chains.specs.declared.group.Chain.{Chain}
use Rattle.sets.specs.Liberties.{none}

-- a slot is used exactly if its count is not 0
unfoldable pub used : Chain → Bool
used c = not (eqb c.count 0)

unfoldable pub free_chain : Chain
free_chain = record { liberties = none; colour = empty; origin = 0; last = 0; count = 0 }

-- the chain of one stone
unfoldable pub new_chain : ℕ → ℕ → List ℕ → Chain
new_chain colour p liberties = record { liberties = liberties; colour = colour; origin = p; last = p; count = 1 }

-- the first slot that is not used, the first of the list being slot i
abbrev pub first_free : ℕ → List Chain → Option ℕ
first_free i cs = position_from (λ c. eqb c.count 0) i cs

-- slot i is free, and all before it are used
pub record FirstFree (cs : List Chain) (i : ℕ) : Type 0 where
  pub within : i < length cs
  pub free : used (get_or cs i free_chain) ≡ false
  pub before : (j : ℕ) → j < i → used (get_or cs j free_chain) ≡ true
