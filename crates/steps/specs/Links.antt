-- What the links of a board lead through: a walk that stays among the points, and a ring that goes round one chain.
use Rattle.std.specs.Prelude.{◌≡◌, List, ℕ, ◌+◌, ◌<◌, get_or}
use Rattle.rules.specs.Sizes.{max_area}
use Rattle.rules.specs.Lists.{Distinct}
use Rattle.chains.specs.declared.group.Chain.{Chain}
use Rattle.chains.specs.Walk.{stepped, walked}
use Rattle.board.specs.declared.goban.Board.{Board}
use Rattle.board.specs.Board.{owner}

-- the count links from origin on lead from point to point
pub record Walkable (next : List ℕ) (origin count : ℕ) : Type 0 where
  pub points : (k : ℕ) → k < count → stepped next origin k < max_area

-- the links lead from o round n points, all owned by s, to l and back
pub record Ring (next : List ℕ) (own : ℕ → ℕ) (s o l n : ℕ) : Type 0 where
  pub some : 0 < n
  pub linked : (k : ℕ) → k < n → own (stepped next o k) ≡ s
  pub once : Distinct (walked next o n)
  pub last : (k : ℕ) → k + 1 ≡ n → stepped next o k ≡ l
  pub back : get_or next l 0 ≡ o

-- the board's links go round the chain c, which slot s owns
abbrev pub RingOf : Board → ℕ → Chain → Type 0
RingOf b s c = Ring b.next (owner b) s c.origin c.last c.count
