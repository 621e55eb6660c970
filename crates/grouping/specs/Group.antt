-- What the queries on the chain at a point tell, from the colours.
use Rattle.std.specs.Prelude.{true, false, cond, not, ◌&&◌, List, ℕ, eqb, get_or}
use Rattle.rules.specs.Lists.{pick, below}
use Rattle.rules.specs.Colours.{empty, at}
use Rattle.rules.specs.Points.{area, index}
use Rattle.rules.specs.Flood.{chain, marked}
use Rattle.rules.specs.Chain.{size, liberty, liberties}
use Rattle.rules.specs.Tests.{in_atari}
use Rattle.rules.specs.Answers as answers
use Rattle.chains.specs.declared.group.Chain.{Chain}
use Rattle.sets.specs.Liberties.{number}
use Rattle.board.specs.declared.goban.Board.{Board}
use Rattle.board.specs.Board.{colours_of}
use Rattle.queries.specs.declared.goban.TestAnswer.{TestAnswer}
use Rattle.grouping.specs.declared.group.ChainAnswer.{ChainAnswer}

-- the least point of p's chain
unfoldable pub first : ℕ → ℕ → List ℕ → ℕ → ℕ
first h w cols p = get_or (pick (marked (chain h w cols p)) (below (area h w))) 0 0

unfoldable pub no_chain : ℕ → ChainAnswer
no_chain a = record { answer = a; present = false; colour = empty; stones = 0; liberties = 0; atari = false; origin = 0 }

-- the chain of the stone at p, by the rules
unfoldable pub chain_at : ℕ → ℕ → List ℕ → ℕ → ChainAnswer
chain_at h w cols p =
    record {
      answer = answers.number answers.Accepted;
      present = true;
      colour = at cols p;
      stones = size h w cols p;
      liberties = liberties h w cols p;
      atari = in_atari h w cols p;
      origin = first h w cols p;
    }

-- at an empty point there is none, with 0
unfoldable pub chain_of : Board → ℕ → ℕ → ChainAnswer
chain_of b r c =
    let p = index b.width r c in
    cond (eqb (at (colours_of b) p) empty) (no_chain (answers.number answers.Accepted)) (chain_at b.height b.width (colours_of b) p)

-- a stone stands at the first point, and the second is a liberty of its chain
unfoldable pub liberty_at : Board → ℕ → ℕ → ℕ → ℕ → TestAnswer
liberty_at b r c r' c' =
    let p = index b.width r c in
    record {
      answer = answers.number answers.Accepted;
      holds =
          not (eqb (at (colours_of b) p) empty)
          && liberty b.height b.width (colours_of b) (chain b.height b.width (colours_of b) p) (index b.width r' c');
    }

-- what a slot of the table tells of its chain
unfoldable pub told : Chain → ChainAnswer
told c =
    record {
      answer = answers.number answers.Accepted;
      present = true;
      colour = c.colour;
      stones = c.count;
      liberties = number c.liberties;
      atari = eqb (number c.liberties) 1;
      origin = c.origin;
    }
