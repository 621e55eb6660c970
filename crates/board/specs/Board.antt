-- What a board says of its points: the slot that owns each, the chain in each slot, and so the colours.
use Rattle.std.specs.Prelude.{List, ℕ, get_or, replicate}
use Rattle.rules.specs.Sizes.{max_area, slots}
use Rattle.rules.specs.Lists.{tabulate}
use Rattle.rules.specs.Points.{area}
use Rattle.chains.specs.declared.group.Chain.{Chain}
use Rattle.chains.specs.Group.{free_chain}
use Rattle.board.specs.declared.goban.Board.{Board}

-- the slot that owns the point; the number of slots means no chain
unfoldable pub owner : Board → ℕ → ℕ
owner b p = get_or b.owners p slots

-- the chain in the slot; no chain is a free one
unfoldable pub chain_in : Board → ℕ → Chain
chain_in b s = get_or b.chains s free_chain

unfoldable pub colour_at : Board → ℕ → ℕ
colour_at b p = (chain_in b (owner b p)).colour

-- the board's points, as the rules see them
unfoldable pub colours_of : Board → List ℕ
colours_of b = tabulate (colour_at b) 0 (area b.height b.width)

unfoldable pub new_board : ℕ → ℕ → Board
new_board h w =
    record {
      height = h;
      width = w;
      hash = 0;
      owners = replicate max_area slots;
      next = replicate max_area 0;
      chains = replicate slots free_chain;
    }
