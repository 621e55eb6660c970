-- `empty_board` meets its contract: the fields are the definition's, the chains by what `free_table` ensures.
use lib.ListN.{replicate}
use Rattle.rules.specs.Sizes.{max_area, slots}
use Rattle.board.specs.Board.{new_board}
use Rattle.board.proofs.goban.empty_board.Goals as goal

pub returns : goal.returns
unfolding new_board
returns c =
    λ i.
    record {
      height = c.args.height;
      width = c.args.width;
      hash = 0;
      owners = replicate max_area slots;
      next = replicate max_area 0;
      chains = c.free_table-chains.ensures i;
    }
