-- What a board shows of each point of the largest board: its colour, and the least point of its chain.
use Rattle.std.specs.Prelude.{cond, ℕ, ltb}
use Rattle.rules.specs.Sizes.{max_area, slots}
use Rattle.rules.specs.Lists.{tabulate}
use Rattle.board.specs.declared.goban.Board.{Board}
use Rattle.board.specs.Board.{owner, chain_in, colour_at}
use Rattle.viewing.specs.declared.view.View.{View}

-- the origin of the chain in the slot; where there is no chain, the number of no point
unfoldable pub lead_in : Board → ℕ → ℕ
lead_in b s = cond (ltb s slots) (chain_in b s).origin max_area

unfoldable pub lead_at : Board → ℕ → ℕ
lead_at b p = lead_in b (owner b p)

unfoldable pub view_of : Board → View
view_of b = record { colours = tabulate (colour_at b) 0 max_area; leads = tabulate (lead_at b) 0 max_area }
