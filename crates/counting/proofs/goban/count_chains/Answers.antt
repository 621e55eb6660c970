-- `counting::goban::count_chains`: the used slots are counted.
use Rattle.std.proofs.Common.{rules, ◌≡◌, ◌∙◌, count_by}
use Rattle.std.proofs.iter.runs.Made.{chains}
use Rattle.chains.specs.Group.{used}
use Rattle.counting.proofs.Slots.{used-chains}
use Rattle.counting.proofs.goban.count_chains.Goals as goal

pub returns : goal.returns
unfolding used
returns c =
    let counted : c.count.result ≡ count_by used c.args.board.now.chains = search (rules, chains) in
    counted ∙ used-chains c.args.board.now c.requires
