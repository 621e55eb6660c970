-- `list_true`: refused, or filled by what the view shows, which is what the rules say of the colours.
use Rattle.std.proofs.Common.{◌≡◌, ◌≤◌, sym, ap, ◌∙◌, subst, List, ℕ, length}
use Rattle.rules.specs.Lists.{pick, below}
use Rattle.rules.specs.Points.{area}
use Rattle.rules.specs.Answers.{number}
use Rattle.rules.proofs.Laws.Lists.{not-both}
use Rattle.rules.proofs.Laws.Answers.{accepts-zero}
use Rattle.board.specs.Board.{colours_of}
use Rattle.board.specs.Laws.Board.{area-fits}
use Rattle.viewing.specs.declared.view.View.{View}
use Rattle.viewing.specs.Seen.{passed, OnBoard}
use Rattle.viewing.specs.Front.{Front}
use Rattle.listing.specs.Lists.{listed}
use Rattle.listing.specs.Laws.Seen.{passed-listed}
use Rattle.listing.specs.Laws.Answers.{accepted-list, left-refused, left-filled}
use Rattle.points.proofs.Reasons.{refused-so, refused-not, accepted-so, accepted-zero}
use Rattle.listing.proofs.list.list_true.Goals.{After-view_of-view}
use Rattle.listing.proofs.list.list_true.Goals as goal

pub returns-in-Err : goal.returns-in-Err
returns-in-Err c =
    let said = c.refusal.ensures in
    let its = c.number.ensures ∙ ap number (sym (refused-so said c.in-Err.is)) in
    left-refused _ _ _ c.number.result its (λ z. not-both (accepts-zero _ (sym its ∙ z)) (refused-not said c.in-Err.is))

-- what is not refused is asked of the board, and has room
allowed : (c : After-view_of-view) → let a = c.args in
    OnBoard a.board.height a.board.width a.question × (area a.board.height a.board.width ≤ length a.buffer.now)
allowed c =
    let a = c.args in
    accepted-list a.board.height a.board.width (length a.buffer.now) a.question (accepted-so c.refusal.ensures c.in_default.is)

pub fill-requires : goal.fill-requires
fill-requires c = (area-fits c.requires.table.size, (allowed (goal.at.fill-requires c).After-view_of-view).1)

pub returns : goal.returns
returns c =
    let b = c.args.board in
    let question = c.args.question in
    let h = b.height in
    let w = b.width in
    let same : pick (passed h w c.view_of-view.result.colours c.view_of-view.result.leads question) (below (area h w)) ≡ listed h w (colours_of b) question =
    subst (λ (v : View). pick (passed h w v.colours v.leads question) (below (area h w)) ≡ listed h w (colours_of b) question)
    (sym c.view_of-view.ensures) (passed-listed b c.requires question (allowed (goal.at.returns c).After-view_of-view).0) in
    left-filled _ _ _ (accepted-zero c.refusal.ensures c.in_default.is)
    (subst (λ (ps : List ℕ). Front ps c.args.buffer.now c.fill.result c.fill.new.buffer) same c.fill.ensures)
