-- The board that is laid is the rules' resulting one, so that its record decides.
use mathlib.Core.Path.{◌≡◌, refl, ap, ◌∙◌}
use lib.ListN.{length}
use Rattle.rules.specs.Records.{record_of, capacity}
use Rattle.rules.proofs.Laws.Lists.{not-both}
use Rattle.rules.proofs.Laws.Records.{length-record}
use Rattle.board.specs.Board.{colours_of}
use Rattle.looking.specs.Laws.Sight.{unread, sees-packing, sees-record}
use Rattle.game.specs.Clock.{game_of}
use Rattle.game.specs.View.{RoomIn}
use Rattle.playing.specs.Laws.Stone.{laying, left-found, shown-ready, finished-tested}
use Rattle.playing.proofs.stone.settled.Goals.{After-record_by-record}
use Rattle.playing.proofs.stone.settled.Goals as goal

pub lay-laid-requires : goal.lay-laid-requires
unfolding game_of
lay-laid-requires c =
    let a = c.args in
    let is = c.requires.shown in
    let w = c.requires.waits in
    laying (game_of a.board.now a.clock) a.history.now c.requires.row c.requires.column is.state is.room w.told w.its _ refl w.passes
    is.sees.point c.player_of.ensures

pub look_at-seen-requires : goal.look_at-seen-requires
look_at-seen-requires c = record { true_board = c.lay-laid.ensures.board; partly = unread _ }

pub record_by-record-requires : goal.record_by-record-requires
record_by-record-requires c =
    sees-packing c.lay-laid.result.board c.lay-laid.ensures.board _ _ _ _ c.look_at-seen.ensures

-- the record of the board that is laid
left-record : (c : After-record_by-record) → c.record_by-record.result ≡ record_of (colours_of c.lay-laid.result.board)
left-record c =
    c.record_by-record.ensures ∙ sees-record c.lay-laid.result.board c.lay-laid.ensures.board _ _ _ _ c.look_at-seen.ensures

pub is_recorded-again-requires : goal.is_recorded-again-requires
unfolding game_of RoomIn capacity
is_recorded-again-requires c =
    record { within = c.requires.shown.room; long = ap length (left-record (goal.at.is_recorded-again-requires c).After-record_by-record) ∙ length-record _ }

pub finished-requires : goal.finished-requires
finished-requires c =
    let a = c.args in
    shown-ready a.board.now a.sight a.colours.now a.clock _ _ _ c.requires.shown

pub returns : goal.returns
unfolding game_of
returns c row column is w =
    let a = c.args in
    let g = game_of a.board.now a.clock in
    finished-tested a.board.now a.sight a.colours.now a.clock a.history.now row column is w.told w.its w.passes
    _
    (λ _. c.is_recorded-again.ensures ∙ left-found g a.history.now row column is.state is.room c.lay-laid.result is.sees.point c.player_of.ensures
    c.lay-laid.ensures (left-record (goal.at.returns c).After-record_by-record))
    (λ n. absurd (not-both w.waits n))
    _ _
    (c.finished.ensures (colours_of a.board.now) (sees-record a.board.now is.state.board row column a.colours.now a.sight is.sees))
