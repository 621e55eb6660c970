-- `repeats`: the board that is laid is the rules' resulting one, so its record is the one that the rules look for.
use mathlib.Core.Path.{◌≡◌, ap, ◌∙◌}
use Prim.Native.Nat.{ℕ}
use lib.ListN.{length}
use Rattle.rules.specs.Records.{record_of, capacity, recorded}
use Rattle.rules.specs.Move.{played}
use Rattle.rules.specs.Calls.{resulting}
use Rattle.rules.proofs.Laws.Records.{length-record}
use Rattle.board.specs.Board.{colours_of}
use Rattle.history.specs.History.{among}
use Rattle.history.proofs.Laws.History.{among-recorded}
use Rattle.looking.specs.Laws.Sight.{unread, sees-packing, sees-record}
use Rattle.game.specs.View.{RoomIn, view_of}
use Rattle.checking.specs.Laws.Asking.{repeating-laying}
use Rattle.checking.proofs.superko.repeats.Goals.{After-record_by-bytes}
use Rattle.checking.proofs.superko.repeats.Goals as goal

pub lay-laid-requires : goal.lay-laid-requires
lay-laid-requires c = repeating-laying _ _ _ c.requires _ c.player_of.ensures

pub look_at-sight-requires : goal.look_at-sight-requires
look_at-sight-requires c = record { true_board = c.lay-laid.ensures.board; partly = unread _ }

pub record_by-bytes-requires : goal.record_by-bytes-requires
record_by-bytes-requires c =
    sees-packing c.lay-laid.result.board c.lay-laid.ensures.board _ _ _ _ c.look_at-sight.ensures

-- the record of the board that is laid
left-record : (c : After-record_by-bytes) → c.record_by-bytes.result ≡ record_of (colours_of c.lay-laid.result.board)
left-record c =
    c.record_by-bytes.ensures ∙ sees-record c.lay-laid.result.board c.lay-laid.ensures.board _ _ _ _ c.look_at-sight.ensures

pub is_recorded-requires : goal.is_recorded-requires
unfolding RoomIn capacity
is_recorded-requires c =
    record { within = c.requires.asking.room; long = ap length (left-record (goal.at.is_recorded-requires c).After-record_by-bytes) ∙ length-record _ }

pub returns : goal.returns
unfolding resulting view_of
returns c =
    let a = c.args in let g = a.game.now in
    c.is_recorded.ensures
    ∙ ap (among a.history.now g.records) (left-record (goal.at.returns c).After-record_by-bytes)
    ∙ among-recorded a.history.now g.records _
    ∙ ap (recorded a.history.now g.records)
    (c.lay-laid.ensures.colours
    ∙ ap (λ (own : ℕ). played g.board.height g.board.width g.flags (colours_of g.board) own a.point) c.player_of.ensures)
