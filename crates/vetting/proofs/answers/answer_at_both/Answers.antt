-- `vetting::answers::answer_at_both`: the board and the first point are accepted, and the test of the second decides.
use Rattle.std.proofs.Common.{◌≡◌, false, not, ap}
use Rattle.rules.proofs.Laws.Lists.{or_right}
use Rattle.vetting.specs.Answered.{off_board}
use Rattle.vetting.specs.Laws.Answered.{judged-beyond, judged-accepted, valid-says}
use Rattle.vetting.proofs.answers.answer_at_both.Goals as goal

pub returns-then-not-is_coord_valid : goal.returns-then-not-is_coord_valid
returns-then-not-is_coord_valid c =
    let args = c.args in
    judged-beyond (c.answer_at.ensures.sound c.in_ok-answer_at.was).0
    (or_right (off_board args.board args.row args.column) (valid-says _ _ _ c.is_coord_valid.ensures (ap not c.if-not-is_coord_valid.true)))

pub returns : goal.returns
returns c =
    let args = c.args in
    let (t, first) = c.answer_at.ensures.sound c.in_ok-answer_at.was in
    let second : off_board args.board args.other_row args.other_column ≡ false =
    valid-says _ _ _ c.is_coord_valid.ensures (ap not c.if-not-is_coord_valid.false) in
    judged-accepted t (rw (first, second))
