-- `vetting::answers::answer_at`: the board is a true one, and the test of the row and the column decides.
use Rattle.std.proofs.Common.{not, ap}
use Rattle.vetting.specs.Laws.Answered.{judged-beyond, judged-accepted, valid-says}
use Rattle.vetting.proofs.answers.answer_at.Goals as goal

pub returns-then-not-is_coord_valid : goal.returns-then-not-is_coord_valid
returns-then-not-is_coord_valid c =
    judged-beyond (c.answer_of.ensures.sound c.in_ok-answer_of.was).0 (valid-says _ _ _ c.is_coord_valid.ensures (ap not c.if-not-is_coord_valid.true))

pub returns : goal.returns
returns c =
    judged-accepted (c.answer_of.ensures.sound c.in_ok-answer_of.was).0 (valid-says _ _ _ c.is_coord_valid.ensures (ap not c.if-not-is_coord_valid.false))
