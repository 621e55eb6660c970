-- `queries::goban::get_color`: refused as the answer says, else the colour of the point.
use Rattle.std.proofs.Common.{ap, ◌∙◌}
use Rattle.rules.specs.Answers.{number}
use Rattle.rules.specs.Colours.{at}
use Rattle.board.specs.Board.{colours_of}
use Rattle.queries.specs.Goban.{no_colour, colour_of}
use Rattle.vetting.specs.Laws.Answered.{answered-refused, answered-told}
use Rattle.queries.proofs.goban.get_color.Goals as goal

pub returns-in-Err : goal.returns-in-Err
unfolding no_colour
returns-in-Err c = answered-refused no_colour _ c.in-Err.ensures (λ i. record { answer = c.number.ensures i; colour = 0 })

pub returns : goal.returns
unfolding number colour_of
returns c =
    answered-told no_colour _ (c.answer_at.ensures.sound c.in_default.is)
    (λ i. record { answer = 0; colour = (c.colour_at.ensures ∙ ap (at (colours_of c.args.board)) c.two_to_1dim-point.ensures) i })
