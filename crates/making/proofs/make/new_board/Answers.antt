-- `making::make::new_board`: by the test of the sizes, the new board of that size, or what stands for a refused one.
use Rattle.std.proofs.Common.{refl, sym, ◌∙◌}
use Rattle.rules.specs.Answers.{number}
use Rattle.making.specs.Laws.NewBoard.{size-made, size-refused}
use Rattle.making.proofs.make.new_board.Goals as goal

pub returns-then-not-is_size : goal.returns-then-not-is_size
unfolding number
returns-then-not-is_size c =
    size-refused _ _ _ (sym c.is_size.ensures ∙ c.if-not-is_size.true) c.refused.ensures.0 c.refused.ensures.1

pub returns : goal.returns
returns c = size-made _ _ _ (sym c.is_size.ensures ∙ c.if-not-is_size.false) refl c.empty_board.ensures
