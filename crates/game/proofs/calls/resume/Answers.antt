-- The state is damaged, or the call on its numbers answers.
use mathlib.Core.List.{[]}
use Rattle.rules.specs.Calls.{resume}
use Rattle.game.specs.View.{view_of}
use Rattle.game.specs.Laws.After.{alone-called}
use Rattle.game.proofs.calls.resume.Goals as goal

pub returns : goal.returns
returns c =
    alone-called _ (λ g. resume (view_of g) []) _ _ c.vouched.ensures c.and_then.ensures c.put_back.ensures.told c.put_back.ensures.given c.put_back.ensures.kept
