-- The state is damaged, or the call on its numbers answers.
use mathlib.Core.List.{[]}
use mathlib.Core.Path.{◌≡◌}
use borrow.Author.Rules.{rules}
use Rattle.std.specs.declared.result.Result.TheVariants.{Err}
use Rattle.std.specs.Result.{MatchResult}
use Rattle.rules.specs.Calls.{resign}
use Rattle.game.specs.View.{turn_of, view_of}
use Rattle.game.specs.Promise.{Ticks}
use Rattle.game.specs.Ticked.{number_of, after}
use Rattle.game.specs.Laws.After.{alone-called}
use Rattle.game.proofs.calls.resign.Goals as goal

pub returns : goal.returns
returns c =
    let player = c.args.player in
    let ticks : MatchResult c.vouched.result (λ k. Ticks (λ g. resign (view_of g) [] (turn_of player)) k (number_of c.and_then.result) (after k c.and_then.result)) (λ r. c.and_then.result ≡ Err r) = search rules in
    alone-called _ (λ g. resign (view_of g) [] (turn_of player)) _ _ c.vouched.ensures ticks c.put_back.ensures.told c.put_back.ensures.given c.put_back.ensures.kept
