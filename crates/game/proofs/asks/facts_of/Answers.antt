-- A damaged state tells nothing; every fact of a true one is its field, or what the leaf for it ensures.
use mathlib.Core.Path.{refl, ap, ◌∙◌}
use Prim.Native.Nat.{ℕ}
use Rattle.std.specs.Prelude.{Option}
use Rattle.rules.specs.Answers.{number}
use Rattle.rules.proofs.Laws.Lists.{not-both}
use Rattle.game.specs.View.{view_of}
use Rattle.game.specs.Asks.{is_over, no_facts}
use Rattle.game.proofs.asks.facts_of.Goals as goal

pub returns-then-not-judge_state : goal.returns-then-not-judge_state
unfolding number no_facts
returns-then-not-judge_state c = record { damaged = λ n. refl; told = λ is. absurd (not-both (c.judge_state.ensures.complete is) c.if-not-judge_state.true) }

pub returns : goal.returns
unfolding number view_of
returns c =
    record {
      damaged = λ n. absurd (n (c.judge_state.ensures.sound c.if-not-judge_state.false));
      told =
          λ is.
          record {
            answer = refl;
            height = refl;
            width = refl;
            flags = refl;
            turn = c.player_of.ensures;
            passes = refl;
            black_held = refl;
            white_held = refl;
            ko = c.ko_point.ensures;
            outcome = c.outcome_of-outcome.ensures;
            over = c.is_over.ensures ∙ ap (λ (o : Option ℕ). is_over o c.args.game.passes) c.outcome_of-outcome.ensures;
            handicap = refl;
            accepted = refl;
            records = refl;
          };
    }
