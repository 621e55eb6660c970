-- Each field is one of the game's facts, or the number of one.
use mathlib.Core.Path.{ap, ◌∙◌}
use Rattle.rules.specs.Answers.{number}
use Rattle.game.specs.Asks as asked
use Rattle.reporting.specs.Facts.{ko_number, outcome_number, no_facts, facts_of}
use Rattle.reporting.specs.Laws.Facts.{ko-within, ko-told}
use Rattle.reporting.proofs.facts.facts_of.Goals as goal

pub ko_number-requires : goal.ko_number-requires
ko_number-requires c = ko-within _ _ c.facts_of-facts.ensures

pub returns : goal.returns
unfolding number no_facts facts_of asked.no_facts
returns c =
    let a = c.facts_of-facts.ensures in
    record {
      damaged = λ n. rw (c.outcome_number.ensures, ko-told _ _ c.ko_number.ensures, a.damaged n);
      told =
          λ t i.
          record {
            answer = (a.told t).answer i;
            height = (a.told t).height i;
            width = (a.told t).width i;
            flags = (a.told t).flags i;
            turn = (a.told t).turn i;
            passes = (a.told t).passes i;
            outcome = (c.outcome_number.ensures ∙ ap outcome_number (a.told t).outcome) i;
            over = (a.told t).over i;
            ko = (ko-told _ _ c.ko_number.ensures ∙ ap ko_number (a.told t).ko) i;
            handicap = (a.told t).handicap i;
            accepted = (a.told t).accepted i;
            prisoners = record { black = (a.told t).black_held i; white = (a.told t).white_held i };
            records = (a.told t).records i;
          };
    }
