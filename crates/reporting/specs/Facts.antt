-- A game's facts in numbers alone: what the view has, with a number for no ko point and for no outcome.
use Rattle.std.specs.Prelude.{◌≡◌, false, ℕ, Option, None, Some}
use Rattle.rules.specs.Answers.{Accepted, Damaged, number}
use Rattle.rules.specs.Game as rules
use Rattle.game.specs.declared.state.Game.{Game}
use Rattle.game.specs.View.{no_point, view_of, TrueState}
use Rattle.game.specs.Asks.{is_over}
use Rattle.reporting.specs.declared.facts.Facts.{Facts}

abbrev pub ko_number : Option ℕ → ℕ
ko_number None = no_point
ko_number (Some p) = p

-- a player's number is never 0
abbrev pub outcome_number : Option ℕ → ℕ
outcome_number None = 0
outcome_number (Some c) = c

-- the facts of no game
unfoldable pub no_facts : Facts
no_facts =
    record {
      answer = number Damaged;
      height = 0;
      width = 0;
      flags = 0;
      turn = 0;
      passes = 0;
      outcome = 0;
      over = false;
      ko = no_point;
      handicap = 0;
      accepted = 0;
      prisoners = record { black = 0; white = 0 };
      records = 0;
    }

unfoldable pub facts_of : rules.Game → Facts
facts_of v =
    record {
      answer = number Accepted;
      height = v.height;
      width = v.width;
      flags = v.flags;
      turn = v.turn;
      passes = v.passes;
      outcome = outcome_number v.outcome;
      over = is_over v.outcome v.passes;
      ko = ko_number v.ko_point;
      handicap = v.handicap;
      accepted = v.accepted;
      prisoners = record { black = v.black_held; white = v.white_held };
      records = v.records;
    }

pub record Asked (g : Game) (r : Facts) : Type 0 where
  pub damaged : ¬ TrueState g → r ≡ no_facts
  pub told : TrueState g → r ≡ facts_of (view_of g)
