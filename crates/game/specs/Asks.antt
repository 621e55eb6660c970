-- What is asked of a game: each fact by the view.
use Rattle.std.specs.Prelude.{◌≡◌, Bool, true, false, ℕ, leb, Option, None, Some}
use Rattle.rules.specs.Answers.{Accepted, Damaged, number}
use Rattle.game.specs.declared.state.Game.{Game}
use Rattle.game.specs.declared.asks.Facts.{Facts}
use Rattle.game.specs.View.{view_of, TrueState}

-- a game is over if an outcome stands or two passes
unfoldable pub is_over : Option ℕ → ℕ → Bool
is_over None passes = leb 2 passes
is_over (Some c) passes = true

-- the facts of no game
unfoldable pub no_facts : Facts
no_facts =
    record {
      answer = number Damaged;
      height = 0;
      width = 0;
      flags = 0;
      turn = 0;
      passes = 0;
      prisoners = record { black = 0; white = 0 };
      ko = None;
      outcome = None;
      over = false;
      handicap = 0;
      accepted = 0;
      records = 0;
    }

-- every field, as the view has it
pub record Told (g : Game) (r : Facts) : Type 0 where
  pub answer : r.answer ≡ number Accepted
  pub height : r.height ≡ (view_of g).height
  pub width : r.width ≡ (view_of g).width
  pub flags : r.flags ≡ (view_of g).flags
  pub turn : r.turn ≡ (view_of g).turn
  pub passes : r.passes ≡ (view_of g).passes
  pub black_held : r.prisoners.black ≡ (view_of g).black_held
  pub white_held : r.prisoners.white ≡ (view_of g).white_held
  pub ko : r.ko ≡ (view_of g).ko_point
  pub outcome : r.outcome ≡ (view_of g).outcome
  pub over : r.over ≡ is_over (view_of g).outcome (view_of g).passes
  pub handicap : r.handicap ≡ (view_of g).handicap
  pub accepted : r.accepted ≡ (view_of g).accepted
  pub records : r.records ≡ (view_of g).records

pub record Asked (g : Game) (r : Facts) : Type 0 where
  pub damaged : ¬ TrueState g → r ≡ no_facts
  pub told : TrueState g → Told g r
