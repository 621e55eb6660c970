-- `do_state`: the state of a true game, or 3.
use Rattle.std.proofs.Common.{refl, arith, ⊎_elim}
use Rattle.rules.specs.Answers.{Damaged, number}
use Rattle.game.specs.View.{view_of}
use Rattle.checking.specs.Laws.State.{state-or-not}
use Rattle.writing.specs.Figures.{decimal}
use Rattle.stating.specs.State.{state}
use Rattle.telling.specs.Told.{Unlent}
use Rattle.acting.specs.Laws.Says.{text-short}
use Rattle.acting.proofs.act.do_state.Goals as goal

pub returns : goal.returns
unfolding Unlent
returns g c =
    λ bytes e.
    let s = c.put_state.ensures in
    let game = c.args.game in
    ⊎_elim
    (λ is.
    record {
      text = state (view_of game);
      written = s.stated is;
      short = omega (arith, text-short c.args.out.now.items (state (view_of game)) 1024 (s.stated is) s.short);
      done = record { told = λ t. refl; damaged = λ n. absurd (n is); stays = record { game = refl; lent = e; kept = refl } };
    })
    (λ n.
    record {
      text = decimal (number Damaged);
      written = s.damaged n;
      short = omega (arith, text-short c.args.out.now.items (decimal (number Damaged)) 1024 (s.damaged n) s.short);
      done = record { told = λ t. absurd (n t); damaged = λ m. refl; stays = record { game = refl; lent = e; kept = refl } };
    })
    (state-or-not game)
