-- The first tests decide, or the records do.
use borrow.Author.Rules.{rules}
use mathlib.Core.List.{List}
use mathlib.Core.Path.{◌≡◌, refl, sym, ap, ◌∙◌, subst}
use lib.ListN.{length}
use Prim.Native.Nat.{ℕ}
use Rattle.std.specs.Prelude.{Option, Some, None, Result, Ok, Err}
use Rattle.points.specs.declared.answers.Refusal.{Refusal}
use Rattle.game.specs.Clock.{game_of}
use Rattle.playing.specs.declared.stone.Turn.{Turn}
use Rattle.playing.specs.Turn.{Shown, Tested, FirstTested}
use Rattle.playing.specs.Laws.Stone.{shown-ready}
use Rattle.playing.proofs.stone.all_tested.Goals.{After-tested}
use Rattle.playing.proofs.stone.all_tested.Goals as goal

pub tested-requires : goal.tested-requires
tested-requires c = shown-ready _ _ _ _ _ _ _ c.requires

-- what the first tests said, by what they answered
first : (c : After-tested) (r : Result (Option Turn) Refusal) → c.tested.result ≡ r →
    let a = c.args in FirstTested (game_of a.board.now a.clock) a.history.now a.row a.column r c.tested.new.history
first c r e =
    let a = c.args in
    subst (λ (x : Result (Option Turn) Refusal). FirstTested (game_of a.board.now a.clock) a.history.now a.row a.column x c.tested.new.history) e
    (c.tested.ensures a.board.now c.requires)

pub returns-in_err-first : goal.returns-in_err-first
returns-in_err-first c =
    let a = c.args in
    let r = c.in_err-first.field-0.0 in
    let given : c.from_residual.result ≡ Err r = search rules in
    subst (λ (x : Result Turn Refusal). Tested (game_of a.board.now a.clock) a.history.now a.row a.column x c.tested.new.history) (sym given)
    (first (goal.at.returns-in_err-first c).After-tested _ c.in_err-first.was)

pub returns-in-Some : goal.returns-in-Some
returns-in-Some c = first (goal.at.returns-in-Some c).After-tested _ (c.in_ok-first.was ∙ ap Ok c.in-Some.is)

pub settled-requires : goal.settled-requires
settled-requires c =
    let a = c.args in
    let (waits, lent) = first (goal.at.settled-requires c).After-tested _ (c.in_ok-first.was ∙ ap Ok c.in-None.is) in
    record {
      row = a.row;
      column = a.column;
      shown = subst (λ (bytes : List ℕ). Shown a.board.now a.sight a.colours.now a.clock (length bytes) a.row a.column) (sym lent) c.requires;
      waits = waits;
    }

pub returns-in-None : goal.returns-in-None
returns-in-None c =
    let a = c.args in
    let (waits, lent) = first (goal.at.returns-in-None c).After-tested _ (c.in_ok-first.was ∙ ap Ok c.in-None.is) in
    subst (λ (bytes : List ℕ). Tested (game_of a.board.now a.clock) bytes a.row a.column c.settled.result c.settled.new.history) lent
    (c.settled.ensures a.row a.column
    (subst (λ (bytes : List ℕ). Shown a.board.now a.sight a.colours.now a.clock (length bytes) a.row a.column) (sym lent) c.requires) waits)
