-- The first tests refuse, the records decide, or the last tests do without them.
use borrow.Author.Rules.{rules}
use mathlib.Core.Path.{◌≡◌, refl, sym, ap, ◌∙◌, subst}
use Prim.Native.Nat.{ℕ}
use mathlib.Core.Bool.{Bool}
use lib.ListN.{length}
use Rattle.std.specs.Prelude.{Option, Some, Result, Ok, Err}
use Rattle.rules.specs.Answers.{number}
use Rattle.rules.proofs.Laws.Lists.{not-both}
use Rattle.points.specs.declared.answers.Refusal.{Refusal}
use Rattle.points.specs.declared.answers.Refusal.TheVariants.{GamePaused}
use Rattle.points.specs.Reason.{reason}
use Rattle.board.specs.declared.goban.Board.{Board}
use Rattle.board.specs.Board.{colours_of}
use Rattle.looking.specs.Laws.Sight.{sees-record}
use Rattle.game.specs.Clock.{game_of}
use Rattle.points.proofs.Reasons.{nonzero}
use Rattle.checking.specs.declared.superko.Leave.{Leave}
use Rattle.checking.specs.Told.{known, undecided, told_as}
use Rattle.checking.specs.Asking.{ToldAt}
use Rattle.playing.specs.declared.stone.Turn.{Turn}
use Rattle.playing.specs.Turn.{first_answer, Shown, Tested, FirstTested}
use Rattle.playing.specs.Laws.Stone.{open-first, paused-first, first-refuses, finished-tested}
use Rattle.playing.proofs.stone.tested.Goals.{After-told_by-told, After-finished, Else-clock-eq2}
use Rattle.playing.proofs.stone.tested.Goals as goal

abbrev Looks : (c : After-told_by-told) → Board → Type 0
Looks c b = let a = c.args in Shown b a.sight a.colours.now a.clock (length a.history.now) a.row a.column

told : (c : After-told_by-told) (b : Board) → Looks c b →
    let a = c.args in ToldAt (game_of b a.clock) a.clock.flags a.row a.column (told_as c.told_by-told.result)
unfolding game_of
told c b is = c.told_by-told.ensures b is.state.board is.sees

-- what is known, where no pause stands
open' : (c : Else-clock-eq2) (r : Result Leave Refusal) → c.told_by-told.result ≡ r
    → first_answer c.args.clock.passes (known (told_as c.told_by-told.result)) ≡ known (told_as r)
open' c r e = open-first _ _ c.if-clock-eq2.false ∙ ap (λ (x : Result Leave Refusal). known (told_as x)) e

pub returns-then-clock-eq2 : goal.returns-then-clock-eq2
unfolding game_of
returns-then-clock-eq2 c b is =
    let a = c.args in
    first-refuses (game_of b a.clock) a.history.now a.row a.column is.state is.room (told_as c.told_by-told.result) (told (goal.at.returns-then-clock-eq2 c).After-told_by-told b is)
    _ (paused-first _ _ c.if-clock-eq2.true) (nonzero GamePaused)

pub returns-in_err-leave : goal.returns-in_err-leave
unfolding game_of
returns-in_err-leave c b is =
    let a = c.args in
    let r = c.in_err-leave.field-0.0 in
    let given : c.from_residual.result ≡ Err r = search rules in
    subst (λ (x : Result (Option Turn) Refusal). FirstTested (game_of b a.clock) a.history.now a.row a.column x a.history.now) (sym given)
    (first-refuses (game_of b a.clock) a.history.now a.row a.column is.state is.room (told_as c.told_by-told.result) (told (goal.at.returns-in_err-leave c).After-told_by-told b is)
    _ (sym (open' (goal.at.returns-in_err-leave c).Else-clock-eq2 _ c.in_err-leave.was)) (nonzero r))

pub returns-in-IfNew : goal.returns-in-IfNew
unfolding game_of
returns-in-IfNew c b is =
    let waits = c.in_ok-leave.was ∙ ap Ok c.in-IfNew.is in (
      record {
        told = told_as c.told_by-told.result;
        its = told (goal.at.returns-in-IfNew c).After-told_by-told b is;
        waits = ap (λ (x : Result Leave Refusal). undecided (told_as x)) waits;
        passes = open' (goal.at.returns-in-IfNew c).Else-clock-eq2 _ waits;
      },
      refl,
    )

-- what the last tests answer of a stone about which the records say nothing
last : (c : After-finished) (b : Board) → let a = c.args in Shown b a.sight a.colours.now a.clock (length a.history.now) a.row a.column
    → Tested (game_of b a.clock) a.history.now a.row a.column c.finished.result c.finished.new.history
unfolding game_of number
last c b is =
    let a = c.args in
    let leave = c.in_ok-leave.was ∙ ap Ok c.in-Free.is in
    finished-tested b a.sight a.colours.now a.clock a.history.now a.row a.column is (told_as c.told_by-told.result) (c.told_by-told.ensures b is.state.board is.sees)
    (open-first _ _ c.if-clock-eq2.false ∙ ap (λ (x : Result Leave Refusal). known (told_as x)) leave)
    _ (λ y. absurd (not-both y (ap (λ (x : Result Leave Refusal). undecided (told_as x)) leave))) (λ _. refl) c.finished.result _
    (c.finished.ensures (colours_of b) (sees-record b is.state.board a.row a.column a.colours.now a.sight is.sees))

pub returns-in_err-turn-in-Free : goal.returns-in_err-turn-in-Free
returns-in_err-turn-in-Free c b is =
    let a = c.args in
    let r = c.in_err-turn-in-Free.field-0.0 in
    let given : c.from_residual-in_err-turn-in-Free.result ≡ Err r = search rules in
    subst (λ (x : Result (Option Turn) Refusal). FirstTested (game_of b a.clock) a.history.now a.row a.column x c.finished.new.history) (sym given)
    (subst (λ (x : Result Turn Refusal). Tested (game_of b a.clock) a.history.now a.row a.column x c.finished.new.history) c.in_err-turn-in-Free.was
    (last (goal.at.returns-in_err-turn-in-Free c).After-finished b is))

pub returns-in_ok-turn-in-Free : goal.returns-in_ok-turn-in-Free
returns-in_ok-turn-in-Free c b is =
    let a = c.args in
    subst (λ (x : Result Turn Refusal). Tested (game_of b a.clock) a.history.now a.row a.column x c.finished.new.history) c.in_ok-turn-in-Free.was
    (last (goal.at.returns-in_ok-turn-in-Free c).After-finished b is)
