-- `point_answer`: what is told settles to the answer, by the records where they decide.
use mathlib.Core.Path.{◌≡◌, refl, sym, ap, ◌∙◌, subst}
use Prim.Native.Nat.{ℕ}
use lib.ListN.{length}
use Rattle.rules.specs.Records.{recorded}
use Rattle.rules.specs.Points.{index}
use Rattle.rules.specs.Answers.{number, refuse, SuperKo}
use Rattle.rules.specs.Calls.{resulting, point_answer}
use Rattle.std.specs.Prelude.{Result, Ok, Err}
use Rattle.points.specs.declared.answers.Refusal.{Refusal}
use Rattle.points.specs.Reason.{answer_of}
use Rattle.checking.specs.declared.superko.Leave.{Leave}
use borrow.Author.Rules.{rules}
use mathlib.Core.Bool.{Bool}
use Rattle.looking.specs.Laws.Sight.{unread}
use Rattle.game.specs.declared.state.Game.{Game}
use Rattle.game.specs.View.{view_of}
use Rattle.game.specs.Laws.View.{game-whole}
use Rattle.checking.specs.Told.{Told, told_as, settled, undecided}
use Rattle.checking.specs.Asking.{Repeating, ToldAt}
use Rattle.checking.proofs.point.point_answer.Goals.{After-told_by, After-repeats}
use Rattle.checking.proofs.point.point_answer.Goals as goal

told : (c : After-told_by) → let a = c.args in ToldAt a.game.now a.flags a.row a.column (told_as c.told_by.result)
told c =
    let a = c.args in
    subst (λ (g : Game). ToldAt g a.flags a.row a.column (told_as c.told_by.result))
    (game-whole a.game.now a.game.now.board c.clock_of.result refl c.clock_of.ensures)
    (c.told_by.ensures a.game.now.board c.requires.0.board c.look_at-sight.ensures)

pub look_at-sight-requires : goal.look_at-sight-requires
look_at-sight-requires c = record { true_board = c.requires.0.board; partly = unread _ }

-- what the rules say, once it is known what is told and whether the board is recorded
settles : (c : After-told_by) (r : Result Leave Refusal) → c.told_by.result ≡ r → let a = c.args in let g = a.game.now in
    settled (told_as r) (recorded a.history.now g.records (resulting (view_of g) (index g.board.width a.row a.column)))
    ≡ number (point_answer (view_of g) a.history.now a.flags a.row a.column)
settles c r e =
    let a = c.args in let g = a.game.now in
    ap (λ (r : Result Leave Refusal). settled (told_as r) (recorded a.history.now g.records (resulting (view_of g) (index g.board.width a.row a.column)))) (sym e)
    ∙ (told c).settles a.history.now

again : (c : After-repeats) → let a = c.args in let g = a.game.now in
    c.repeats.result ≡ recorded a.history.now g.records (resulting (view_of g) (index g.board.width a.row a.column))
again c =
    let a = c.args in let g = a.game.now in
    c.repeats.ensures ∙ ap (λ (p : ℕ). recorded a.history.now g.records (resulting (view_of g) p)) c.look_at-sight.ensures.point

pub returns-in_err-leave : goal.returns-in_err-leave
returns-in_err-leave c =
    let r = c.in_err-leave.field-0.0 in
    let given : c.from_residual.result ≡ Err r = search rules in
    ap (λ (x : Result Unit Refusal). number (answer_of x)) given ∙ settles (goal.at.returns-in_err-leave c).After-told_by _ c.in_err-leave.was

pub returns-in-Free : goal.returns-in-Free
returns-in-Free c = settles (goal.at.returns-in-Free c).After-told_by _ (c.in_ok-leave.was ∙ ap Ok c.in-Free.is)

pub repeats-requires : goal.repeats-requires
repeats-requires c =
    subst (Repeating c.args.game.now (length c.args.history.now)) (sym c.look_at-sight.ensures.point)
    ((told (goal.at.repeats-requires c).After-told_by).repeating
    (ap (λ (r : Result Leave Refusal). undecided (told_as r)) (c.in_ok-leave.was ∙ ap Ok c.in-IfNew.is)) _ c.requires.0 c.requires.1)

pub returns-then-repeats : goal.returns-then-repeats
unfolding refuse
returns-then-repeats c =
    ap (λ (b : Bool). number (refuse SuperKo b)) (sym c.if-repeats.true ∙ again (goal.at.returns-then-repeats c).After-repeats)
    ∙ settles (goal.at.returns-then-repeats c).After-told_by _ (c.in_ok-leave.was ∙ ap Ok c.in-IfNew.is)

pub returns-else-repeats : goal.returns-else-repeats
unfolding refuse
returns-else-repeats c =
    ap (λ (b : Bool). number (refuse SuperKo b)) (sym c.if-repeats.false ∙ again (goal.at.returns-else-repeats c).After-repeats)
    ∙ settles (goal.at.returns-else-repeats c).After-told_by _ (c.in_ok-leave.was ∙ ap Ok c.in-IfNew.is)
