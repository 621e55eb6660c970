-- Each way out has found one test that no state with these numbers passes, or all of them passed.
use mathlib.Core.Path.{◌≡◌, sym, ap₂, subst}
use mathlib.Core.Bool.{false}
use lib.Dec.{eqb}
use borrow.Author.Tests.{ne_eqb}
use native.Mathlib.Omega.{arith}
use Prim.Native.Nat.{ℕ, ◌≤◌}
use borrow.Author.Rules.{rules}
use mir.Val.{Fits}
use mir.Syntax.{w16}
use Rattle.rules.specs.Sizes.{max_stones}
use Rattle.rules.specs.Points as rules
use Rattle.rules.proofs.Laws.Lists.{not-both}
use Rattle.board.specs.declared.goban.Board.{Board}
use Rattle.board.specs.True.{TrueBoard}
use Rattle.board.specs.Verdict.{Judged, Counted}
use Rattle.game.specs.Clock.{game_of}
use Rattle.game.specs.View.{TrueState}
use Rattle.game.specs.Judge.{Untouched}
use Rattle.game.specs.Laws.Judge.{decides-yes, decides-no, true-ranged, true-sums, true-start, made-true}
use Rattle.game.proofs.judge.numbers_fit.Goals.{In-Some, Else-not-summed}
use Rattle.game.proofs.judge.numbers_fit.Goals as goal

-- the area is the board's
sized : {h w : ℕ} (b : Board) → b.height ≡ h → b.width ≡ w → rules.area h w ≡ rules.area b.height b.width
sized b height width = ap₂ rules.area (sym height) (sym width)

-- what was found is that the board is true, with these stones
found : (c : In-Some) (b : Board) → Judged b c.args.found → TrueBoard b × Counted b c.in-Some.on
found c b = subst (Judged b) c.in-Some.is

-- the place where range and sums are found good
tested : (c : Else-not-summed) (b : Board) →
    let k = c.args.clock in
    b.height ≡ c.args.height → b.width ≡ c.args.width → TrueBoard b × Counted b c.in-Some.on
    → (k.begun ≡ 0 → Untouched k.put k.records k.passes k.outcome) → TrueState (game_of b k)
unfolding game_of
tested c b height width is start =
    let limited : c.args.clock.accepted ≤ max_stones = let fits : Fits w16 c.args.clock.accepted = search rules in omega (arith, fits.fits) in
    made-true (game_of b c.args.clock) is.0 limited _ (sized b height width) (c.in_range.ensures.sound c.if-not-in_range.false)
    _ is.1 (c.summed.ensures.sound c.if-not-summed.false) start

pub returns-in-None : goal.returns-in-None
unfolding game_of
returns-in-None c b height width is = decides-no (λ (state : TrueState (game_of b c.args.clock)). subst (Judged b) c.in-None.is is state.board)

pub returns-then-not-in_range : goal.returns-then-not-in_range
unfolding game_of
returns-then-not-in_range c b height width is =
    let g = game_of b c.args.clock in
    decides-no (λ (state : TrueState g). not-both (c.in_range.ensures.complete (true-ranged g state _ (sized b height width))) c.if-not-in_range.true)

pub returns-then-not-summed : goal.returns-then-not-summed
unfolding game_of
returns-then-not-summed c b height width is =
    let g = game_of b c.args.clock in
    let on = (found (goal.at.returns-then-not-summed c).In-Some b is).1 in
    decides-no (λ (state : TrueState g). not-both (c.summed.ensures.complete (true-sums g state _ on)) c.if-not-summed.true)

pub returns-then-clock-ne0 : goal.returns-then-clock-ne0
returns-then-clock-ne0 c b height width is =
    let yes : eqb c.args.clock.begun 0 ≡ false = ne_eqb _ _ c.if-clock-ne0.true in
    let on = found (goal.at.returns-then-clock-ne0 c).In-Some b is in
    rw yes (decides-yes (tested (goal.at.returns-then-clock-ne0 c).Else-not-summed b height width on (λ z. absurd (c.if-clock-ne0.true z))))

pub returns-else-clock-ne0 : goal.returns-else-clock-ne0
unfolding game_of
returns-else-clock-ne0 c b height width is =
    let g = game_of b c.args.clock in
    let on = found (goal.at.returns-else-clock-ne0 c).In-Some b is in
    record {
      sound = λ t. tested (goal.at.returns-else-clock-ne0 c).Else-not-summed b height width on (λ z. c.untouched.ensures.sound t);
      complete = λ (state : TrueState g). c.untouched.ensures.complete (true-start g state c.if-clock-ne0.false);
    }
