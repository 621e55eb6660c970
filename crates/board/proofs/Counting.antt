-- The stones of one colour in the slots passed: exact where the board turns out to be true, and on any board too few to wrap.
use mathlib.Core.Path.{◌≡◌, sym, ap, ◌∙◌}
use mathlib.Core.Bool.{false, cond}
use mathlib.Core.Logic.{⊎_elim}
use Prim.Native.Nat.{ℕ, ◌+◌, ◌*◌, ◌^◌, ◌≤◌, ◌<◌}
use native.Mathlib.Omega.{arith}
use lib.Dec.{eqb}
use lib.ListN.{get_or}
use Rattle.rules.specs.Sizes.{slots}
use Rattle.rules.specs.Game.{Player, stones}
use Rattle.rules.proofs.Laws.Lists.{decided, not-both}
use Rattle.chains.specs.declared.group.Chain.{Chain}
use Rattle.board.specs.declared.goban.Board.{Board}
use Rattle.board.specs.Board.{colours_of}
use Rattle.board.specs.True.{Shaped, TrueBoard}
use Rattle.board.specs.Judge.{judged}
use Rattle.board.specs.Laws.Judge.{judged-true}
use Rattle.board.specs.Laws.Stones.{stones_below, stones_below-none, stones_below-step, stones_below-all}

pub record Counting (b : Board) (colour sum slot : ℕ) : Type 0 where
  pub exact : TrueBoard b → sum ≡ stones_below b colour slot
  pub small : sum ≤ slot * 2 ^ 16

pub none_yet : (b : Board) (colour : ℕ) → Counting b colour 0 0
none_yet b colour = record { exact = λ is. sym (stones_below-none b colour); small = omega arith }

pub one_more :
    {b : Board} {colour sum slot got : ℕ} (chain : Chain) → Counting b colour sum slot → slot < slots
    → got ≡ cond (eqb (get_or b.chains slot chain).colour colour) (get_or b.chains slot chain).count 0 → got < 2 ^ 16
    → Counting b colour (sum + got) (slot + 1)
one_more {b} {colour} {sum} {slot} chain so_far low here few =
    record { exact = λ is. stones_below-step b is colour slot chain low (so_far.exact is) here; small = omega (arith, so_far.small) }

-- a free slot has none
pub no_more :
    {b : Board} {colour sum slot : ℕ} (chain : Chain) → Counting b colour sum slot → slot < slots → (get_or b.chains slot chain).count ≡ 0
    → Counting b colour sum (slot + 1)
no_more {b} {colour} {sum} {slot} chain so_far low free =
    let none : 0 ≡ cond (eqb (get_or b.chains slot chain).colour colour) (get_or b.chains slot chain).count 0 =
    ⊎_elim (λ y. rw y (sym free)) (λ n. rw n) (decided (eqb (get_or b.chains slot chain).colour colour)) in
    let more = one_more chain so_far low none (omega arith) in
    record { exact = λ is. omega (arith, more.exact is); small = omega (arith, so_far.small) }

pub all_told : {b : Board} {colour sum slot : ℕ} → Counting b colour sum slot → slot ≡ slots → TrueBoard b → Player colour → sum ≡ stones (colours_of b) colour
all_told {b} {colour} counting e is player = counting.exact is ∙ ap (stones_below b colour) e ∙ stones_below-all b is colour player

-- a board that the judge's tests refuse is not true
pub untrue : (b : Board) → Shaped b → judged b ≡ false → ¬ TrueBoard b
untrue b shape refused is = not-both ((judged-true b shape).1 is) refused
