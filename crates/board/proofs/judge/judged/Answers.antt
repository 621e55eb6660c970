-- Each way out has found one test to fail, so that the board is not true, or the hash to decide.
use mathlib.Core.Path.{◌≡◌, refl, sym, ap, ◌∙◌}
use mathlib.Core.Bool.{true, false}
use mathlib.Core.List.{List, []}
use mathlib.Core.Logic.{inl, inr, ◌≢◌}
use Prim.Native.Nat.{ℕ, ◌≤◌}
use native.Mathlib.Omega.{arith}
use lib.Dec.{eqb}
use lib.ListN.{get_or}
use borrow.Author.Rules.{rules}
use borrow.Author.Tests.{eq-eqb, ne_eqb}
use Rattle.rules.specs.Sizes.{max_area, slots}
use Rattle.rules.specs.Lists.{all, below}
use Rattle.rules.specs.Points.{area}
use Rattle.rules.specs.Calls.{side_ok}
use Rattle.rules.specs.Colours.{black, white}
use Rattle.rules.specs.Game.{Player}
use Rattle.rules.proofs.Laws.Lists.{get_d_default}
use Rattle.chains.specs.declared.group.Chain.{Chain}
use Rattle.chains.specs.Group.{free_chain}
use Rattle.board.specs.declared.goban.Board.{Board}
use Rattle.board.specs.Board.{owner, chain_in}
use Rattle.board.specs.True.{Shaped, TrueBoard}
use Rattle.owning.specs.Owners.{owner_in, placed}
use Rattle.flooding.specs.Flood.{hash_of}
use Rattle.board.specs.Judge.{slot_good, noted, judged}
use Rattle.board.specs.Laws.Judge.{judged-true}
use Rattle.board.specs.Laws.Verdict.{side-some, sides-fit, sides-some, sides-wide, judging-begin, judging-chain, judging-lent, judging-free, judging-used, notes-all}
use Rattle.board.specs.Laws.Verdict.{seen_good, rows_good, columns_good, no-height, no-width, not-placed, bad-slot, not_seen, not-rows, not-columns, hash-decides}
use Rattle.board.proofs.Notes.{past, chain-at, noted-says, decides}
use Rattle.board.proofs.Counting.{none_yet, one_more, no_more, all_told, untrue}
use Rattle.board.proofs.judge.judged.Invariants.{Passing}
use Rattle.board.proofs.judge.judged.Goals.{After-chain_good, After-loop-slot, Else-not-all_placed, Else-not-columns_apart, Else-not-is_side-2, In-loop-slot, Start}
use Rattle.board.proofs.judge.judged.Goals.{then-chain-ne0+else-not-chain_good, else-chain-ne0}
use Rattle.board.proofs.judge.judged.Goals as goal

-- what holds of the slots passed holds of the same values, where the ways by a used slot and by a free one have met
passing-same :
    {b : Board} {notes notes' queue queue' : List ℕ} {hash hash' blacks blacks' whites whites' slot : ℕ}
    → notes' ≡ notes → queue' ≡ queue → hash' ≡ hash → blacks' ≡ blacks → whites' ≡ whites
    → Passing b notes queue hash blacks whites slot → Passing b notes' queue' hash' blacks' whites' slot
passing-same n q h b w is = rw (n, q, h, b, w) is

-- ---- Before the loop: the start, where both sides are found good, and where the points are well placed

shape : (c : Start) → Shaped c.args.board.now
shape c = record { owners = search rules; links = search rules; chains = search rules }

-- where the judgement is no, the board is not true
refused : (c : Start) → judged c.args.board.now ≡ false → ¬ TrueBoard c.args.board.now
refused c = untrue c.args.board.now (shape c)

tall : (c : Else-not-is_side-2) → side_ok c.args.board.now.height ≡ true
tall c = sym c.is_side.ensures ∙ c.if-not-is_side.false

wide : (c : Else-not-is_side-2) → side_ok c.args.board.now.width ≡ true
wide c = sym c.is_side-2.ensures ∙ c.if-not-is_side-2.false

fits : (c : Else-not-is_side-2) → let b = c.args.board.now in area b.height b.width ≤ max_area
fits c = sides-fit _ _ (tall c) (wide c)

on : (c : Else-not-all_placed) → all (placed c.args.board.now.height c.args.board.now.width (owner c.args.board.now)) (below max_area) ≡ true
unfolding owner owner_in
on c = sym c.all_placed.ensures ∙ c.if-not-all_placed.false

-- ---- The ways out

pub returns-then-not-is_side : goal.returns-then-not-is_side
returns-then-not-is_side c = refused (goal.at.returns-then-not-is_side c).Start (no-height _ (sym c.is_side.ensures ∙ c.if-not-is_side.true))

pub returns-then-not-is_side-2 : goal.returns-then-not-is_side-2
returns-then-not-is_side-2 c = refused (goal.at.returns-then-not-is_side-2 c).Start (no-width _ (sym c.is_side-2.ensures ∙ c.if-not-is_side-2.true))

pub all_placed-requires : goal.all_placed-requires
all_placed-requires c = fits (goal.at.all_placed-requires c).Else-not-is_side-2

pub returns-then-not-all_placed : goal.returns-then-not-all_placed
unfolding owner owner_in
returns-then-not-all_placed c =
    refused (goal.at.returns-then-not-all_placed c).Start (not-placed _ (sym c.all_placed.ensures ∙ c.if-not-all_placed.true))

pub row_starts-starts-requires : goal.row_starts-starts-requires
row_starts-starts-requires c = (side-some _ (wide (goal.at.row_starts-starts-requires c).Else-not-is_side-2), fits (goal.at.row_starts-starts-requires c).Else-not-is_side-2)

pub loop-slot-init : goal.loop-slot-init
loop-slot-init c = (judging-begin c.args.board.now (shape (goal.at.loop-slot-init c).Start) (on (goal.at.loop-slot-init c).Else-not-all_placed), none_yet c.args.board.now black, none_yet c.args.board.now white)

pub chain_good-requires : goal.chain_good-requires
chain_good-requires c =
    judging-lent c.args.board.now (shape (goal.at.chain_good-requires c).Start) (on (goal.at.chain_good-requires c).Else-not-all_placed) c.loop-slot.invariant.0 c.loop-slot-test.true c.row_starts-starts.ensures (fits (goal.at.chain_good-requires c).Else-not-is_side-2)

pub returns-then-not-chain_good : goal.returns-then-not-chain_good
unfolding owner owner_in chain_in
returns-then-not-chain_good c =
    let b = c.args.board.now in
    let whole = shape (goal.at.returns-then-not-chain_good c).Start in
    let low = c.loop-slot-test.true in
    let used : (get_or b.chains c.loop-slot.slot past).count ≢ 0 = search rules in
    let tested = judging-chain b whole (on (goal.at.returns-then-not-chain_good c).Else-not-all_placed) c.loop-slot.invariant.0 low (chain-at b whole _ low) used in
    refused (goal.at.returns-then-not-chain_good c).Start
    (bad-slot b c.loop-slot.slot low (tested ∙ sym c.chain_good.ensures.judged ∙ c.if-not-chain_good.true))

pub overflow_add-black : goal.overflow_add-black
overflow_add-black c =
    omega (arith, c.loop-slot.invariant.1.small, c.loop-slot-test.true, c.stones_in-black.ensures.few)

pub overflow_add-white : goal.overflow_add-white
overflow_add-white c =
    omega (arith, c.loop-slot.invariant.2.small, c.loop-slot-test.true, c.stones_in-white.ensures.few)

pub loop-slot-preserved : goal.loop-slot-preserved
loop-slot-preserved c =
    let b = c.args.board.now in
    let whole = shape (goal.at.loop-slot-preserved c).Start in
    let here = on (goal.at.loop-slot-preserved c).Else-not-all_placed in
    let low = c.loop-slot-test.true in
    let (judging, blacks, whites) = c.loop-slot.invariant in
    elim c.if-chain-ne0.branch [
      | then-chain-ne0+else-not-chain_good w ↦ (
          let good = w.if-not-chain_good.false in
          passing-same w.notes-is w.queue-is w.hash-is w.black-is w.white-is (
            judging-used b whole here judging low (chain-at b whole _ low) w.if-chain-ne0.true (sym w.chain_good.ensures.judged ∙ good)
                (w.chain_good.ensures.passed good),
            one_more _ blacks low w.stones_in-black.ensures.counted w.stones_in-black.ensures.few,
            one_more _ whites low w.stones_in-white.ensures.counted w.stones_in-white.ensures.few,
          ))
      | else-chain-ne0 w ↦
          passing-same w.notes-is w.queue-is w.hash-is w.black-is w.white-is (
            judging-free b whole here judging low (chain-at b whole _ low) w.if-chain-ne0.false,
            no_more _ blacks low w.if-chain-ne0.false,
            no_more _ whites low w.if-chain-ne0.false,
          )
    ]

pub all_found-requires : goal.all_found-requires
all_found-requires c = fits (goal.at.all_found-requires c).Else-not-is_side-2

pub returns-then-not-all_found : goal.returns-then-not-all_found
unfolding owner owner_in
returns-then-not-all_found c =
    let b = c.args.board.now in
    let whole = shape (goal.at.returns-then-not-all_found c).Start in
    let here = on (goal.at.returns-then-not-all_found c).Else-not-all_placed in
    refused (goal.at.returns-then-not-all_found c).Start (not_seen b (noted-says b whole here c.loop-slot.invariant.0 c.loop-slot-test.false seen_good c.all_found.ensures c.if-not-all_found.true))

pub rows_apart-requires : goal.rows_apart-requires
rows_apart-requires c =
    (c.row_starts-starts.ensures, fits (goal.at.rows_apart-requires c).Else-not-is_side-2, sides-some _ _ (side-some _ (tall (goal.at.rows_apart-requires c).Else-not-is_side-2)) (side-some _ (wide (goal.at.rows_apart-requires c).Else-not-is_side-2)))

pub returns-then-not-rows_apart : goal.returns-then-not-rows_apart
unfolding owner owner_in
returns-then-not-rows_apart c =
    let b = c.args.board.now in
    let whole = shape (goal.at.returns-then-not-rows_apart c).Start in
    let here = on (goal.at.returns-then-not-rows_apart c).Else-not-all_placed in
    refused (goal.at.returns-then-not-rows_apart c).Start (not-rows b (noted-says b whole here c.loop-slot.invariant.0 c.loop-slot-test.false rows_good c.rows_apart.ensures c.if-not-rows_apart.true))

pub columns_apart-requires : goal.columns_apart-requires
columns_apart-requires c =
    (fits (goal.at.columns_apart-requires c).Else-not-is_side-2, sides-wide _ _ (side-some _ (tall (goal.at.columns_apart-requires c).Else-not-is_side-2)))

pub returns-then-not-columns_apart : goal.returns-then-not-columns_apart
unfolding owner owner_in
returns-then-not-columns_apart c =
    let b = c.args.board.now in
    let whole = shape (goal.at.returns-then-not-columns_apart c).Start in
    let here = on (goal.at.returns-then-not-columns_apart c).Else-not-all_placed in
    refused (goal.at.returns-then-not-columns_apart c).Start (not-columns b (noted-says b whole here c.loop-slot.invariant.0 c.loop-slot-test.false columns_good c.columns_apart.ensures c.if-not-columns_apart.true))

-- all but the hash are passed
decided : (c : Else-not-columns_apart) → Shaped c.args.board.now → all (placed c.args.board.now.height c.args.board.now.width (owner c.args.board.now)) (below max_area) ≡ true
    → judged c.args.board.now ≡ eqb c.args.board.now.hash c.loop-slot.hash
unfolding owner owner_in
decided c whole here =
    let b = c.args.board.now in
    let judging = c.loop-slot.invariant.0 in
    let end = c.loop-slot-test.false in
    decides b whole here judging end (sym c.is_side.ensures ∙ c.if-not-is_side.false) (sym c.is_side-2.ensures ∙ c.if-not-is_side-2.false)
    (noted-says b whole here judging end seen_good c.all_found.ensures c.if-not-all_found.false)
    (noted-says b whole here judging end rows_good c.rows_apart.ensures c.if-not-rows_apart.false)
    (noted-says b whole here judging end columns_good c.columns_apart.ensures c.if-not-columns_apart.false)

pub returns-then-board-hash : goal.returns-then-board-hash
returns-then-board-hash c = refused (goal.at.returns-then-board-hash c).Start (decided (goal.at.returns-then-board-hash c).Else-not-columns_apart (shape (goal.at.returns-then-board-hash c).Start) (on (goal.at.returns-then-board-hash c).Else-not-all_placed) ∙ ne_eqb _ _ c.if-board-hash.true)

pub returns : goal.returns
unfolding Player
returns c =
    let same : c.args.board.now.hash ≡ c.loop-slot.hash = omega arith in
    let is = (judged-true c.args.board.now (shape (goal.at.returns c).Start)).0 (decided (goal.at.returns c).Else-not-columns_apart (shape (goal.at.returns c).Start) (on (goal.at.returns c).Else-not-all_placed) ∙ eq-eqb _ _ same) in
    let all : c.loop-slot.slot ≡ slots = omega (arith, c.loop-slot.invariant.0.within, c.loop-slot-test.false) in
    (is, record { blacks = all_told c.loop-slot.invariant.1 all is (inl refl); whites = all_told c.loop-slot.invariant.2 all is (inr refl) })
