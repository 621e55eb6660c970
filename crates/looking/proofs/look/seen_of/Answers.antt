use Rattle.std.proofs.Common.{◌≡◌, ◌<◌, arith, sym, ap, ◌∙◌, subst, List, ℕ}
use Rattle.rules.specs.Sizes.{max_area, slots}
use Rattle.rules.specs.Lists.{tabulate}
use Rattle.rules.specs.Colours.{at}
use Rattle.chains.specs.declared.group.Chain.{Chain}
use Rattle.board.specs.Board.{owner, chain_in, colours_of}
use Rattle.history.specs.Packing.{on_largest}
use Rattle.legality.specs.declared.near.Beside.{Beside}
use Rattle.looking.specs.Seen.{chain_seen, seen_of, Counted}
use Rattle.looking.specs.Laws.Table.{liberties_at, stones_at, owner-read, chain-read, nothing_read, colour-told, liberties-told, stones-told}
use Rattle.looking.specs.Laws.Seen.{first_counted}
use Rattle.looking.proofs.Points.{Upto, none_yet, more, whole}
use Rattle.looking.proofs.look.seen_of.Goals.{Joined-owner-lt-SLOTS, then-owner-lt-SLOTS, else-owner-lt-SLOTS}
use Rattle.looking.proofs.look.seen_of.Goals as goal

-- what is seen is what the table says of the point
shown : (c : Joined-owner-lt-SLOTS)
    → c.if-owner-lt-SLOTS.seen ≡ chain_seen (chain_in c.args.board (owner c.args.board c.loop-point.point))
shown c =
    let b = c.args.board in
    let is = c.requires in
    let p = c.loop-point.point in
    let low : p < max_area = c.loop-point-test.true in
    elim c.if-owner-lt-SLOTS.branch [
      | then-owner-lt-SLOTS w ↦ w.seen-is ∙ w.stone_seen-seen.ensures ∙ ap chain_seen (chain-read b is p low _ c.from-owner.ensures w.if-owner-lt-SLOTS.true _)
      | else-owner-lt-SLOTS w ↦ w.seen-is ∙ w.nothing_seen-seen.ensures ∙ nothing_read b is p low _ c.from-owner.ensures w.if-owner-lt-SLOTS.false
    ]

pub loop-point-init : goal.loop-point-init
loop-point-init c = record { colours = none_yet _; liberties = none_yet _; stones = none_yet _ }

pub stone_seen-seen-requires : goal.stone_seen-seen-requires
stone_seen-seen-requires c =
    let b = c.args.board in
    let is = c.requires in
    let p = c.loop-point.point in
    let low : p < max_area = c.loop-point-test.true in
    let its = c.from-owner.ensures in
    let below : c.from-owner.result < slots = c.if-owner-lt-SLOTS.true in
    let done = c.loop-point.invariant.liberties in
    subst (λ (x : Chain). Counted x c.loop-point.liberties p) (sym (chain-read b is p low _ its below _))
    (first_counted b is p (λ z. let e = owner-read b is p low _ its ∙ z in omega arith) _ low done.read)

pub loop-point-preserved : goal.loop-point-preserved
loop-point-preserved c =
    let b = c.args.board in
    let is = c.requires in
    let p = c.loop-point.point in
    let h : p < max_area = c.loop-point-test.true in
    let here = shown (goal.at.loop-point-preserved c).Joined-owner-lt-SLOTS in
    record {
      colours = more (at (colours_of b)) _ p _ c.loop-point.invariant.colours h (ap (λ (x : Beside). x.colour) here ∙ colour-told b is p);
      liberties = more (liberties_at b) _ p _ c.loop-point.invariant.liberties h (ap (λ (x : Beside). x.liberties) here ∙ liberties-told b is p);
      stones = more (stones_at b) _ p _ c.loop-point.invariant.stones h (ap (λ (x : Beside). x.stones) here ∙ stones-told b is p);
    }

pub returns : goal.returns
unfolding seen_of on_largest
returns c =
    let b = c.args.board in
    let inv = c.loop-point.invariant in
    let all : (f : ℕ → ℕ) (xs : List ℕ) → Upto f xs c.loop-point.point → xs ≡ tabulate f 0 max_area =
    λ f xs done. whole f xs _ done (λ k beyond low. absurd (omega (arith, c.loop-point-test.false))) in
    λ i.
    record {
      colours = all (at (colours_of b)) _ inv.colours i;
      liberties = all (liberties_at b) _ inv.liberties i;
      stones = all (stones_at b) _ inv.stones i;
    }
