-- `chain_good` meets its contract: each way out has found one test to fail, or the last to decide, and what the flood left is what it
-- finds from the chain's origin.
use mathlib.Core.Path.{◌≡◌, refl, sym, ap, ◌∙◌}
use mathlib.Core.Bool.{true, ◌&&◌}
use Prim.Native.Nat.{◌<◌}
use native.Mathlib.Omega.{arith}
use lib.Dec.{eqb}
use borrow.Author.Tests.{eq-eqb, ne_eqb}
use Rattle.rules.proofs.Laws.Lists.{not-both}
use Rattle.rules.proofs.Laws.Colours.{player-stone}
use Rattle.owning.specs.Owners.{owner_in, ring}
use Rattle.board.specs.Judge.{player, counted, liberties_good, chain_good}
use Rattle.owning.specs.Laws.Lists.{and-fails, then-fails}
use Rattle.board.specs.Laws.Tests.{player-says}
use Rattle.board.specs.Laws.Slot.{lent-ready, origin_on, chain-passed, chain-counted, chain-seen, chain-liberties}
use Rattle.board.proofs.slot.chain_good.Goals.{After-owner_at, Else-owner_at-slot, Else-stones-index}
use Rattle.board.proofs.slot.chain_good.Goals as goal

player-good : (c : After-owner_at) → player c.args.chain.colour ≡ true
player-good c = sym c.is_player.ensures ∙ c.if-not-is_player.false

coloured : (c : After-owner_at) → 0 < c.args.chain.colour
coloured c =
    let a = c.args in
    let stone = player-stone a.chain.colour ((player-says a.chain.colour).0 (player-good c)) in
    omega arith

-- the owner that was read, at the origin that was read
origin-owned : (c : Else-owner_at-slot) → let a = c.args in owner_in a.notes.now c.index-origin.result ≡ a.slot
origin-owned c = sym c.owner_at.ensures ∙ c.if-owner_at-slot.false

origin-good : (c : Else-owner_at-slot) → let a = c.args in eqb (owner_in a.notes.now a.chain.origin) a.slot ≡ true
origin-good c =
    let a = c.args in
    eq-eqb _ _ (ap (owner_in a.notes.now) (sym c.index-origin.ensures) ∙ origin-owned c)

pub returns-then-not-is_player : goal.returns-then-not-is_player
unfolding chain_good
returns-then-not-is_player c = record { judged = sym (and-fails _ (sym c.is_player.ensures ∙ c.if-not-is_player.true)); passed = λ t. absurd (not-both t refl) }

pub returns-then-owner_at-slot : goal.returns-then-owner_at-slot
unfolding chain_good
returns-then-owner_at-slot c =
    let a = c.args in record {
      judged = sym
          (then-fails (player a.chain.colour)
          (and-fails _ (ne_eqb _ _ (λ e. c.if-owner_at-slot.true (c.owner_at.ensures ∙ ap (owner_in a.notes.now) c.index-origin.ensures ∙ e)))));
      passed = λ t. absurd (not-both t refl);
    }

pub returns-then-not-ring_good : goal.returns-then-not-ring_good
unfolding chain_good
returns-then-not-ring_good c =
    let a = c.args in record {
      judged = sym
          (then-fails (player a.chain.colour)
          (then-fails (eqb (owner_in a.notes.now a.chain.origin) a.slot)
          (then-fails (counted a.height a.width (owner_in a.notes.now) a.next.now a.slot a.chain)
          (and-fails (liberties_good a.height a.width (owner_in a.notes.now) a.next.now a.slot a.chain)
          (sym c.ring_good.ensures ∙ c.if-not-ring_good.true)))));
      passed = λ t. absurd (not-both t refl);
    }

pub flood-stones-requires : goal.flood-stones-requires
flood-stones-requires c =
    let o = c.index-origin.result in
    (c.requires.starting, lent-ready c.requires c.args.chain.colour (coloured (goal.at.flood-stones-requires c).After-owner_at), refl, origin_on c.requires o (origin-owned (goal.at.flood-stones-requires c).Else-owner_at-slot), origin-owned (goal.at.flood-stones-requires c).Else-owner_at-slot)

pub returns-then-stones-index : goal.returns-then-stones-index
unfolding chain_good
returns-then-stones-index c =
    let a = c.args in record {
      judged = sym
          (then-fails (player a.chain.colour)
          (then-fails (eqb (owner_in a.notes.now a.chain.origin) a.slot)
          (and-fails (ring (owner_in a.notes.now) a.next.now a.slot a.chain && liberties_good a.height a.width (owner_in a.notes.now) a.next.now a.slot a.chain)
          (chain-counted c.requires a.chain c.index-origin.ensures c.flood-stones.ensures
          ∙ ne_eqb _ _ (λ e. c.if-stones-index.true (e ∙ sym c.index.ensures))))));
      passed = λ t. absurd (not-both t refl);
    }

counted-good : (c : Else-stones-index)
    → let a = c.args in
    counted a.height a.width (owner_in a.notes.now) a.next.now a.slot a.chain ≡ true
counted-good c =
    chain-counted c.requires c.args.chain c.index-origin.ensures c.flood-stones.ensures ∙ eq-eqb _ _ (c.if-stones-index.false ∙ c.index.ensures)

pub liberties_good-requires : goal.liberties_good-requires
liberties_good-requires c =
    chain-seen c.requires c.args.chain c.index-origin.ensures c.flood-stones.ensures

pub returns : goal.returns
unfolding chain_good
returns c =
    let a = c.args in record {
      judged = c.liberties_good.ensures
          ∙ sym (chain-liberties c.requires a.chain c.index-origin.ensures c.flood-stones.ensures)
          ∙ sym (rw (player-good (goal.at.returns c).After-owner_at, origin-good (goal.at.returns c).Else-owner_at-slot, counted-good (goal.at.returns c).Else-stones-index, sym c.ring_good.ensures ∙ c.if-not-ring_good.false));
      passed = λ t. chain-passed c.requires a.chain c.index-origin.ensures c.flood-stones.ensures;
    }
