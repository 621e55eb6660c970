-- `looking::look::seen_at`: what the table says of a point is what the rules say, where nobody owns it too.
use Rattle.std.proofs.Common.{◌≡◌, arith, sym, ap, ◌∙◌, Option, Some, ℕ, get_or}
use Rattle.looking.specs.Seen.{chain_seen}
use Rattle.std.specs.Option.{option_map}
use Rattle.legality.specs.declared.near.Beside.{Beside}
use Rattle.legality.specs.Near.{seen}
use Rattle.board.specs.Board.{colours_of}
use Rattle.looking.specs.Laws.Table.{seen-beyond, seen-unowned, seen-owned}
use Rattle.looking.proofs.look.seen_at.Goals.{In_ok-q}
use Rattle.looking.proofs.look.seen_at.Goals as goal

-- what is seen at the point answers for the side
there : (c : In_ok-q) (s : Beside)
    → let b = c.args.board.now in
    s ≡ seen b.height b.width (colours_of b) c.in_ok-q.q → ◌≡◌ {A = Option Beside} (Some s) (option_map (seen b.height b.width (colours_of b)) c.args.side)
there c s e =
    let b = c.args.board.now in
    ap {B = Option Beside} Some e ∙ ap (option_map (seen b.height b.width (colours_of b))) (sym c.in_ok-q.was)

pub returns-then-q-ge-MAX_AREA : goal.returns-then-q-ge-MAX_AREA
returns-then-q-ge-MAX_AREA c =
    there (goal.at.returns-then-q-ge-MAX_AREA c).In_ok-q _ (c.nothing_seen.ensures ∙ seen-beyond _ c.requires _ c.if-q-ge-MAX_AREA.true)

pub returns-then-owner-ge-SLOTS : goal.returns-then-owner-ge-SLOTS
returns-then-owner-ge-SLOTS c =
    there (goal.at.returns-then-owner-ge-SLOTS c).In_ok-q _
    (c.nothing_seen-then-owner-ge-SLOTS.ensures ∙ seen-unowned _ c.requires _ (omega arith) (omega arith))

pub returns : goal.returns
returns c =
    let b = c.args.board.now in
    let owner = c.from-owner.ensures in
    there (goal.at.returns c).In_ok-q _
    (c.chain_seen.ensures ∙ ap (λ (o : ℕ). chain_seen (get_or b.chains o _)) owner ∙ seen-owned b c.requires c.in_ok-q.q (omega arith) (omega arith) _)
