-- `looking::look::shown_at`: beyond the arrays nothing is shown.
use Rattle.std.proofs.Common.{arith, sym, ap, ◌∙◌, Option, Some}
use Rattle.std.specs.Option.{option_map}
use Rattle.legality.specs.declared.near.Beside.{Beside}
use Rattle.looking.specs.Seen.{shown}
use Rattle.looking.specs.Laws.Seen.{shown-beyond}
use Rattle.looking.proofs.look.shown_at.Goals as goal

pub returns-then-q-ge-MAX_AREA : goal.returns-then-q-ge-MAX_AREA
returns-then-q-ge-MAX_AREA c =
    let a = c.args in
    ap {B = Option Beside} Some (c.nothing_seen.ensures ∙ shown-beyond a.seen.now.colours a.seen.now.liberties a.seen.now.stones c.in_ok-q.q (omega arith) (omega arith) (omega arith))
    ∙ ap (option_map (shown a.seen.now.colours a.seen.now.liberties a.seen.now.stones)) (sym c.in_ok-q.was)

pub returns : goal.returns
unfolding shown
returns c =
    let a = c.args in
    ap (option_map (shown a.seen.now.colours a.seen.now.liberties a.seen.now.stones)) (sym c.in_ok-q.was)
