-- `told_at`: a stone stands there, or the tests tell.
use mathlib.Core.Path.{sym, ◌∙◌}
use borrow.Author.Tests.{ne_eqb}
use Rattle.legals.specs.Legals.{told_at}
use Rattle.legals.specs.Laws.Legals.{told-empty}
use Rattle.legals.proofs.list.told_at.Goals as goal

pub returns-then-colour_at-ne-EMPTY : goal.returns-then-colour_at-ne-EMPTY
unfolding told_at
returns-then-colour_at-ne-EMPTY c = rw (← c.colour_at.ensures, ne_eqb _ _ c.if-colour_at-ne-EMPTY.true)

pub returns : goal.returns
returns c =
    let a = c.args in
    let s = a.seen.now in
    c.told.ensures
    ∙ told-empty a.height a.width s.colours s.liberties s.stones a.point a.colour a.ko a.records a.flags (sym c.colour_at.ensures ∙ c.if-colour_at-ne-EMPTY.false)
    _ c.near.ensures _ c.is_ko_point.ensures
