-- `placing::handicap::lay_handicap`: the spots' answer, and where they are accepted, that of placing the stones that they make.
use Rattle.std.proofs.Common.{rules, ◌≡◌, ◌≤◌, refl, sym, subst, arith, ℕ, length, take, length-take-le}
use Rattle.rules.specs.Sizes.{max_area}
use Rattle.board.specs.Laws.Board.{area-fits}
use Rattle.placing.specs.Placing.{Placing, PlacedOn}
use Rattle.placing.specs.Laws.Spots.{handicap-refused, handicap-placing, handicap-placed}
use Rattle.placing.proofs.handicap.lay_handicap.Goals as goal

pub returns-in-Err : goal.returns-in-Err
returns-in-Err c = handicap-refused _ c.requires _ _ c.mark.ensures _ c.in-Err.is _ c.number.ensures refl

pub slice_bounds-colours-end : goal.slice_bounds-colours-end
slice_bounds-colours-end c =
    let long : length c.in-Ok.colours ≡ max_area = search rules in
    omega (arith, c.area-end.ensures, area-fits c.requires.is_true.table.size)

pub slice_bounds-place-end : goal.slice_bounds-place-end
slice_bounds-place-end c =
    let long : length c.in-Ok.colours ≡ max_area = search rules in
    let fits : c.area-end.result ≤ length c.in-Ok.colours = omega (arith, c.area-end.ensures, area-fits c.requires.is_true.table.size) in
    sym (length-take-le _ _ fits)

pub place-requires : goal.place-requires
place-requires c =
    subst (λ (n : ℕ). Placing c.args.board (take n c.in-Ok.colours)) (sym c.area-end.ensures)
    (handicap-placing _ c.requires _ _ c.mark.ensures _ c.in-Ok.is)

pub returns-in-Ok : goal.returns-in-Ok
returns-in-Ok c =
    handicap-placed _ c.requires _ _ c.mark.ensures _ c.in-Ok.is _
    (subst (λ (n : ℕ). PlacedOn c.args.board (take n c.in-Ok.colours) c.place.result) c.area-end.ensures c.place.ensures)
