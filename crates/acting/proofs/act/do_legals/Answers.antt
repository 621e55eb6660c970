-- `do_legals`: the points that were filled in, or the number of the refusal.
use mathlib.Core.Path.{◌≡◌, refl, sym}
use Prim.Native.Nat.{◌≤◌}
use native.Mathlib.Omega.{arith}
use mathlib.Core.List.{◌++◌}
use lib.ListN.{length, take}
use lib.Seq.{length-take-le}
use Rattle.rules.specs.Sizes.{max_area}
use Rattle.writing.specs.Figures.{decimal, spaced}
use Rattle.wording.specs.Replies.{each}
use Rattle.telling.specs.Reply.{TrueDesk}
use Rattle.telling.specs.Laws.Told.{told-stays}
use Rattle.acting.specs.Laws.Says.{text-short, all-behind}
use Rattle.acting.specs.Laws.Lists.{listed-few, refused-text, damaged-text, accepted-true, accepted-text}
use Rattle.acting.proofs.act.do_legals.Goals.{After-legals_by-listed}
use Rattle.acting.proofs.act.do_legals.Goals as goal

few : (g : _) (c : After-legals_by-listed g) → c.legals_by-listed.result.count ≤ max_area
few g c = listed-few _ _ _ _ _ _ refl c.legals_by-listed.ensures

taken : (g : _) (c : After-legals_by-listed g) → length (take c.legals_by-listed.result.count c.legals_by-listed.new.buffer) ≡ c.legals_by-listed.result.count
taken g c = length-take-le _ _ (omega (arith, few g c, c.legals_by-listed.auto.buffer))

pub returns-then-listed-ne-ACCEPTED : goal.returns-then-listed-ne-ACCEPTED
unfolding TrueDesk
returns-then-listed-ne-ACCEPTED g c =
    let l = c.legals_by-listed.ensures in
    let t = c.tell.ensures in
    record {
      text = decimal c.legals_by-listed.result.number;
      written = t.written;
      short = t.short;
      done =
          record {
            told = refused-text _ _ _ _ _ _ refl l c.if-listed-ne-ACCEPTED.true;
            damaged = damaged-text _ _ _ _ _ _ refl l;
            stays = told-stays t _ _ refl;
          };
    }

pub slice_bounds-points-end : goal.slice_bounds-points-end
slice_bounds-points-end g c = omega (arith, few g (goal.at.slice_bounds-points-end g c).After-legals_by-listed, c.legals_by-listed.auto.buffer)

pub slice_bounds-put_points-end : goal.slice_bounds-put_points-end
slice_bounds-put_points-end g c = sym (taken g (goal.at.slice_bounds-put_points-end g c).After-legals_by-listed)

pub put_points-requires : goal.put_points-requires
put_points-requires g c =
    omega (arith, taken g (goal.at.put_points-requires g c).After-legals_by-listed, few g (goal.at.put_points-requires g c).After-legals_by-listed, c.put_number.ensures.upper_bound, c.put_spaced.ensures.upper_bound, c.requires)

pub returns : goal.returns
unfolding TrueDesk
returns g c =
    let l = c.legals_by-listed.ensures in
    let zero-told = c.if-listed-ne-ACCEPTED.false in
    let said = all-behind _ _ _ c.from.ensures c.put_number.ensures.put c.put_spaced.ensures.put c.put_points.ensures.put in
    let text = decimal 0 ++ spaced (decimal c.legals_by-listed.result.count) ++ each (take c.legals_by-listed.result.count c.legals_by-listed.new.buffer) in
    record {
      text = text;
      written = said;
      short =
          omega (
            arith,
            text-short c.args.out.now.items text 8000 said
                (omega (arith, taken g (goal.at.returns g c).After-legals_by-listed, few g (goal.at.returns g c).After-legals_by-listed, c.put_number.ensures.upper_bound, c.put_spaced.ensures.upper_bound, c.put_points.ensures.upper_bound)),
          );
      done =
          record {
            told = accepted-text _ _ _ _ _ _ refl l zero-told;
            damaged = λ n. absurd (accepted-true _ _ _ _ _ _ refl l zero-told n);
            stays = record { game = refl; lent = refl; kept = refl };
          };
    }
