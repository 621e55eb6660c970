-- `do_render`: the picture that was drawn, or 3.
use mathlib.Core.Path.{◌≡◌, refl, sym}
use Prim.Native.Nat.{◌≤◌}
use native.Mathlib.Omega.{arith}
use lib.ListN.{length, take}
use lib.Seq.{length-take-le}
use Rattle.writing.specs.Figures.{decimal, hex}
use Rattle.writing.specs.Laws.Figures.{length-hex}
use Rattle.telling.specs.Told.{Unlent}
use Rattle.telling.specs.Laws.Told.{told-stays}
use Rattle.acting.specs.Laws.Draws.{max_picture, drawn-few, drawn-refused, drawn-damaged, drawn-true, drawn-text}
use Rattle.acting.proofs.act.do_render.Goals.{After-pretty_string-drawn}
use Rattle.acting.proofs.act.do_render.Goals as goal

few : (g : _) (c : After-pretty_string-drawn g) → c.pretty_string-drawn.result.count ≤ max_picture
few g c = drawn-few _ _ _ _ refl c.pretty_string-drawn.ensures

taken : (g : _) (c : After-pretty_string-drawn g) → length (take c.pretty_string-drawn.result.count c.pretty_string-drawn.new.buffer) ≡ c.pretty_string-drawn.result.count
taken g c = length-take-le _ _ (omega (arith, few g c, c.pretty_string-drawn.auto.buffer))

pub returns-then-drawn-ne-ACCEPTED : goal.returns-then-drawn-ne-ACCEPTED
unfolding Unlent
returns-then-drawn-ne-ACCEPTED g c =
    λ bytes e.
    let d = c.pretty_string-drawn.ensures in
    let t = c.tell.ensures in
    record {
      text = decimal c.pretty_string-drawn.result.number;
      written = t.written;
      short = t.short;
      done =
          record {
            told = λ is. absurd (drawn-refused _ _ _ _ refl d c.if-drawn-ne-ACCEPTED.true is);
            damaged = drawn-damaged _ _ _ _ refl d;
            stays = told-stays t _ bytes e;
          };
    }

pub slice_bounds-picture-end : goal.slice_bounds-picture-end
slice_bounds-picture-end g c = omega (arith, few g (goal.at.slice_bounds-picture-end g c).After-pretty_string-drawn, c.pretty_string-drawn.auto.buffer)

pub slice_bounds-put_hex-end : goal.slice_bounds-put_hex-end
slice_bounds-put_hex-end g c = sym (taken g (goal.at.slice_bounds-put_hex-end g c).After-pretty_string-drawn)

pub put_hex-requires : goal.put_hex-requires
put_hex-requires g c = omega (arith, taken g (goal.at.put_hex-requires g c).After-pretty_string-drawn, few g (goal.at.put_hex-requires g c).After-pretty_string-drawn, c.requires)

pub returns : goal.returns
unfolding Unlent
returns g c =
    λ bytes e.
    let d = c.pretty_string-drawn.ensures in
    let p = c.put_hex.ensures in
    record {
      text = hex (take c.pretty_string-drawn.result.count c.pretty_string-drawn.new.buffer);
      written = p;
      short = omega (arith, length-hex (take c.pretty_string-drawn.result.count c.pretty_string-drawn.new.buffer), taken g (goal.at.returns g c).After-pretty_string-drawn, few g (goal.at.returns g c).After-pretty_string-drawn);
      done =
          record {
            told = drawn-text _ _ _ _ refl d;
            damaged = λ n. absurd (drawn-true _ _ _ _ refl d c.if-drawn-ne-ACCEPTED.false n);
            stays = record { game = refl; lent = e; kept = refl };
          };
    }
