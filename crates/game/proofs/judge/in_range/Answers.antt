-- Each way out has found one number out of range, or all of them within.
use mathlib.Core.Path.{sym, ◌∙◌}
use Rattle.std.proofs.lemmas.Option.{none-some, same_Some}
use native.Mathlib.Omega.{arith}
use borrow.Author.Tests.{ltb-true, lt-ltb}
use Rattle.game.specs.Laws.Judge.{decides-yes, decides-no}
use Rattle.game.proofs.judge.in_range.Goals as goal

pub returns-then-clock-gt-MAX_FLAGS : goal.returns-then-clock-gt-MAX_FLAGS
returns-then-clock-gt-MAX_FLAGS c = decides-no (λ is. omega (arith, is.flagged))

pub returns-then-clock-gt2 : goal.returns-then-clock-gt2
returns-then-clock-gt2 c = decides-no (λ is. omega (arith, is.pauses))

pub returns-then-index-gt-MAX_AREA : goal.returns-then-index-gt-MAX_AREA
returns-then-index-gt-MAX_AREA c = decides-no (λ is. omega (arith, is.handicapped))

pub returns-in-None : goal.returns-in-None
returns-in-None c =
    decides-yes
    (record {
      flagged = omega arith;
      pauses = omega arith;
      handicapped = omega arith;
      ko_on = λ k e. absurd (none-some k (sym c.in-None.is ∙ c.ko_point.ensures ∙ e));
    })

pub returns-in-Some : goal.returns-in-Some
returns-in-Some c =
    let stands = sym c.ko_point.ensures ∙ c.in-Some.is in
    record {
      sound =
          λ t.
          let low = ltb-true _ _ t in
          record {
            flagged = omega arith;
            pauses = omega arith;
            handicapped = omega arith;
            ko_on = λ k e. let point = same_Some _ k (sym stands ∙ e) in omega (arith, low, point, c.area.ensures);
          };
      complete = λ is. lt-ltb _ _ (let low = is.ko_on _ stands in omega (arith, low, c.area.ensures));
    }
