-- `holds`: each test is the one that the definition names.
use mathlib.Core.Bool.{Bool, not, ◌&&◌}
use mathlib.Core.Path.{sym, ap, ◌∙◌}
use Rattle.rules.specs.Lists.{any}
use Rattle.legality.specs.Near.{besides, catches_more}
use Rattle.asking.specs.declared.tests.Test.{Test}
use Rattle.asking.specs.Tests.{tested_near}
use Rattle.asking.proofs.tests.holds.Goals.{Start}
use Rattle.asking.proofs.tests.holds.Goals as goal

-- what is asked of the point
abbrev asked : (c : Start) → Test → Bool
asked c =
    let a = c.args in tested_near a.near a.colours.now a.height a.width a.colour a.ko a.point

pub returns-in-Capture : goal.returns-in-Capture
returns-in-Capture c =
    c.will_capture.ensures ∙ ap (let a = c.args in tested_near a.near a.colours.now a.height a.width a.colour a.ko a.point) (sym c.in-Capture.is)

pub returns-in-Suicide : goal.returns-in-Suicide
returns-in-Suicide c =
    c.is_suicide.ensures ∙ ap (let a = c.args in tested_near a.near a.colours.now a.height a.width a.colour a.ko a.point) (sym c.in-Suicide.is)

pub returns-in-Ko : goal.returns-in-Ko
returns-in-Ko c =
    c.is_ko.ensures
    ∙ ap (λ (k : Bool). k && not (any catches_more (besides c.args.near))) c.is_ko_point.ensures
    ∙ ap (let a = c.args in tested_near a.near a.colours.now a.height a.width a.colour a.ko a.point) (sym c.in-Ko.is)

pub returns-in-Eye : goal.returns-in-Eye
returns-in-Eye c =
    c.is_eye.ensures ∙ ap (let a = c.args in tested_near a.near a.colours.now a.height a.width a.colour a.ko a.point) (sym c.in-Eye.is)
