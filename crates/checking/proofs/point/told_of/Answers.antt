-- `told_of`: off the board, not empty, or what the tests tell.
use mathlib.Core.Bool.{Bool, not, ◌&&◌}
use mathlib.Core.List.{List}
use mathlib.Core.Path.{◌≡◌, sym, ap, ◌∙◌}
use Prim.Native.Nat.{ℕ}
use Rattle.rules.specs.Lists.{any}
use Rattle.rules.specs.Colours.{other}
use Rattle.rules.specs.Tests.{eye}
use Rattle.rules.specs.Answers.{number}
use Rattle.legality.specs.declared.near.Near.{Near}
use Rattle.legality.specs.Near.{besides, saves, catches_more, caught}
use Rattle.checking.specs.declared.spot.Spot.{Spot}
use Rattle.checking.specs.Told.{Told, at_ko, told_of, told_near, told_spot}
use Rattle.checking.proofs.point.told_of.Goals.{Start}
use Rattle.checking.proofs.point.told_of.Goals as goal

-- what is told of an empty point
abbrev there : (c : Start) → ℕ → Told
there c =
    let a = c.args in told_near a.flags a.near a.colours.now a.height a.width a.colour a.ko a.records

-- the ko point was asked for apart
at-ko : (flags : ℕ) (n : Near) (cols : List ℕ) (h w own ko records p : ℕ) (k : Bool) → k ≡ at_ko ko p
    → told_of flags (not (any (saves own) (besides n))) (k && not (any catches_more (besides n))) (eye h w cols own p) (any (caught (other own)) (besides n)) records
    ≡ told_near flags n cols h w own ko records p
unfolding told_near
at-ko flags n cols h w own ko records p k e =
    ap
    (λ (b : Bool). told_of flags (not (any (saves own) (besides n))) (b && not (any catches_more (besides n))) (eye h w cols own p) (any (caught (other own)) (besides n)) records)
    e

pub returns-in-Off : goal.returns-in-Off
unfolding number
returns-in-Off c = ap (λ (s : Spot). told_spot s (let a = c.args in told_near a.flags a.near a.colours.now a.height a.width a.colour a.ko a.records)) (sym c.in-Off.is)

pub returns-in-Stone : goal.returns-in-Stone
unfolding number
returns-in-Stone c = ap (λ (s : Spot). told_spot s (let a = c.args in told_near a.flags a.near a.colours.now a.height a.width a.colour a.ko a.records)) (sym c.in-Stone.is)

pub returns-in-Empty : goal.returns-in-Empty
returns-in-Empty c =
    let a = c.args in
    c.told.ensures
    ∙ at-ko a.flags a.near a.colours.now a.height a.width a.colour a.ko a.records _ _ c.is_ko_point.ensures
    ∙ ap (λ (s : Spot). told_spot s (let a = c.args in told_near a.flags a.near a.colours.now a.height a.width a.colour a.ko a.records)) (sym c.in-Empty.is)
