-- Each kind's call keeps its promise, and the rules' entry of that kind is that call.
use borrow.Author.Rules.{rules}
use Rattle.std.specs.Prelude.{◌≢◌}
use Rattle.game.specs.View.{turn_of}
use Rattle.replaying.specs.Laws.Entry.{enters-pass, enters-black, enters-white, enters-resume, enters-unknown}
use Rattle.replaying.proofs.entry.enter.Goals as goal

pub returns-in-1 : goal.returns-in-1
returns-in-1 c = enters-pass _ _ c.in-1.is c.passed.ensures

pub returns-in-2 : goal.returns-in-2
unfolding turn_of
returns-in-2 c = enters-black _ _ c.in-2.is c.resigned.ensures

pub returns-in-3 : goal.returns-in-3
unfolding turn_of
returns-in-3 c = enters-white _ _ c.in-3.is c.resigned-in-3.ensures

pub returns-in-4 : goal.returns-in-4
returns-in-4 c = enters-resume _ _ c.in-4.is c.resumed.ensures

pub returns-in_default : goal.returns-in_default
returns-in_default c =
    let kind = c.args.kind in
    let n1 : kind ≢ 1 = search rules in
    let n2 : kind ≢ 2 = search rules in
    let n3 : kind ≢ 3 = search rules in
    let n4 : kind ≢ 4 = search rules in
    enters-unknown _ _ c.requires n1 n2 n3 n4
