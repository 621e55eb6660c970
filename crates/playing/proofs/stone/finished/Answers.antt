-- The record of the board decides with the count, and is noted where they let the stone pass.
use borrow.Author.Rules.{rules}
use mathlib.Core.Bool.{Bool}
use mathlib.Core.List.{List}
use mathlib.Core.Path.{◌≡◌, refl, sym, ap, ◌∙◌, subst}
use lib.ListN.{length}
use Rattle.std.specs.Prelude.{Result, Ok, Err}
use Rattle.rules.specs.Answers.{number}
use Rattle.rules.specs.Records.{record_of, capacity, full}
use Rattle.rules.proofs.Laws.Records.{length-record}
use Rattle.points.specs.declared.answers.Refusal.{Refusal}
use Rattle.points.specs.Reason.{answer_of}
use Rattle.playing.specs.declared.stone.Turn.{Turn}
use Rattle.playing.specs.Turn.{last_answer, Finished}
use Rattle.playing.specs.Laws.Count.{full_by}
use Rattle.playing.specs.Laws.Stone.{last-free}
use Rattle.playing.proofs.stone.finished.Goals.{After-last_answer}
use Rattle.playing.proofs.stone.finished.Goals as goal

pub no_room-full-requires : goal.no_room-full-requires
unfolding capacity
no_room-full-requires c =
    record { within = c.requires.room; long = ap length (c.record_by-bytes.ensures ∙ c.requires.its) ∙ length-record c.requires.colours }

-- the test for room is the rules', for all colours of which this is the record
answered : (c : After-last_answer) →
    let a = c.args in
    (cols : List _) → c.record_by-bytes.result ≡ record_of cols
    → answer_of c.last_answer.result ≡ last_answer a.again a.clock.accepted (full a.history.now a.clock.records cols)
answered c cols its =
    let a = c.args in
    c.last_answer.ensures
    ∙ ap (last_answer a.again a.clock.accepted)
    (c.no_room-full.ensures ∙ full_by a.history.now a.clock.records c.record_by-bytes.result cols its)

pub returns-in_err-last_answer : goal.returns-in_err-last_answer
returns-in_err-last_answer c cols e =
    let r = c.in_err-last_answer.field-0.0 in
    let a = c.args in
    let given : c.from_residual.result ≡ Err r = search rules in
    subst (λ (x : Result Turn Refusal). Finished a.sight a.clock cols a.history.now a.again x a.history.now) (sym given)
    (sym (ap answer_of c.in_err-last_answer.was) ∙ answered (goal.at.returns-in_err-last_answer c).After-last_answer cols (c.record_by-bytes.ensures ∙ e), refl)

pub note_board-records-requires : goal.note_board-records-requires
unfolding capacity number
note_board-records-requires c =
    let its = c.record_by-bytes.ensures ∙ c.requires.its in
    record {
      within = c.requires.room;
      colours = c.requires.colours;
      its = its;
      free = last-free c.args.again c.args.clock.accepted _
          (sym (ap number (sym (ap answer_of c.in_ok-last_answer.was) ∙ answered (goal.at.note_board-records-requires c).After-last_answer c.requires.colours its)));
    }

pub returns : goal.returns
returns c cols e =
    let its = c.record_by-bytes.ensures ∙ e in
    record {
      point = refl;
      mover = c.player_of.ensures;
      answered = sym (ap answer_of c.in_ok-last_answer.was) ∙ answered (goal.at.returns c).After-last_answer cols its;
      noted = c.note_board-records.ensures cols its;
    }
