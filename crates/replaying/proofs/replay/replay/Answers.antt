-- An entry that is accepted leads from one turn to the next; one that is refused, and the end of the moves, are the ways out.
use Rattle.std.specs.Prelude.{◌≡◌, List, ℕ, ◌+◌, ◌<◌, length, get_or, Result, Ok, Err}
use Rattle.std.proofs.Common.{sym, ap, ◌∙◌, subst, add-one, arith, refl}
use Rattle.rules.specs.Answers.{number}
use Rattle.rules.proofs.Laws.Lists.{not-both}
use Rattle.points.specs.declared.answers.Refusal.{Refusal}
use Rattle.points.specs.Reason.{reason}
use Rattle.looking.specs.Seen.{Partly}
use Rattle.looking.specs.Laws.Sight.{unread}
use Rattle.laying.specs.declared.lay.Laid.{Laid}
use Rattle.game.specs.declared.state.Game.{Game}
use Rattle.game.specs.declared.clock.Clock.{Clock}
use Rattle.game.specs.Clock.{clock_of, game_of}
use Rattle.game.specs.Ticked.{number_of, after}
use Rattle.game.specs.View.{TrueState, RoomIn}
use Rattle.game.specs.Laws.View.{game-whole}
use Rattle.points.proofs.Reasons.{nonzero}
use Rattle.playing.specs.Turn.{Granted}
use Rattle.replaying.specs.declared.replay.Move.{Move}
use Rattle.replaying.specs.Replay.{EntersAlone}
use Rattle.replaying.specs.Laws.Entry.{board-true, stone-laying, laid-moving}
use Rattle.replaying.specs.Laws.Kept.{point-fits, kept}
use Rattle.replaying.specs.Laws.Replay.{SoFar, so-far-none, so_far_more, replays-all, replays-some, replays-damaged}
use Rattle.replaying.proofs.Turn.{Told, answered_as, stone-laid, stone-not, other-told}
use Rattle.replaying.proofs.replay.replay.Invariants.{Going}
use Rattle.replaying.proofs.replay.replay.Goals.{then-entry-eq-STONE+in-Ok, else-entry-eq-STONE+in-Ok-enter, then-judge_with+else-loop-entry-test, then-judge_with+then-loop-entry-test+then-entry-eq-STONE+in-Err, then-judge_with+then-loop-entry-test+else-entry-eq-STONE+in-Err-enter, else-judge_with}
use Rattle.replaying.proofs.replay.replay.Goals as goal

-- what stands past the end of the moves
abbrev none : Move
none = record { kind = 0; row = 0; column = 0 }

-- one entry more
next :
    {g₀ : Game} {bytes₀ : List ℕ} {moves : List Move} {laid laid' : Laid} {clock clock' : Clock} {answer accepted index read read' : ℕ} {colours colours' bytes bytes' : List ℕ}
    → TrueState g₀ × RoomIn g₀ (length bytes₀) → Going g₀ bytes₀ moves laid clock answer accepted index read colours bytes → index < length moves
    → Told (game_of laid.board clock) bytes (get_or moves index none) 0 (game_of laid'.board clock') bytes'
    → Partly laid'.board read' colours' → Going g₀ bytes₀ moves laid' clock' answer (accepted + 1) (index + 1) read' colours' bytes'
next {g₀} {bytes₀} {moves} {laid' = laid'} {clock' = clock'} {index = index} {bytes' = bytes'} is going more told drawn =
    record {
      counted = ap (λ (n : ℕ). n + 1) going.counted;
      so_far = subst (λ (n : ℕ). SoFar g₀ bytes₀ moves n (game_of laid'.board clock') bytes') (sym (add-one index)) (so_far_more g₀ bytes₀ moves is going.so_far more none told refl);
      drawn = drawn;
      unrefused = going.unrefused;
    }

-- an entry that puts no stone, by what it was answered
entered : (k : Clock) (kind : ℕ) {got : Result Clock Refusal} (r : Result Clock Refusal) → got ≡ r → EntersAlone k kind (number_of got) (after k got)
    → EntersAlone k kind (number_of r) (after k r)
entered k kind r e = subst (λ (x : Result Clock Refusal). EntersAlone k kind (number_of x) (after k x)) e

pub loop-entry-init : goal.loop-entry-init
loop-entry-init c =
    let is = c.judge_with.ensures.sound c.if-judge_with.true in
    record {
      counted = refl;
      so_far = rw (c.unlaid-laid.ensures, c.clock_of-clock.ensures, game-whole c.args.game c.args.game.board (clock_of c.args.game) refl refl) (so-far-none _ _ _ is);
      drawn = unread _;
      unrefused = refl;
    }

pub look_at-sight-requires-clause-true_board : goal.look_at-sight-requires-clause-true_board
look_at-sight-requires-clause-true_board c = board-true _ c.loop-entry.clock c.loop-entry.invariant.so_far.kept

pub lay-laid-requires : goal.lay-laid-requires
lay-laid-requires c = stone-laying _ _ _ c.if-entry-eq-STONE.true _ _ _ _ _ c.in-Ok.ensures

pub keep-read-requires : goal.keep-read-requires
keep-read-requires c = record { point_lt_max_area = point-fits _ _ _ _ (stone-laying _ _ _ c.if-entry-eq-STONE.true _ _ _ _ _ c.in-Ok.ensures) }

pub moved-clock-requires : goal.moved-clock-requires
moved-clock-requires c =
    laid-moving _ _ _ c.if-entry-eq-STONE.true _ _ _ _ _ c.in-Ok.ensures c.loop-entry.invariant.so_far.kept _ c.lay-laid.ensures

pub loop-entry-preserved : goal.loop-entry-preserved
unfolding number
loop-entry-preserved c =
    let is = c.judge_with.ensures.sound c.if-judge_with.true in
    let loop = c.loop-entry in
    let far = loop.invariant.so_far in
    let e = get_or c.args.moves.now loop.entry-index none in
    elim c.if-entry-eq-STONE.branch [
      | then-entry-eq-STONE+in-Ok w ↦ (
          let granted : Granted (game_of loop.laid.board loop.clock) loop.history e.row e.column w.in-Ok.turn w.all_tested-granted.new.history =
          answered_as _ _ _ _ _ _ w.in-Ok.is w.all_tested-granted.ensures in
          let told = stone-laid _ _ _ e w.if-entry-eq-STONE.true _ granted far.kept far.room _ w.lay-laid.ensures _ w.moved-clock.ensures in
          let laying = stone-laying _ _ _ w.if-entry-eq-STONE.true _ _ _ _ _ granted in
          let drawn = kept _ _ _ _ laying _ w.lay-laid.ensures _ _ _ _ w.look_at-sight.ensures in
          rw (w.laid-is, w.clock-is, w.history-is, w.read-is, w.colours-is)
          (next is loop.invariant c.loop-entry-test.true told (rw (w.keep-read.ensures.known, w.keep-read.ensures.coloured) drawn)))
      | else-entry-eq-STONE+in-Ok-enter w ↦
          rw (w.laid-is, w.clock-is, w.history-is, w.read-is, w.colours-is)
          (next is loop.invariant c.loop-entry-test.true (other-told _ _ _ e far.kept far.room (entered _ _ _ w.in-Ok-enter.is w.enter.ensures)) loop.invariant.drawn)
    ]

pub returns : goal.returns
unfolding number
returns c =
    let sound = c.judge_with.ensures.sound in
    elim c.if-judge_with.branch [
      | then-judge_with+else-loop-entry-test w ↦ (
          let going = w.loop-entry.invariant in
          let all : w.loop-entry.entry-index ≡ length c.args.moves.now = omega arith in
          rw (c.game_of.ensures, w.laid-is, w.clock-is, w.history-is, w.accepted-is, w.answer-is, going.counted, going.unrefused)
          (replays-all _ _ _ (sound w.if-judge_with.true) going.so_far all))
      | then-judge_with+then-loop-entry-test+then-entry-eq-STONE+in-Err w ↦ (
          let loop = w.loop-entry in
          let far = loop.invariant.so_far in
          let e = get_or c.args.moves.now loop.entry-index none in
          let r = w.in-Err.refusal in
          let told = stone-not _ _ _ e w.if-entry-eq-STONE.true (answered_as (game_of loop.laid.board loop.clock) loop.history e.row e.column w.all_tested-granted.new.history (Err r) w.in-Err.is w.all_tested-granted.ensures) in
          rw (c.game_of.ensures, w.laid-is, w.clock-is, w.history-is, w.accepted-is, w.answer-is, w.number-answer.ensures, loop.invariant.counted)
          (replays-some _ _ _ (sound w.if-judge_with.true) far w.loop-entry-test.true none told (nonzero r)))
      | then-judge_with+then-loop-entry-test+else-entry-eq-STONE+in-Err-enter w ↦ (
          let loop = w.loop-entry in
          let far = loop.invariant.so_far in
          let e = get_or c.args.moves.now loop.entry-index none in
          let r = w.in-Err-enter.refusal in
          let told = other-told loop.laid.board loop.clock loop.history e far.kept far.room (entered _ _ (Err r) w.in-Err-enter.is w.enter.ensures) in
          rw (c.game_of.ensures, w.laid-is, w.clock-is, w.history-is, w.accepted-is, w.answer-is, w.number-answer-in-Err-enter.ensures, loop.invariant.counted)
          (replays-some _ _ _ (sound w.if-judge_with.true) far w.loop-entry-test.true none told (nonzero r)))
      | else-judge_with w ↦ (
          let not : ¬ (TrueState c.args.game × RoomIn c.args.game (length c.args.history.now)) = λ is. not-both (c.judge_with.ensures.complete is) w.if-judge_with.false in
          rw (c.game_of.ensures, w.laid-is, w.clock-is, w.history-is, w.accepted-is, w.answer-is, c.unlaid-laid.ensures, c.clock_of-clock.ensures, game-whole c.args.game c.args.game.board (clock_of c.args.game) refl refl)
          (replays-damaged _ _ _ not))
    ]
