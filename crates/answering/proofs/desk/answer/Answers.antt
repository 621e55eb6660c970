-- `answer`: the reply, at the front of the buffer.
use Rattle.std.specs.Prelude.{[], List, ℕ}
use Rattle.std.proofs.Common.{refl, subst, arith}
use Rattle.writing.specs.Put.{Put}
use Rattle.answering.proofs.desk.answer.Goals as goal

pub returns-then-out-lt-REPLY_BYTES : goal.returns-then-out-lt-REPLY_BYTES
returns-then-out-lt-REPLY_BYTES c = record { text = []; does = λ l. absurd (omega arith); written = λ l. absurd (omega arith); short = λ l. record { game = refl; lent = refl; kept = refl }; silent = λ l. (refl, refl) }

pub hand_out-count-requires : goal.hand_out-count-requires
hand_out-count-requires c = omega (arith, c.reply-told.ensures.whole, c.if-out-lt-REPLY_BYTES.false)

pub returns : goal.returns
returns c =
    let done = c.reply-told.ensures in
    record {
      text = done.text;
      does = λ l. done.does;
      written = λ l. subst (λ (t : List ℕ). Put t c.args.out.now 0 c.hand_out-count.result c.hand_out-count.new.out) done.written c.hand_out-count.ensures;
      short = λ l. absurd (omega (arith, c.if-out-lt-REPLY_BYTES.false));
      silent = λ l. absurd (omega (arith, c.if-out-lt-REPLY_BYTES.false));
    }
