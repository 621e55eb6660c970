-- `looking::look::look_at`: the colours of the first points are read.
use Rattle.looking.specs.Seen.{Partly}
use Rattle.looking.proofs.look.look_at.Given as goal

abbrev pub invariant-loop-p : goal.invariant-loop-p
invariant-loop-p l = Partly l.board l.p l.colours
