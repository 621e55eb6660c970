-- `put_hex`: the digits of the first bytes stand behind what was there.
use Rattle.std.proofs.Common.{◌≡◌, ◌+◌, ◌*◌, ◌++◌, length, take}
use Rattle.writing.specs.Figures.{hex}
use Rattle.writing.proofs.figures.put_hex.Given as goal

abbrev pub invariant-loop-byte : goal.invariant-loop-byte
invariant-loop-byte g l =
    (length l.out.items ≡ length l.initial.out.items + 2 * l.byte-index) × (l.out.items ≡ l.initial.out.items ++ hex (take l.byte-index l.bytes))
