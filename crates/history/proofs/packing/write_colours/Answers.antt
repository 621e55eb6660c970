use mathlib.Core.Path.{◌≡◌, refl, sym, ap, ◌∙◌}
use mathlib.Core.List.{List}
use Prim.Native.Nat.{ℕ, ◌+◌, ◌*◌}
use native.Mathlib.Omega.{arith}
use lib.ListN.{set}
use lib.Seq.{paste, paste-zero}
use Rattle.rules.specs.Sizes.{hash_bytes, colour_bytes}
use Rattle.rules.specs.Colours.{at}
use Rattle.rules.proofs.Laws.Lists.{length-tabulate, get_or-tabulate-zero}
use Rattle.rules.specs.Records.{four_colours}
use Rattle.history.specs.Packing.{colour_part}
use Rattle.history.proofs.Laws.Lists.{paste_more, paste-whole}
use Rattle.history.proofs.packing.write_colours.Goals as goal

-- four colours, each as it was read, in their byte
four : (cols : List ℕ) (i : ℕ) {a b c d : ℕ} → a ≡ at cols (4 * i) → b ≡ at cols (4 * i + 1) → c ≡ at cols (4 * i + 2) → d ≡ at cols (4 * i + 3)
    → a + 4 * b + 16 * c + 64 * d ≡ four_colours cols i
unfolding four_colours
four cols i p q r s = rw (p, q, r, s)

pub loop-i-init : goal.loop-i-init
loop-i-init c = paste-zero c.args.bytes.now hash_bytes (colour_part c.args.colours.now)

pub packed-requires : goal.packed-requires
packed-requires c =
    let small = c.requires.small in (
      rw c.colour_at-first.ensures (small _),
      rw c.colour_at-second.ensures (small _),
      rw c.colour_at-third.ensures (small _),
      rw c.colour_at-fourth.ensures (small _),
    )

pub loop-i-preserved : goal.loop-i-preserved
unfolding colour_part
loop-i-preserved c =
    let cols = c.args.colours.now in
    let i = c.loop-i.i in
    ap (λ (l : List ℕ). set l (hash_bytes + i) c.packed.result) c.loop-i.invariant
    ∙ paste_more c.args.bytes.now hash_bytes (colour_part cols) i (hash_bytes + i) c.packed.result refl (omega arith)
    (rw (length-tabulate (four_colours cols) 0 colour_bytes) c.loop-i-test.true)
    (c.packed.ensures ∙ four cols i c.colour_at-first.ensures c.colour_at-second.ensures c.colour_at-third.ensures c.colour_at-fourth.ensures ∙ sym (get_or-tabulate-zero (four_colours cols) colour_bytes i 0 c.loop-i-test.true))

pub returns : goal.returns
unfolding colour_part
returns c =
    let cols = c.args.colours.now in
    let done : c.loop-i.i ≡ colour_bytes = omega arith in
    c.loop-i.invariant
    ∙ ap (paste c.args.bytes.now hash_bytes (colour_part cols)) done
    ∙ paste-whole c.args.bytes.now hash_bytes (colour_part cols) colour_bytes (length-tabulate (four_colours cols) 0 colour_bytes)
