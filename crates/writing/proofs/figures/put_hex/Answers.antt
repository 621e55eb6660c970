use Rattle.std.proofs.Common.{ap, ◌∙◌, List, ℕ, [], ◌∷◌, ◌++◌, arith}
use Rattle.writing.specs.Laws.Figures.{hex-more}
use Rattle.writing.proofs.figures.put_hex.Goals as goal

pub loop-byte-preserved : goal.loop-byte-preserved
loop-byte-preserved g c =
    let loop = c.loop-byte in
    let high = c.push.ensures in
    let low = c.push-in-loop-byte.ensures in (
      omega (arith, high.len, low.len),
      low.items
          ∙ ap (λ (t : List ℕ). t ++ (c.hex_digit-in-loop-byte.result ∷ [])) (high.items ∙ ap (λ (t : List ℕ). t ++ (c.hex_digit.result ∷ [])) loop.invariant.1)
          ∙ hex-more _ c.args.bytes.now loop.byte-index _ _ c.loop-byte-test.true c.hex_digit.ensures c.hex_digit-in-loop-byte.ensures,
    )
