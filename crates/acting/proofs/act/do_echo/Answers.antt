-- `do_echo`: the text of the line.
use Rattle.std.proofs.Common.{◌∙◌, ap, arith, List, ℕ, ◌++◌, length}
use Rattle.acting.specs.Laws.Says.{said-says}
use Rattle.acting.proofs.act.do_echo.Goals as goal

pub put_text-requires : goal.put_text-requires
put_text-requires g c = omega (arith, ap length c.text_of.ensures, c.requires.0, c.requires.1)

pub returns : goal.returns
returns g c = said-says _ _ _ _ (c.put_text.ensures ∙ ap (λ (t : List ℕ). c.args.out.now.items ++ t) c.text_of.ensures) c.requires.1
