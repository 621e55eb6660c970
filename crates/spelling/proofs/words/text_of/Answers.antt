-- `text_of`: the last byte, if there is one, is asked.
use Rattle.std.proofs.Common.{◌∙◌, ap, List, ℕ, Bor}
use Rattle.spelling.specs.Laws.Text.{stripped}
use Rattle.spelling.proofs.words.text_of.Goals as goal

pub returns : goal.returns
returns c = ap (λ (b : Bor (List ℕ)). b.now) c.unwrap_or.ensures ∙ stripped _ _ c.strip_suffix.ensures.cases
