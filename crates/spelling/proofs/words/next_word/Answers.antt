-- `next_word`: blanks are skipped, and the bytes up to the next blank are the word.
use Rattle.std.proofs.Common.{ap₂, ◌∙◌, sym, List, ℕ, ◌∷◌}
use Rattle.spelling.specs.Text.{words}
use Rattle.spelling.specs.Laws.Text.{words-none, words-some, words-whole}
use Rattle.spelling.proofs.words.next_word.Goals as goal

pub returns-clause-cut : goal.returns-clause-cut
returns-clause-cut c =
    rw (c.split_at.ensures.front, c.split_at.ensures.back) (words-whole _ _ _ c.blanks.ensures.counted c.letters-end.ensures.counted)

pub returns-then-end-eq0-clause-parted : goal.returns-then-end-eq0-clause-parted
returns-then-end-eq0-clause-parted c =
    words-none _ _ _ c.blanks.ensures.counted c.letters-end.ensures.counted c.if-end-eq0.true

pub returns-clause-parted : goal.returns-clause-parted
returns-clause-parted c =
    words-some _ _ _ c.blanks.ensures.counted c.letters-end.ensures.counted c.if-end-eq0.false
    ∙ ap₂ {C = List (List ℕ)} (λ (w behind : List ℕ). w ∷ words behind) (sym c.split_at.ensures.front) (sym c.split_at.ensures.back)
