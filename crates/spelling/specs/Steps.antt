-- What the functions inside promise: the next word, and the numbers of a text.
use Rattle.std.specs.Prelude.{Bool, true, false, cond, not, List, [], ◌∷◌, map, ℕ, ◌+◌, eqb, min, length, Option, None, Some}
use Rattle.std.specs.List.{prefix_len}
use Rattle.spelling.specs.declared.words.Word.{Word}
use Rattle.spelling.specs.Text.{blank, words}
use Rattle.spelling.specs.Number.{max_lent}

-- ---- Words

-- how many blanks a text begins with, and how many other bytes
abbrev pub blanks : List ℕ → ℕ
blanks text = prefix_len blank text

abbrev pub letters : List ℕ → ℕ
letters text = prefix_len (λ b. not (blank b)) text

-- the words of a text whose first one was parted from it
abbrev pub spelled : Option Word → List (List ℕ)
spelled None = []
spelled (Some word) = word.bytes.now ∷ words word.behind.now

unfoldable pub ended : List (List ℕ) → Bool
ended [] = true
ended (w ∷ ws) = false

-- ---- Numbers

-- every number above the most bytes of history is read as this one
abbrev pub most : ℕ
most = max_lent + 1

unfoldable pub numeral : Option ℕ → Option ℕ
numeral None = None
numeral (Some n) = Some (min n most)

-- the numbers as they are read, if there are n
unfoldable pub exactly : ℕ → Option (List ℕ) → Option (List ℕ)
exactly n None = None
exactly n (Some ns) = cond (eqb (length ns) n) (Some (map (λ m. min m most) ns)) None

unfoldable pub count_of : Option (List ℕ) → Option ℕ
count_of None = None
count_of (Some ns) = Some (length ns)
