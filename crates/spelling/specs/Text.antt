-- A line as text: where it ends, and its words.
use Rattle.std.specs.Prelude.{Bool, true, false, cond, ◌||◌, List, [], ◌∷◌, ℕ, ◌-◌, eqb, length, get_or, take}
use Prim.Native.Char.{code}
use Prim.Native.String.{String}
use Prim.Native.String as strings

-- the bytes of a plain text
abbrev pub ascii : String → List ℕ
ascii strings.[] = []
ascii (strings.◌∷◌ c s) = code c ∷ ascii s

abbrev pub tab : ℕ
tab = 9

abbrev pub carriage_return : ℕ
carriage_return = 13

abbrev pub space : ℕ
space = 32

-- a line that is handed over has lost its line feed; a carriage return at its end is no part of the text
unfoldable pub text_length : List ℕ → ℕ
text_length line = cond (eqb (get_or line (length line - 1) 0) carriage_return) (length line - 1) (length line)

unfoldable pub text_of : List ℕ → List ℕ
text_of line = take (text_length line) line

unfoldable pub blank : ℕ → Bool
blank b = eqb b space || eqb b tab

-- the bytes before the first blank
abbrev pub word : List ℕ → List ℕ
word [] = []
word (b ∷ l) = elim (blank b) [ true ↦ [] | false ↦ b ∷ word l ]

-- the words from here on. One begins at each byte that is no blank and does not go on with a word that began before
abbrev pub words_from : Bool → List ℕ → List (List ℕ)
words_from fresh [] = []
words_from fresh (b ∷ l) =
    elim (blank b) [
      | true ↦ words_from true l
      | false ↦ elim fresh [ true ↦ word (b ∷ l) ∷ words_from false l | false ↦ words_from false l ]
    ]

unfoldable pub words : List ℕ → List (List ℕ)
words text = words_from true text
