-- A line has few spots: no more than a quarter of its bytes.
use Rattle.std.specs.Prelude.{◌≡◌, refl, true, false, List, [], ◌∷◌, ℕ, suc, ◌+◌, ◌*◌, ◌/◌, ◌≤◌, eqb, ltb, length, Option, None, Some}
use Rattle.std.proofs.Common.{⊎_elim, zero-le, le_trans, arith, ltb-false}
use Rattle.rules.specs.Lists.{same}
use Rattle.rules.specs.Calls.{Spot}
use Rattle.rules.proofs.Laws.Lists.{decided}
use Rattle.lines.specs.declared.command.Name.{Name}
use Rattle.lines.specs.declared.command.Name.TheVariants as names
use Rattle.spelling.specs.Text.{ascii, text_of, blank, words_from, words}
use Rattle.spelling.specs.Number.{number_of, consed, numbers, max_lent}
use Rattle.lines.specs.Command as commands
use Rattle.lines.specs.Command.{Command, max_line, new_of, preceded, pairs, spotted, handicap_of, stone_of, check_of, legals_of, player_of, resign_of, alone, name_of, called, command_of, given, command_in, meaning}
use Rattle.spelling.specs.Laws.Text.{words-blank, words_inside, words-begin}

abbrev pub spots_in : Command → ℕ
spots_in commands.Echo = 0
spots_in (commands.New h w flags bytes) = 0
spots_in (commands.Handicap spots) = length spots
spots_in (commands.Stone r c) = 0
spots_in commands.Pass = 0
spots_in (commands.Resign player) = 0
spots_in commands.Resume = 0
spots_in (commands.Check r c flags) = 0
spots_in (commands.Legals flags) = 0
spots_in commands.State = 0
spots_in commands.Render = 0
spots_in (commands.Wrong fault) = 0

-- ---- A byte at least between two words

-- behind a byte of a word, and behind a blank
words-few : (l : List ℕ) → (2 * length (words_from false l) ≤ length l) × (2 * length (words_from true l) ≤ length l + 1)
words-few [] = (omega arith, omega arith)
words-few (b ∷ l) = ⊎_elim (λ t. blanks b l t (words-few l)) (λ t. letters b l t (words-few l)) (decided (blank b))
  where
    blanks : (b : ℕ) (l : List ℕ) → blank b ≡ true → (2 * length (words_from false l) ≤ length l) × (2 * length (words_from true l) ≤ length l + 1)
        → (2 * length (words_from false (b ∷ l)) ≤ length (b ∷ l)) × (2 * length (words_from true (b ∷ l)) ≤ length (b ∷ l) + 1)
    blanks b l t ih = (rw (words-blank false b l t) (omega (arith, ih.1)), rw (words-blank true b l t) (omega (arith, ih.1)))

    letters : (b : ℕ) (l : List ℕ) → blank b ≡ false → (2 * length (words_from false l) ≤ length l) × (2 * length (words_from true l) ≤ length l + 1)
        → (2 * length (words_from false (b ∷ l)) ≤ length (b ∷ l)) × (2 * length (words_from true (b ∷ l)) ≤ length (b ∷ l) + 1)
    letters b l t ih = (rw (words_inside b l t) (omega (arith, ih.0)), rw (words-begin b l t) (omega (arith, ih.0)))

-- ---- A word for each number, two numbers for each spot

abbrev count : Option (List ℕ) → ℕ
count None = 0
count (Some ns) = length ns

consed-few : (o : Option ℕ) (p : Option (List ℕ)) (n : ℕ) → count p ≤ n → count (consed o p) ≤ suc n
unfolding consed
consed-few None p n l = zero-le
consed-few (Some m) None n l = zero-le
consed-few (Some m) (Some ms) n l = omega arith

numbers-few : (ws : List (List ℕ)) → count (numbers ws) ≤ length ws
unfolding numbers
numbers-few [] = zero-le
numbers-few (w ∷ ws) = consed-few (number_of w) (numbers ws) (length ws) (numbers-few ws)

preceded-few : (s : Spot) (p : Option (List Spot)) (n : ℕ) → 2 * spots_in (spotted p) ≤ n → 2 * spots_in (spotted (preceded s p)) ≤ suc (suc n)
unfolding spotted preceded
preceded-few s None n l = omega arith
preceded-few s (Some spots) n l = omega arith

pairs-few : (ns : List ℕ) → 2 * spots_in (spotted (pairs ns)) ≤ length ns
unfolding pairs spotted
pairs-few [] = omega arith
pairs-few (r ∷ []) = omega arith
pairs-few (r ∷ c ∷ ns) = preceded-few (record { row = r; column = c }) (pairs ns) (length ns) (pairs-few ns)

handicap-few : (o : Option (List ℕ)) → 2 * spots_in (handicap_of o) ≤ count o
unfolding handicap_of
handicap-few None = omega arith
handicap-few (Some ns) = pairs-few ns

-- ---- The other calls have none

new_none : (o : Option (List ℕ)) → spots_in (new_of o) ≡ 0
unfolding new_of
new_none None = refl
new_none (Some []) = refl
new_none (Some (a ∷ [])) = refl
new_none (Some (a ∷ b ∷ [])) = refl
new_none (Some (a ∷ b ∷ c ∷ [])) = refl
new_none (Some (a ∷ b ∷ c ∷ d ∷ [])) = ⊎_elim (λ t. rw t) (λ t. rw t) (decided (ltb max_lent d))
new_none (Some (a ∷ b ∷ c ∷ d ∷ e ∷ ns)) = refl

stone-none : (o : Option (List ℕ)) → spots_in (stone_of o) ≡ 0
unfolding stone_of
stone-none None = refl
stone-none (Some []) = refl
stone-none (Some (a ∷ [])) = refl
stone-none (Some (a ∷ b ∷ [])) = refl
stone-none (Some (a ∷ b ∷ c ∷ ns)) = refl

check-none : (o : Option (List ℕ)) → spots_in (check_of o) ≡ 0
unfolding check_of
check-none None = refl
check-none (Some []) = refl
check-none (Some (a ∷ [])) = refl
check-none (Some (a ∷ b ∷ [])) = refl
check-none (Some (a ∷ b ∷ c ∷ [])) = refl
check-none (Some (a ∷ b ∷ c ∷ d ∷ ns)) = refl

legals-none : (o : Option (List ℕ)) → spots_in (legals_of o) ≡ 0
unfolding legals_of
legals-none None = refl
legals-none (Some []) = refl
legals-none (Some (a ∷ [])) = refl
legals-none (Some (a ∷ b ∷ ns)) = refl

player-none : (w : List ℕ) → spots_in (player_of w) ≡ 0
unfolding player_of
player-none w =
    ⊎_elim (λ (t : same w (ascii "b") ≡ true). rw t)
    (λ (t : same w (ascii "b") ≡ false). ⊎_elim (λ (u : same w (ascii "w") ≡ true). rw (t, u)) (λ (u : same w (ascii "w") ≡ false). rw (t, u)) (decided (same w (ascii "w"))))
    (decided (same w (ascii "b")))

resign-none : (ws : List (List ℕ)) → spots_in (resign_of ws) ≡ 0
unfolding resign_of
resign-none [] = refl
resign-none (w ∷ []) = player-none w
resign-none (w ∷ v ∷ ws) = refl

alone-none : (command : Command) (ws : List (List ℕ)) → spots_in command ≡ 0 → spots_in (alone command ws) ≡ 0
unfolding alone
alone-none command [] e = e
alone-none command (w ∷ ws) e = refl

-- ---- A line

none-few : {n : ℕ} (m : ℕ) → n ≡ 0 → 2 * n ≤ m
none-few m e = omega arith

called-few : (name : Option Name) (ws : List (List ℕ)) → 2 * spots_in (called name ws) ≤ length ws
unfolding called
called-few (Some names.New) ws = none-few (length ws) (new_none (numbers ws))
called-few (Some names.Handicap) ws = le_trans (handicap-few (numbers ws)) (numbers-few ws)
called-few (Some names.Stone) ws = none-few (length ws) (stone-none (numbers ws))
called-few (Some names.Pass) ws = none-few (length ws) (alone-none commands.Pass ws refl)
called-few (Some names.Resign) ws = none-few (length ws) (resign-none ws)
called-few (Some names.Resume) ws = none-few (length ws) (alone-none commands.Resume ws refl)
called-few (Some names.Check) ws = none-few (length ws) (check-none (numbers ws))
called-few (Some names.Legals) ws = none-few (length ws) (legals-none (numbers ws))
called-few (Some names.State) ws = none-few (length ws) (alone-none commands.State ws refl)
called-few (Some names.Render) ws = none-few (length ws) (alone-none commands.Render ws refl)
called-few None ws = none-few (length ws) refl

command-few : (ws : List (List ℕ)) (n : ℕ) → 2 * length ws ≤ n + 1 → 4 * spots_in (command_of ws) ≤ n
unfolding command_of
command-few [] n l = zero-le
command-few (w ∷ ws) n l = let few = called-few (name_of w) ws in omega arith

given-few : (text : List ℕ) → 4 * spots_in (given text) ≤ length text
unfolding given words
given-few [] = zero-le
given-few (b ∷ l) =
    ⊎_elim (λ t. rw t zero-le) (λ t. rw t (command-few (words_from true (b ∷ l)) (suc (length l)) (words-few (b ∷ l)).1)) (decided (eqb b 35))

-- the most spots of a line
abbrev pub max_spots : ℕ
max_spots = max_line / 4

pub meaning-few : (line : List ℕ) → spots_in (meaning line) ≤ max_spots
unfolding meaning command_in
meaning-few line =
    ⊎_elim (λ t. rw t zero-le)
    (λ t. rw t (let few = given-few (text_of line) in let short = ltb-false max_line (length (text_of line)) t in omega arith))
    (decided (ltb max_line (length (text_of line))))
