-- Laws of a whole line: by its length, its first byte and its first word.
use Rattle.std.specs.Prelude.{◌≡◌, refl, true, false, List, [], ◌∷◌, ℕ, ◌+◌, ◌-◌, ◌≤◌, ◌<◌, eqb, ltb, get_or, take, Option, Ok}
use Rattle.std.proofs.Common.{sym, ap, ◌∙◌, arith, lt-ltb, le-ltb, eq-eqb, ne_eqb, ltb-false}
use Rattle.std.proofs.lemmas.Bool.{false≢true, eqb-true}
use Rattle.std.proofs.Math.Logic.{⊎_elim}
use Rattle.std.proofs.Math.ListN.{length}
use Rattle.std.proofs.Math.Seq.{length-take-le}
use Rattle.rules.proofs.Laws.Lists.{decided}
use Rattle.lines.specs.declared.command.Read.TheVariants as reads
use Rattle.lines.specs.declared.command.Fault.TheVariants as faults
use Rattle.lines.specs.declared.command.Name.{Name}
use Rattle.spelling.specs.Text.{carriage_return, text_length, text_of, words}
use Rattle.lines.specs.Command.{Command, name_of, called, command_of, given, command_in, meaning, max_line}
use Rattle.lines.specs.Command as commands
use Rattle.lines.specs.Reads.{told, laid}
use Rattle.lines.specs.Steps.{Plainly}

pub echo-reads : {command : Command} → command ≡ commands.Echo → Plainly command (Ok reads.Echo)
unfolding Plainly
echo-reads e before = record { read = sym (ap (told (length before)) e); buffer = sym (ap (laid before) e) }

pub given-empty : (text : List ℕ) → true ≡ eqb (length text) 0 → given text ≡ commands.Echo
unfolding given
given-empty [] e = refl
given-empty (b ∷ l) e = absurd (let z : length (b ∷ l) ≡ 0 = eqb-true _ _ (sym e) in omega arith)

pub given-hash : (text : List ℕ) → get_or text 0 0 ≡ 35 → given text ≡ commands.Echo
unfolding given
given-hash [] e = refl
given-hash (b ∷ l) e = rw (eq-eqb b 35 e)

pub given-words : (text : List ℕ) → (length text ≡ 0 → ⊥) → (get_or text 0 0 ≡ 35 → ⊥) → given text ≡ command_of (words text)
unfolding given
given-words [] n h = absurd (n refl)
given-words (b ∷ l) n h = rw (ne_eqb b 35 h)

module _ (text : List ℕ) (n : false ≡ eqb (length text) 0) (h : get_or text 0 0 ≡ 35 → ⊥) where
  by-words : given text ≡ command_of (words text)
  by-words = given-words text (λ e. false≢true (n ∙ eq-eqb (length text) 0 e)) h

  pub given-blank : words text ≡ [] → given text ≡ commands.Wrong faults.Blank
  unfolding command_of
  given-blank e = by-words ∙ ap command_of e

  pub given-called : {word : List ℕ} {ws : List (List ℕ)} (name : Option Name) → words text ≡ word ∷ ws → name ≡ name_of word → given text ≡ called name ws
  unfolding command_of
  given-called {word} {ws} name e f = by-words ∙ ap command_of e ∙ ap (λ (x : Option Name). called x ws) (sym f)

module _ (line : List ℕ) where
  pub text-within : text_length line ≤ length line
  unfolding text_length
  text-within = ⊎_elim (λ t. rw t (omega arith)) (λ t. rw t (omega arith)) (decided (eqb (get_or line (length line - 1) 0) carriage_return))

  text-long : length (text_of line) ≡ text_length line
  unfolding text_of
  text-long = length-take-le (text_length line) line text-within

  pub meaning-long : max_line < text_length line → meaning line ≡ commands.Wrong faults.Long
  unfolding meaning command_in
  meaning-long l = let long : max_line < length (text_of line) = rw text-long l in rw (lt-ltb max_line (length (text_of line)) long)

  pub meaning-text : text_length line ≤ max_line → meaning line ≡ given (text_of line)
  unfolding meaning command_in
  meaning-text l = let short : length (text_of line) ≤ max_line = rw text-long l in rw (le-ltb max_line (length (text_of line)) short)

  meaning-over : max_line + 1 < length line → meaning line ≡ commands.Wrong faults.Long
  unfolding text_length
  meaning-over l =
      meaning-long
      (⊎_elim (λ t. rw t (omega arith)) (λ t. rw t (omega arith)) (decided (eqb (get_or line (length line - 1) 0) carriage_return)))

-- the rest of a line that is too long does not matter: its first bytes, one more than a line may have with its carriage return, tell that it is
pub meaning-cut : (line : List ℕ) (n : ℕ) → max_line + 1 < n → n ≤ length line → meaning (take n line) ≡ meaning line
meaning-cut line n l m =
    meaning-over (take n line) (rw (length-take-le n line m) l) ∙ sym (meaning-over line (omega arith))

-- a line that is given back is none that is too long
pub echo-short : (line : List ℕ) → meaning line ≡ commands.Echo → length (text_of line) ≤ max_line
unfolding meaning command_in
echo-short line e =
    ⊎_elim (λ t. absurd (let f : commands.Wrong faults.Long ≡ commands.Echo = rw t at e in let z : ◌≡◌ {A = ℕ} 0 1 = cc in omega arith))
    (λ t. ltb-false max_line (length (text_of line)) t)
    (decided (ltb max_line (length (text_of line))))
