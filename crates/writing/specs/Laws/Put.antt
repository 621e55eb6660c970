-- Laws of Put: a text from the buffer's front.
use Rattle.std.specs.Prelude.{◌≡◌, List, ◌++◌, ℕ, ◌≤◌, length, drop}
use Rattle.std.proofs.Common.{sym, ap₂, ◌∙◌, zero-add, take-append-drop, length-append, length-drop, arith}
use Rattle.std.proofs.lemmas.List.{take_at, drop_at}
use Rattle.writing.specs.Put.{Put}

-- what a text at the front leaves
pub put_whole : {text before after : List ℕ} {next : ℕ} → Put text before 0 next after → (next ≡ length text) × (after ≡ text ++ drop next before)
put_whole {text} {before} {after} {next} p =
    (p.counted ∙ zero-add (length text), sym (take-append-drop next after) ∙ ap₂ (λ (a b : List ℕ). a ++ b) p.front p.rest)

-- and the other way round
pub put_front : (text before : List ℕ) (n : ℕ) → n ≡ length text → length text ≤ length before → Put text before 0 n (text ++ drop n before)
put_front text before n e l =
    record {
      counted = e ∙ sym (zero-add (length text));
      within = omega arith;
      long = omega (arith, length-append text (drop n before), length-drop n before);
      front = take_at text (drop n before) n (sym e);
      rest = drop_at text (drop n before) n (sym e);
    }
