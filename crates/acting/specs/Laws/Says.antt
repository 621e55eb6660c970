-- Laws of Says: words alone, and everything as it was.
use Rattle.std.specs.Prelude.{◌≡◌, refl, List, ◌++◌, ℕ, ◌+◌, ◌≤◌, length}
use Rattle.std.proofs.Common.{ap, ◌∙◌, arith, length-append, append_assoc}
use Rattle.game.specs.declared.state.Game.{Game}
use Rattle.lines.specs.Command.{max_line}
use Rattle.writing.specs.Figures.{decimal, spaced}
use Rattle.telling.specs.Told.{Unlent}
use Rattle.acting.specs.Reply.{Says}

pub said-says : (g : Game) (lent : ℕ) (text before : List ℕ) {after : List ℕ} → after ≡ before ++ text → length text ≤ max_line → Unlent (Says text g) lent before (record { game = g; lent = lent }) after
unfolding Unlent
said-says g lent text before p l bytes e =
    record { text = text; written = p; short = l; done = record { said = refl; stays = record { game = refl; lent = e; kept = refl } } }

-- a text is as long as what was put behind the rest
pub text-short : (before text : List ℕ) {after : List ℕ} (n : ℕ) → after ≡ before ++ text → length after ≤ length before + n → length text ≤ n
text-short before text n p l = omega (arith, ap length p, length-append before text)

-- a number, and a list behind it
pub all-behind : (was ps : List ℕ) (count : ℕ) {one two three : List ℕ} {first : ℕ} → first ≡ 0 → one ≡ was ++ decimal first → two ≡ one ++ spaced (decimal count) → three ≡ two ++ ps
    → three ≡ was ++ (decimal 0 ++ spaced (decimal count) ++ ps)
all-behind was ps count e p q r =
    r
    ∙ ap (λ (t : List ℕ). t ++ ps) (q ∙ ap (λ (t : List ℕ). t ++ spaced (decimal count)) (p ∙ ap (λ (k : ℕ). was ++ decimal k) e))
    ∙ simp append_assoc
