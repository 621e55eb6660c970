-- Laws of Colours: a stone stands on the board, and beyond it nothing does; the two players.
use Rattle.std.specs.Prelude.{◌≡◌, refl, List, ◌≢◌, ◌⊎◌, ℕ, ◌≤◌, ◌<◌, length}
use Rattle.std.proofs.Common.{sym, ap, ◌∙◌, inl, inr, ⊎_elim, arith}
use Rattle.std.proofs.Math.ListN.{get_or-eq_default}
use Rattle.rules.specs.Colours.{empty, black, white, other, at}
use Rattle.rules.specs.Game.{Player}
use Rattle.rules.proofs.Laws.Lists.{get_or-within}

pub at-within : (cols : List ℕ) (p : ℕ) → at cols p ≢ empty → p < length cols
unfolding at
at-within cols p n = get_or-within cols p empty n

pub at-beyond : (cols : List ℕ) (p : ℕ) → length cols ≤ p → at cols p ≡ empty
unfolding at
at-beyond cols p l = get_or-eq_default cols empty l

-- ---- The two players

pub player-stone : (c : ℕ) → Player c → c ≢ empty
unfolding Player
player-stone c is z = ⊎_elim (λ (b : c ≡ black). omega arith) (λ (w : c ≡ white). omega arith) is

pub other-black : other black ≡ white
unfolding other
other-black = refl

pub other-white : other white ≡ black
unfolding other
other-white = refl

pub other-player : (c : ℕ) → Player c → Player (other c)
unfolding Player
other-player c is = ⊎_elim (λ b. inr (ap other b ∙ other-black)) (λ w. inl (ap other w ∙ other-white)) is

pub other-apart : (c : ℕ) → Player c → c ≢ other c
unfolding Player
other-apart c is e =
    ⊎_elim (λ b. let f : other c ≡ white = ap other b ∙ other-black in omega arith) (λ w. let f : other c ≡ black = ap other w ∙ other-white in omega arith) is

pub player-cases : (c own : ℕ) → Player c → Player own → (c ≡ own) ⊎ (c ≡ other own)
unfolding Player
player-cases c own (inl b) (inl b') = inl (b ∙ sym b')
player-cases c own (inl b) (inr w) = inr (b ∙ sym (ap other w ∙ other-white))
player-cases c own (inr w) (inl b) = inr (w ∙ sym (ap other b ∙ other-black))
player-cases c own (inr w) (inr w') = inl (w ∙ sym w')
