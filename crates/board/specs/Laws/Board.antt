-- Laws of Board: on an exact table a point has a colour exactly if a chain owns it, and the colours are those of the points.
use Rattle.std.specs.Prelude.{◌≡◌, ◌≢◌, ℕ, ◌≤◌, ltb, length}
use Rattle.std.proofs.Math.Path.{sym, ap}
use Rattle.std.proofs.Common.{◌∙◌, mul-le-mul, arith}
use Rattle.std.proofs.Math.Logic.{⊎_elim}
use Rattle.std.proofs.Math.ListN.{get_or-eq_default}
use borrow.Author.Tests.{ltb-true, ltb-false}
use Rattle.rules.specs.Sizes.{max_area, slots}
use Rattle.rules.specs.Points.{area}
use Rattle.rules.specs.Colours.{empty, at}
use Rattle.rules.specs.Game.{Player, TrueSize}
use Rattle.rules.proofs.Laws.Lists.{length-tabulate, get_or-tabulate-zero, get_or-tabulate-beyond, decided, equal_or_not}
use Rattle.rules.proofs.Laws.Colours.{player-stone}
use Rattle.chains.specs.Group.{free_chain}
use Rattle.board.specs.declared.goban.Board.{Board}
use Rattle.board.specs.Board.{owner, chain_in, colour_at, colours_of}
use Rattle.board.specs.True.{ExactTable, Shaped}

-- every point of the board has a place in the arrays
pub area-fits : {h w : ℕ} → TrueSize h w → area h w ≤ max_area
unfolding area
area-fits {h} {w} is = mul-le-mul is.low is.narrow

pub length-colours : (b : Board) → length (colours_of b) ≡ area b.height b.width
unfolding colours_of
length-colours b = length-tabulate _ 0 (area b.height b.width)

-- no chain is a free one, so what no chain owns is empty
pub no-chain : (b : Board) → Shaped b → chain_in b slots ≡ free_chain
unfolding chain_in
no-chain b is = get_or-eq_default b.chains free_chain (omega (arith, is.chains))

module _ (b : Board) (is : ExactTable b) where
  pub empty-unowned : (p : ℕ) → owner b p ≡ slots → colour_at b p ≡ empty
  unfolding colour_at free_chain
  empty-unowned p e = ap (λ (s : ℕ). (chain_in b s).colour) e ∙ ap (λ c. c.colour) (no-chain b is.shape)

  pub owned-player : (p : ℕ) → owner b p ≢ slots → Player (colour_at b p)
  unfolding colour_at
  owned-player p n = let (on, below, is-used) = is.owned p n in (is.exact (owner b p) below is-used).colour

  pub unowned-empty : (p : ℕ) → colour_at b p ≡ empty → owner b p ≡ slots
  unowned-empty p e =
      ⊎_elim (λ s. s) (λ n. absurd (player-stone (colour_at b p) (owned-player p n) e)) (equal_or_not (owner b p) slots)

  pub stone-owned : (p : ℕ) → colour_at b p ≢ empty → owner b p ≢ slots
  stone-owned p n e = n (empty-unowned p e)

  -- the rules' colour of a point is the board's, also beyond the board
  pub at-colours : (p : ℕ) → at (colours_of b) p ≡ colour_at b p
  unfolding at colours_of
  at-colours p =
      ⊎_elim
      (λ t. get_or-tabulate-zero (colour_at b) (area b.height b.width) p empty (ltb-true p _ t))
      (λ f.
      let off = ltb-false p (area b.height b.width) f in
      let unowned : owner b p ≡ slots =
      ⊎_elim (λ s. s) (λ n. let on = (is.owned p n).0 in omega arith) (equal_or_not (owner b p) slots) in
      get_or-tabulate-beyond (colour_at b) 0 (area b.height b.width) p empty off ∙ sym (empty-unowned p unowned))
      (decided (ltb p (area b.height b.width)))
