-- Laws of the chain table: what that of a true board tells of a point is what the rules say.
use Rattle.std.specs.Prelude.{◌≡◌, refl, Bool, false, ◌≢◌, ℕ, ◌≤◌, ◌<◌, ltb, get_or}
use Rattle.std.proofs.Math.Path.{sym, ap}
use Rattle.std.proofs.Common.{◌∙◌, arith}
use Rattle.std.proofs.Math.Bool.{cond}
use Rattle.std.proofs.Math.Logic.{⊎_elim}
use Rattle.std.proofs.Math.ListN.{get_or-eq_default}
use borrow.Author.Tests.{eq-eqb, ne_eqb, ltb-true, ltb-false}
use Rattle.rules.specs.Sizes.{max_area, slots}
use Rattle.rules.specs.Lists.{below}
use Rattle.rules.specs.Colours.{empty, at}
use Rattle.rules.specs.Chain.{size, liberties}
use Rattle.rules.proofs.Laws.Lists.{equal_or_not, decided, get_d_default}
use Rattle.rules.proofs.Laws.Counting.{count_none}
use Rattle.chains.specs.declared.group.Chain.{Chain}
use Rattle.chains.specs.Group.{free_chain}
use Rattle.sets.specs.Liberties.{none, number, liberty_bits}
use Rattle.sets.specs.Laws.Liberties.{number-set_of}
use Rattle.board.specs.declared.goban.Board.{Board}
use Rattle.board.specs.Board.{owner, chain_in, colour_at, colours_of}
use Rattle.board.specs.True.{TrueBoard, Shaped}
use Rattle.board.specs.Laws.Board.{at-colours, no-chain}
use Rattle.board.specs.Laws.Views.{empty-owner, chain-size, chain-liberties}
use Rattle.legality.specs.declared.near.Beside.{Beside}
use Rattle.legality.specs.Near.{of_stone, seen}
use Rattle.looking.specs.Seen.{chain_seen, nothing, Readable}

number-nothing : number none ≡ 0
unfolding none
number-nothing = number-set_of (λ q. false) ∙ count_none (λ q. false) (below liberty_bits) (λ q m. refl)

-- beyond the slots nothing is seen
seen_nothing : (b : Board) → Shaped b → (s : ℕ) → slots ≤ s → chain_seen (chain_in b s) ≡ nothing
unfolding chain_seen nothing chain_in free_chain
seen_nothing b is s h =
    ap chain_seen (get_or-eq_default b.chains free_chain {n = s} (omega (arith, is.chains)))
    ∙ ap (λ (n : ℕ). record { colour = empty; liberties = n; stones = 0 }) number-nothing

-- what is read at a point's owner
module _ (b : Board) (is : TrueBoard b) (q : ℕ) (low : q < max_area) (o : ℕ) (its : o ≡ get_or b.owners q 0) where
  pub owner-read : o ≡ owner b q
  unfolding owner
  owner-read = its ∙ get_d_default b.owners q 0 slots (omega (arith, is.table.shape.owners))

  pub chain-read : o < slots → (d : Chain) → get_or b.chains o d ≡ chain_in b (owner b q)
  unfolding chain_in
  chain-read l d = get_d_default b.chains o d free_chain (omega (arith, is.table.shape.chains)) ∙ ap (chain_in b) owner-read

  pub nothing_read : slots ≤ o → nothing ≡ chain_seen (chain_in b (owner b q))
  nothing_read l = sym (seen_nothing b is.table.shape o l) ∙ ap (λ (s : ℕ). chain_seen (chain_in b s)) owner-read

  -- the colour of the owner's chain, where any slot is read and the owner decides after it
  pub shade-read : (s : ℕ) → Readable o s → (d : Chain) → cond (ltb o slots) (get_or b.chains s d).colour empty ≡ (chain_seen (chain_in b (owner b q))).colour
  unfolding chain_seen nothing
  shade-read s reads d =
      ⊎_elim
      (λ t.
      ap (λ (x : Bool). cond x (get_or b.chains s d).colour empty) t
      ∙ ap (λ (k : ℕ). (get_or b.chains k d).colour) (reads.owned (ltb-true o slots t))
      ∙ ap (λ (x : Chain). x.colour) (chain-read (ltb-true o slots t) d))
      (λ t. ap (λ (x : Bool). cond x (get_or b.chains s d).colour empty) t ∙ ap (λ (x : Beside). x.colour) (nothing_read (ltb-false o slots t)))
      (decided (ltb o slots))

-- what the board's points show beside their colours
abbrev pub liberties_at : Board → ℕ → ℕ
liberties_at b = of_stone (colours_of b) (liberties b.height b.width (colours_of b))

abbrev pub stones_at : Board → ℕ → ℕ
stones_at b = of_stone (colours_of b) (size b.height b.width (colours_of b))

module _ (b : Board) (is : TrueBoard b) (q : ℕ) where
  -- what the table says of a stone is what f says; what it says of nothing is 0
  told : (table : ℕ → ℕ) (f : ℕ → ℕ) → table slots ≡ 0 → (owner b q ≢ slots → f q ≡ table (owner b q)) → table (owner b q) ≡ of_stone (colours_of b) f q
  unfolding of_stone
  told table f zero-there stone-there =
      ⊎_elim
      (λ e. ap table e ∙ zero-there ∙ sym (ap (λ (t : Bool). cond t 0 (f q)) (empty-owner b is q ∙ eq-eqb (owner b q) slots e)))
      (λ n. sym (stone-there n) ∙ sym (ap (λ (t : Bool). cond t 0 (f q)) (empty-owner b is q ∙ ne_eqb (owner b q) slots n)))
      (equal_or_not (owner b q) slots)

  pub colour-told : (chain_seen (chain_in b (owner b q))).colour ≡ at (colours_of b) q
  unfolding chain_seen colour_at
  colour-told = sym (at-colours b is.table q)

  pub liberties-told : (chain_seen (chain_in b (owner b q))).liberties ≡ liberties_at b q
  unfolding chain_seen free_chain
  liberties-told =
      told (λ s. number (chain_in b s).liberties) (liberties b.height b.width (colours_of b))
      (ap (λ c. number c.liberties) (no-chain b is.table.shape) ∙ number-nothing) (chain-liberties b is q)

  pub stones-told : (chain_seen (chain_in b (owner b q))).stones ≡ stones_at b q
  unfolding chain_seen free_chain
  stones-told =
      told (λ s. (chain_in b s).count) (size b.height b.width (colours_of b)) (ap (λ c. c.count) (no-chain b is.table.shape)) (chain-size b is q)

  -- what the owner's chain shows is what the rules say of the point
  pub board-seen : chain_seen (chain_in b (owner b q)) ≡ seen b.height b.width (colours_of b) q
  unfolding seen
  board-seen = λ i. record { colour = colour-told i; liberties = liberties-told i; stones = stones-told i }

  -- so does the code, at any number
  pub seen-beyond : max_area ≤ q → nothing ≡ seen b.height b.width (colours_of b) q
  unfolding owner
  seen-beyond l =
      let off : owner b q ≡ slots = get_or-eq_default b.owners slots {n = q} (omega (arith, is.table.shape.owners)) in
      sym (seen_nothing b is.table.shape (owner b q) (omega (arith, off))) ∙ board-seen

  pub seen-unowned : q < max_area → slots ≤ get_or b.owners q 0 → nothing ≡ seen b.height b.width (colours_of b) q
  seen-unowned low l = nothing_read b is q low _ refl l ∙ board-seen

  pub seen-owned : q < max_area → get_or b.owners q 0 < slots → (d : Chain) → chain_seen (get_or b.chains (get_or b.owners q 0) d) ≡ seen b.height b.width (colours_of b) q
  seen-owned low l d = ap chain_seen (chain-read b is q low _ refl l d) ∙ board-seen
