-- Laws of a board's chains as the rules see them: where the sets are the largest, owners and colours have the same walks, and a chain
-- has a liberty exactly if its stones reach empty.
use Rattle.std.specs.Prelude.{◌≡◌, refl, true, ◌↔◌, ◌≢◌, eqb}
use Rattle.std.proofs.Common.{sym, ap, ◌∙◌, subst, arith, eqb-true, eq-eqb}
use Rattle.std.proofs.Math.Path.{fun_ext}
use mathlib.Core.List.{List, Memᴰ}
use Prim.Native.Nat.{ℕ, ◌<◌}
use Rattle.rules.specs.Sizes.{slots}
use Rattle.rules.specs.Lists.{count, below}
use Rattle.rules.specs.Points.{area, neighbours}
use Rattle.rules.specs.Colours.{empty, at}
use Rattle.rules.specs.Reach.{Walk, here, step, Reaches}
use Rattle.rules.proofs.Laws.Lists.{and_left, and_right, and_both, any-yes, any_some, mem_below, count-some, count-positive}
use Rattle.rules.specs.Game.{TrueColours}
use Rattle.rules.proofs.Laws.Colours.{player-stone}
use Rattle.rules.proofs.Laws.Points.{neighbours-sym, neighbours-on}
use Rattle.rules.proofs.Laws.Reach.{walk_first, walk-join, walk-reverse, walk-renamed}
use Rattle.chains.specs.Group.{used}
use Rattle.sets.specs.Liberties.{number, liberty_bits}
use Rattle.sets.specs.Laws.Liberties.{number-set_of}
use Rattle.board.specs.declared.goban.Board.{Board}
use Rattle.board.specs.Board.{owner, chain_in, colour_at, colours_of}
use Rattle.board.specs.True.{liberty_of, ExactTable, TrueBoard}
use Rattle.board.specs.Laws.Board.{area-fits, length-colours, at-colours, empty-unowned, unowned-empty, owned-player, stone-owned}

-- stones side by side of one colour have one owner
abbrev pub Largest : Board → Type 0
Largest b =
    (p q : ℕ) → Memᴰ q (neighbours b.height b.width p) → colour_at b p ≢ empty → colour_at b p ≡ colour_at b q → owner b p ≡ owner b q

-- the rules' colours are the board's
pub colours-at : (b : Board) → ExactTable b → at (colours_of b) ≡ colour_at b
colours-at b is = fun_ext (at-colours b is)

-- what one slot owns has one colour
pub owner-colour : (b : Board) (s p : ℕ) → owner b p ≡ s → colour_at b p ≡ (chain_in b s).colour
unfolding colour_at
owner-colour b s p e = ap (λ (t : ℕ). (chain_in b t).colour) e

module _ (b : Board) (is : ExactTable b) (largest : Largest b) where
  abbrev beside : ℕ → List ℕ
  beside = neighbours b.height b.width

  pub walk-owned : {c p q : ℕ} → c ≢ empty → Walk beside (colour_at b) c p q → owner b p ≡ owner b q
  walk-owned stone (here e) = refl
  walk-owned stone (step {p} {q} e m w) =
      largest p q m (λ z. stone (sym e ∙ z)) (e ∙ sym (walk_first w)) ∙ walk-owned stone w

  pub owned-walk : (s p q : ℕ) → s ≢ slots → owner b p ≡ s → owner b q ≡ s → Walk beside (colour_at b) (colour_at b p) p q
  owned-walk s p q n e f =
      let (on, below, is-used) = is.owned p (λ z. n (sym e ∙ z)) in
      let chain = is.exact s (rw e at below) (subst (λ (t : ℕ). used (chain_in b t) ≡ true) e is-used) in
      walk-renamed (λ x k. owner-colour b s x k ∙ sym (owner-colour b s p e))
      (walk-join (walk-reverse (neighbours-sym b.height b.width) (chain.connected p e)) (chain.connected q f))

  -- the chain that owns the stone p has a liberty exactly if p reaches empty
  pub breath-reaches :
      (p : ℕ) → owner b p ≢ slots →
      0 < number (chain_in b (owner b p)).liberties ↔ Reaches beside (colour_at b) p empty
  unfolding liberty_of
  breath-reaches p n = (there, back)
    where
      s : ℕ
      s = owner b p

      facts : (p < area b.height b.width) × (s < slots) × (used (chain_in b s) ≡ true)
      facts = is.owned p n

      counted : number (chain_in b s).liberties ≡ count (liberty_of b s) (below liberty_bits)
      counted = ap number (is.exact s facts.1 facts.2).liberties ∙ number-set_of (liberty_of b s)

      there : 0 < number (chain_in b s).liberties → Reaches beside (colour_at b) p empty
      there l =
          let (q, i, y) = count-some (liberty_of b s) (below liberty_bits) (rw counted at l) in
          let vacant = eqb-true (owner b q) slots (and_left _ _ y) in
          let (r, m, o) = any_some (λ x. eqb (owner b x) s) (beside q) (and_right (eqb (owner b q) slots) _ y) in
          record {
            apart = player-stone (colour_at b p) (owned-player b is p n);
            last = r;
            walk = owned-walk s p r n refl (eqb-true (owner b r) s o);
            target = q;
            next = neighbours-sym b.height b.width q r m;
            there = empty-unowned b is q vacant;
          }

      back : Reaches beside (colour_at b) p empty → 0 < number (chain_in b s).liberties
      back r =
          let same : s ≡ owner b r.last = walk-owned r.apart r.walk in
          let on : r.target < area b.height b.width = neighbours-on b.height b.width r.last r.target r.next in
          let fits = area-fits is.size in
          let within : r.target < liberty_bits = omega arith in
          rw counted
          (count-positive (liberty_of b s) (mem_below liberty_bits r.target within)
          (and_both (eq-eqb (owner b r.target) slots (unowned-empty b is r.target r.there))
          (any-yes (λ x. eqb (owner b x) s) (neighbours-sym b.height b.width r.last r.target r.next) (eq-eqb (owner b r.last) s (sym same)))))

-- ---- A true board's colours are true colours

pub true-colours : (b : Board) → TrueBoard b → TrueColours b.height b.width (colours_of b)
true-colours b is =
    record {
      covers = length-colours b;
      known = λ p n. rw (at-colours b is.table p) (owned-player b is.table p (owned p n));
      breathes =
          λ p n.
          let (on, below, is-used) = is.table.owned p (owned p n) in
          rw (colours-at b is.table)
          ((breath-reaches b is.table is.largest p (owned p n)).0 (is.breathes (owner b p) below is-used));
    }
  where
    owned : (p : ℕ) → at (colours_of b) p ≢ empty → owner b p ≢ slots
    owned p n = stone-owned b is.table p (λ z. n (at-colours b is.table p ∙ z))

-- and where the colours are true, an exact table of largest sets is a true board
pub colours-true : (b : Board) → ExactTable b → Largest b → TrueColours b.height b.width (colours_of b) → TrueBoard b
colours-true b is largest cols =
    record {
      table = is;
      largest = largest;
      breathes =
          λ s below is-used.
          let chain = is.exact s below is-used in
          let o = (chain_in b s).origin in
          let e : owner b o ≡ s = chain.origin in
          let n : owner b o ≢ slots = λ (z : owner b o ≡ slots). let same : s ≡ slots = sym e ∙ z in omega arith in
          let stone : at (colours_of b) o ≢ empty = λ z. player-stone (colour_at b o) (owned-player b is o n) (sym (at-colours b is o) ∙ z) in
          subst (λ (t : ℕ). 0 < number (chain_in b t).liberties) e
          ((breath-reaches b is largest o n).1 (subst (λ (c : ℕ → ℕ). Reaches (neighbours b.height b.width) c o empty) (colours-at b is) (cols.breathes o stone)));
    }
