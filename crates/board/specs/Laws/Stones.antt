-- Counting slot by slot: the stones of a colour and the chains of the first n slots, and of one slot more.
use Rattle.std.specs.Prelude.{◌≡◌, Bool, true, ◌&&◌, ◌||◌, List, ◌≢◌, ℕ, ◌+◌, ◌≤◌, ◌<◌, get_or}
use Rattle.std.proofs.Math.Path.{sym, ap, ap₂}
use Rattle.std.proofs.Common.{◌∙◌, subst, add-one}
use Rattle.std.proofs.Math.Bool.{cond, and-false, and-or_distrib_left}
use Rattle.std.proofs.Math.Logic.{⊎_elim}
use native.Mathlib.Omega.{arith}
use Rattle.std.proofs.Math.Dec.{eqb, ltb}
use borrow.Author.Tests.{eqb-true, eqb-false, not-false, eq-eqb, ne_eqb, ltb-true, ltb-false, lt-ltb, le-ltb}
use Rattle.rules.specs.Sizes.{slots}
use Rattle.rules.specs.Lists.{count, below}
use Rattle.rules.specs.Points.{area}
use Rattle.rules.specs.Chain.{chains}
use Rattle.rules.specs.Game.{Player, stones}
use Rattle.rules.proofs.Laws.Lists.{decided, equal_or_not, get_d_default, and_left, and_right, not-both, not_yes}
use Rattle.rules.proofs.Laws.Counting.{count_none, count-or, count_same}
use Rattle.rules.proofs.Laws.Colours.{player-stone}
use Rattle.rules.proofs.Laws.Stones.{count-tabulate}
use Rattle.chains.specs.declared.group.Chain.{Chain}
use Rattle.chains.specs.Group.{used, free_chain}
use Rattle.rules.proofs.Laws.Places.{count-below-zero, count-below-suc, count-below-le}
use Rattle.board.specs.declared.goban.Board.{Board}
use Rattle.board.specs.Board.{owner, chain_in, colour_at, colours_of}
use Rattle.board.specs.True.{TrueBoard}
use Rattle.board.specs.Laws.Board.{empty-unowned}
use Rattle.board.specs.Laws.Chains.{owner-colour}
use Rattle.board.specs.Laws.Views.{chains-used}

-- the stones of colour c of the chains in the first n slots
unfoldable pub stones_below : Board → ℕ → ℕ → ℕ
stones_below b c n = count (λ p. eqb c (colour_at b p) && ltb (owner b p) n) (below (area b.height b.width))

-- the chains in the first n slots
unfoldable pub used_below : Board → ℕ → ℕ
used_below b n = count (λ s. used (chain_in b s)) (below n)

-- ---- The chains

pub used_below-none : (b : Board) → used_below b 0 ≡ 0
unfolding used_below
used_below-none b = count-below-zero (λ s. used (chain_in b s))

pub used_below-few : (b : Board) (n : ℕ) → used_below b n ≤ n
unfolding used_below
used_below-few b n = count-below-le (λ s. used (chain_in b s)) n

pub used_below-next : (b : Board) (n : ℕ) → used_below b (n + 1) ≡ used_below b n + cond (used (chain_in b n)) 1 0
unfolding used_below
used_below-next b n = rw add-one (count-below-suc (λ s. used (chain_in b s)) n)

pub used_below-all : (b : Board) → TrueBoard b → used_below b slots ≡ chains b.height b.width (colours_of b)
unfolding used_below
used_below-all b is = sym (chains-used b is)

-- ---- The stones

pub stones_below-none : (b : Board) (c : ℕ) → stones_below b c 0 ≡ 0
unfolding stones_below
stones_below-none b c =
    count_none (λ p. eqb c (colour_at b p) && ltb (owner b p) 0) (below (area b.height b.width))
    (λ p m. not_yes (λ t. let l = ltb-true (owner b p) 0 (and_right (eqb c (colour_at b p)) _ t) in omega arith))

module _ (b : Board) (is : TrueBoard b) (c : ℕ) where
  abbrev points : List ℕ
  points = below (area b.height b.width)

  -- owned by a slot below the next number: by one below this one, or by this one
  below_next : (s n : ℕ) → ltb s (n + 1) ≡ (ltb s n || eqb s n)
  below_next s n =
      ⊎_elim (λ l. let k = ltb-true s n l in rw (l, lt-ltb s (n + 1) (omega arith)))
      (λ m.
      let k = ltb-false s n m in
      ⊎_elim (λ (e : s ≡ n). rw (m, eq-eqb s n e, lt-ltb s (n + 1) (omega arith)))
      (λ (a : s ≢ n). rw (m, ne_eqb s n a, le-ltb s (n + 1) (omega arith))) (equal_or_not s n))
      (decided (ltb s n))

  -- a slot owns as many points as it says, also where it is free
  slot-count : (n : ℕ) → n < slots → count (λ p. eqb (owner b p) n) points ≡ (chain_in b n).count
  unfolding used
  slot-count n under =
      ⊎_elim (λ y. sym (is.table.exact n under y).counted)
      (λ f.
      count_none (λ p. eqb (owner b p) n) points
      (λ p m.
      not_yes
      (λ t.
      let e = eqb-true (owner b p) n t in
      not-both (subst (λ (s : ℕ). used (chain_in b s) ≡ true) e (is.table.owned p (λ z. slot-not-none (sym e ∙ z))).2) f))
      ∙ sym (eqb-true (chain_in b n).count 0 (not-false (eqb (chain_in b n).count 0) f)))
      (decided (used (chain_in b n)))
    where
      slot-not-none : n ≢ slots
      slot-not-none e = omega arith

  -- the stones of one slot: all of its chain, or none
  slot-stones :
      (n : ℕ) → n < slots → count (λ p. eqb c (colour_at b p) && eqb (owner b p) n) points ≡ cond (eqb (chain_in b n).colour c) (chain_in b n).count 0
  slot-stones n under =
      ⊎_elim
      (λ t.
      count_same (λ p. eqb c (colour_at b p) && eqb (owner b p) n) (λ p. eqb (owner b p) n) points (λ p m. own (eqb-true _ c t) p)
      ∙ rw t (slot-count n under))
      (λ f. count_none (λ p. eqb c (colour_at b p) && eqb (owner b p) n) points (λ p m. not_yes (λ u. not_own (eqb-false _ c f) p u)) ∙ rw f)
      (decided (eqb (chain_in b n).colour c))
    where
      own : (chain_in b n).colour ≡ c → (p : ℕ) → (eqb c (colour_at b p) && eqb (owner b p) n) ≡ eqb (owner b p) n
      own e p =
          ⊎_elim (λ t. rw (t, eq-eqb c (colour_at b p) (sym (owner-colour b n p (eqb-true (owner b p) n t) ∙ e))))
          (λ f. rw f (and-false (eqb c (colour_at b p))))
          (decided (eqb (owner b p) n))

      not_own : (chain_in b n).colour ≢ c → (p : ℕ) → (eqb c (colour_at b p) && eqb (owner b p) n) ≡ true → ⊥
      not_own a p u =
          a
          (sym (owner-colour b n p (eqb-true (owner b p) n (and_right (eqb c (colour_at b p)) _ u)))
          ∙ sym (eqb-true c (colour_at b p) (and_left (eqb c (colour_at b p)) _ u)))

  pub stones_below-next :
      (n : ℕ) → n < slots → stones_below b c (n + 1) ≡ stones_below b c n + cond (eqb (chain_in b n).colour c) (chain_in b n).count 0
  unfolding stones_below
  stones_below-next n under =
      count_same (λ p. eqb c (colour_at b p) && ltb (owner b p) (n + 1))
      (λ p. (eqb c (colour_at b p) && ltb (owner b p) n) || (eqb c (colour_at b p) && eqb (owner b p) n)) points
      (λ p m. ap (λ (t : Bool). eqb c (colour_at b p) && t) (below_next (owner b p) n) ∙ and-or_distrib_left (eqb c (colour_at b p)) _ _)
      ∙ count-or (λ p. eqb c (colour_at b p) && ltb (owner b p) n) (λ p. eqb c (colour_at b p) && eqb (owner b p) n) points
      (λ p m t.
      let l = ltb-true (owner b p) n (and_right (eqb c (colour_at b p)) _ t) in
      not_yes (λ u. let e = eqb-true (owner b p) n (and_right (eqb c (colour_at b p)) _ u) in omega arith))
      ∙ ap (λ (m : ℕ). count (λ p. eqb c (colour_at b p) && ltb (owner b p) n) points + m) (slot-stones n under)

  -- every stone is of a chain in some slot
  pub stones_below-all : Player c → stones_below b c slots ≡ stones (colours_of b) c
  unfolding stones_below stones colours_of below
  stones_below-all player =
      count_same (λ p. eqb c (colour_at b p) && ltb (owner b p) slots) (λ p. eqb c (colour_at b p)) points (λ p m. all p)
      ∙ sym (count-tabulate (eqb c) (colour_at b) 0 (area b.height b.width))
    where
      all : (p : ℕ) → (eqb c (colour_at b p) && ltb (owner b p) slots) ≡ eqb c (colour_at b p)
      all p =
          ⊎_elim
          (λ t.
          let e = eqb-true c (colour_at b p) t in
          let n : owner b p ≢ slots = λ z. player-stone c player (e ∙ empty-unowned b is.table p z) in
          rw (t, lt-ltb (owner b p) slots (is.table.owned p n).1))
          (λ f. rw f)
          (decided (eqb c (colour_at b p)))

  -- what one slot adds, as it is read from the table
  pub stones_below-step :
      {sum got : ℕ} (n : ℕ) (past : Chain) → n < slots → sum ≡ stones_below b c n →
      got ≡ cond (eqb (get_or b.chains n past).colour c) (get_or b.chains n past).count 0 → sum + got ≡ stones_below b c (n + 1)
  unfolding chain_in
  stones_below-step n past under before one =
      ap₂ (λ (x y : ℕ). x + y) before
      (one
      ∙ ap (λ (chain : Chain). cond (eqb chain.colour c) chain.count 0)
      (get_d_default b.chains n past free_chain (omega (arith, is.table.shape.chains))))
      ∙ sym (stones_below-next n under)
