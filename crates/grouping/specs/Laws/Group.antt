-- On a true board a slot tells of its chain what the rules say of it.
use Rattle.std.specs.Prelude.{◌≡◌, Bool, true, not, ◌&&◌, ◌≢◌, ℕ, zero, suc, ◌+◌, ◌≤◌, ◌<◌, get_or}
use Rattle.std.proofs.Math.Path.{sym, ap}
use Rattle.std.proofs.Common.{◌∙◌, ⊎_elim, arith, eq-eqb, ne_eqb}
use Rattle.std.proofs.Math.Dec.{eqb}
use Rattle.rules.specs.Sizes.{slots}
use Rattle.rules.specs.Lists.{tabulate, pick, below}
use Rattle.rules.specs.Points.{area, index}
use Rattle.rules.specs.Colours.{empty, at}
use Rattle.rules.specs.Flood.{chain, marked}
use Rattle.rules.specs.Chain.{liberty}
use Rattle.rules.specs.Tests.{in_atari}
use Rattle.rules.specs.Answers as answers
use Rattle.rules.proofs.Laws.Lists.{decided, not-both, equal_or_not}
use Rattle.sets.specs.Liberties.{has}
use Rattle.board.specs.declared.goban.Board.{Board}
use Rattle.board.specs.Board.{owner, chain_in, colour_at, colours_of}
use Rattle.board.specs.True.{TrueBoard}
use Rattle.board.specs.Laws.Board.{at-colours}
use Rattle.board.specs.Laws.Views.{owned-exact, chain-size, chain-liberties, origin-marked, origin-least, owned-on, owned-stone, liberty-has}
use Rattle.queries.specs.Goban.{no_test}
use Rattle.grouping.specs.Group.{first, no_chain, chain_at, chain_of, liberty_at, told}

-- the least number that passes is the first that is picked
picked_first :
    (f : ℕ → Bool) (i n k : ℕ) → i ≤ k → k < i + n → f k ≡ true → ((q : ℕ) → f q ≡ true → k ≤ q) →
    get_or (pick f (tabulate (λ j. j) i n)) 0 0 ≡ k
picked_first f i zero k from to t least = absurd (omega arith)
picked_first f i (suc n) k from to t least =
    ⊎_elim (λ u. let l = least i u in let e : i ≡ k = omega arith in rw u e)
    (λ u.
    rw u
    (picked_first f (suc i) n k
    (⊎_elim (λ (e : i ≡ k). absurd (not-both t (ap f (sym e) ∙ u))) (λ (a : i ≢ k). omega arith) (equal_or_not i k))
    (omega arith) t least))
    (decided (f i))

module _ (b : Board) (is : TrueBoard b) (p : ℕ) (n : owner b p ≢ slots) where
  pub first-origin : first b.height b.width (colours_of b) p ≡ (chain_in b (owner b p)).origin
  unfolding first below
  first-origin =
      let o = (chain_in b (owner b p)).origin in
      let on = origin_on in
      picked_first (marked (chain b.height b.width (colours_of b) p)) 0 (area b.height b.width) o (omega arith) (omega arith)
      (origin-marked b is p n) (origin-least b is p n)
    where
      origin_on : (chain_in b (owner b p)).origin < area b.height b.width
      origin_on = owned-on b is (chain_in b (owner b p)).origin (λ z. n (sym (owned-exact b is p n).origin ∙ z))

  pub told-chain : told (chain_in b (owner b p)) ≡ chain_at b.height b.width (colours_of b) p
  unfolding told chain_at in_atari colour_at
  told-chain =
      let colours = sym (at-colours b is.table p) in
      let sizes = sym (chain-size b is p n) in
      let breaths = sym (chain-liberties b is p n) in
      let origins = sym first-origin in
      λ i.
      record {
        answer = answers.number answers.Accepted;
        present = true;
        colour = colours i;
        stones = sizes i;
        liberties = breaths i;
        atari = eqb (breaths i) 1;
        origin = origins i;
      }

-- ---- What the queries tell

module _ (b : Board) (r c : ℕ) where
  pub chain_of-none : at (colours_of b) (index b.width r c) ≡ empty → chain_of b r c ≡ no_chain (answers.number answers.Accepted)
  unfolding chain_of
  chain_of-none e = rw (eq-eqb _ empty e)

  pub liberty_at-none :
      (r' c' : ℕ) → at (colours_of b) (index b.width r c) ≡ empty → liberty_at b r c r' c' ≡ no_test (answers.number answers.Accepted)
  unfolding liberty_at no_test
  liberty_at-none r' c' e = rw (eq-eqb (at (colours_of b) (index b.width r c)) empty e)

  module _ (is : TrueBoard b) (s : ℕ) (under : s < slots) (owns : owner b (index b.width r c) ≡ s) where
    found-owned : owner b (index b.width r c) ≢ slots
    found-owned z = let e : s ≡ slots = sym owns ∙ z in omega arith

    pub chain_of-told : told (chain_in b s) ≡ chain_of b r c
    unfolding chain_of
    chain_of-told =
        ap (λ (t : ℕ). told (chain_in b t)) (sym owns) ∙ told-chain b is (index b.width r c) found-owned
        ∙ rw (ne_eqb (at (colours_of b) (index b.width r c)) empty (owned-stone b is (index b.width r c) found-owned))

    pub liberty-told :
        (q : ℕ) → q < area b.height b.width →
        has (chain_in b s).liberties q
        ≡ (not (eqb (at (colours_of b) (index b.width r c)) empty)
        && liberty b.height b.width (colours_of b) (chain b.height b.width (colours_of b) (index b.width r c)) q)
    liberty-told q on =
        ap (λ (t : ℕ). has (chain_in b t).liberties q) (sym owns)
        ∙ liberty-has b is (index b.width r c) found-owned q on
        ∙ rw (ne_eqb (at (colours_of b) (index b.width r c)) empty (owned-stone b is (index b.width r c) found-owned))
