-- A stone put as a chain of its own, one point beside it after the other: what the points that are left take from the chains, and add to
-- the stone's liberties, is what all points took and added at first.
use Rattle.std.proofs.Common.{◌≡◌, ℕ, ◌≤◌, ◌<◌, List, [], ◌∷◌, length, Bool, true, false, cond, refl, sym, ap, ap₂, ◌∙◌, subst, get_or, set, bit_xor}
use Rattle.std.specs.Prelude.{eqb}
use Rattle.rules.specs.Sizes.{slots}
use Rattle.rules.specs.Points.{neighbours}
use Rattle.rules.specs.Hash.{stone_hash}
use Rattle.chains.specs.declared.group.Chain.{Chain}
use Rattle.chains.specs.Group.{new_chain}
use Rattle.sets.specs.Liberties.{none, added}
use Rattle.owning.specs.Owners.{owner_in}
use Rattle.board.specs.declared.goban.Board.{Board}
use Rattle.board.specs.Board.{owner}
use Rattle.steps.specs.Steps.{loses, gains, in_slot, losing, openings, put}
use Rattle.steps.specs.Laws.Put.{in_slot-stored, in_slot-beyond, length-losing}

-- the points that are left, of all that lie beside the stone p
pub record Passing (b₀ : Board) (p c : ℕ) (near left : List ℕ) (b : Board) (stone : Chain) : Type 0 where
  pub rest : b ≡ record b₀ { chains = b.chains }
  pub lost : losing (owner b₀) p left b.chains ≡ losing (owner b₀) p near b₀.chains
  pub lone : stone ≡ new_chain c p stone.liberties
  pub found : openings (owner b₀) left stone.liberties ≡ openings (owner b₀) near none

module _ (b₀ : Board) (p c : ℕ) (near : List ℕ) where
  pub passing-none : (stone : Chain) → stone ≡ new_chain c p none → Passing b₀ p c near near b₀ stone
  unfolding new_chain
  passing-none stone e = record {
    rest = refl;
    lost = refl;
    lone = e ∙ ap (λ (s : Chain). new_chain c p s.liberties) (sym e);
    found = ap (λ (s : Chain). openings (owner b₀) near s.liberties) e;
  }

  -- the same, of what is the same
  pub passing-cast :
      {left : List ℕ} {b b' : Board} {stone stone' : Chain} → b' ≡ b → stone' ≡ stone → Passing b₀ p c near left b stone
      → Passing b₀ p c near left b' stone'
  passing-cast {left} {b} {b'} {stone} {stone'} e f done =
      subst (λ (x : Board). Passing b₀ p c near left x stone') (sym e) (subst (λ (x : Chain). Passing b₀ p c near left b x) (sym f) done)

  pub passing-long : {left : List ℕ} {b : Board} {stone : Chain} → Passing b₀ p c near left b stone → length b.chains ≡ length b₀.chains
  passing-long {left} {b} {stone} done =
      sym (length-losing (owner b₀) p left b.chains) ∙ ap length done.lost ∙ length-losing (owner b₀) p near b₀.chains

  module _ (left : List ℕ) (b : Board) (stone : Chain) (before : List ℕ) (done : Passing b₀ p c near before b stone) where
    pub passing-same : before ≡ left → Passing b₀ p c near left b stone
    passing-same e = subst (λ (ps : List ℕ). Passing b₀ p c near ps b stone) e done

    -- one point more, which o owns
    module _ (q o : ℕ) (next : before ≡ q ∷ left) (its : o ≡ owner_in b.owners q) (more : Chain) (opened : more ≡ cond (eqb o slots) (gains q stone) stone) where
      name : o ≡ owner b₀ q
      unfolding owner owner_in
      name = its ∙ ap (λ (x : Board). get_or x.owners q slots) done.rest

      turn : (cs : List Chain) → cs ≡ in_slot (loses p) o b.chains → Passing b₀ p c near left (record b { chains = cs }) more
      unfolding gains new_chain
      turn cs changed = record {
        rest = ap (λ (x : Board). record x { chains = cs }) done.rest;
        lost =
            ap (losing (owner b₀) p left) (changed ∙ ap (λ (s : ℕ). in_slot (loses p) s b.chains) name)
            ∙ ap (λ (ps : List ℕ). losing (owner b₀) p ps b.chains) (sym next) ∙ done.lost;
        lone = opened ∙ still (eqb o slots) ∙ ap (λ (s : Chain). new_chain c p s.liberties) (sym opened);
        found =
            ap (λ (s : Chain). openings (owner b₀) left s.liberties) opened ∙ ap (openings (owner b₀) left) (libs (eqb o slots))
            ∙ ap (λ (s : ℕ). openings (owner b₀) left (cond (eqb s slots) (added stone.liberties q) stone.liberties)) name
            ∙ ap (λ (ps : List ℕ). openings (owner b₀) ps stone.liberties) (sym next) ∙ done.found;
      }
        where
          libs : (t : Bool) → (cond t (gains q stone) stone).liberties ≡ cond t (added stone.liberties q) stone.liberties
          libs true = refl
          libs false = refl

          still : (t : Bool) → cond t (gains q stone) stone ≡ new_chain c p (cond t (gains q stone) stone).liberties
          still true = ap (gains q) done.lone
          still false = done.lone

      pub passing-owned :
          (past ch : Chain) → o < length b.chains → ch ≡ loses p (get_or b.chains o past)
          → Passing b₀ p c near left (record b { chains = set b.chains o ch }) more
      passing-owned past ch low e = turn (set b.chains o ch) (ap (set b.chains o) e ∙ in_slot-stored (loses p) o b.chains past low)

      pub passing-unowned : length b.chains ≤ o → Passing b₀ p c near left b more
      passing-unowned high = turn b.chains (in_slot-beyond (loses p) o b.chains high)

  -- no point is left
  pub passing-all :
      (b : Board) (stone : Chain) → Passing b₀ p c near [] b stone → near ≡ neighbours b₀.height b₀.width p → (s x : ℕ) → x ≡ stone_hash p c
      → ◌≡◌ {A = Board} (record {
        height = b.height;
        width = b.width;
        hash = bit_xor b.hash x;
        owners = set b.owners p s;
        next = set b.next p p;
        chains = set b.chains s stone;
      }) (put b₀ p c s)
  unfolding put
  passing-all b stone done listed s x number = λ i.
      record {
        height = (done.rest i).height;
        width = (done.rest i).width;
        hash = bit_xor (done.rest i).hash (number i);
        owners = set (done.rest i).owners p s;
        next = set (done.rest i).next p p;
        chains = chains-path i;
      }
    where
      chains-path : set b.chains s stone ≡ set (losing (owner b₀) p (neighbours b₀.height b₀.width p) b₀.chains) s (new_chain c p (openings (owner b₀) (neighbours b₀.height b₀.width p) none))
      chains-path =
          ap₂ (λ (cs : List Chain) (ch : Chain). set cs s ch) done.lost (done.lone ∙ ap (new_chain c p) done.found)
          ∙ ap (λ (ps : List ℕ). set (losing (owner b₀) p ps b₀.chains) s (new_chain c p (openings (owner b₀) ps none))) listed
