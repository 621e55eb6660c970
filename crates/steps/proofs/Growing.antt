-- What one side of a removed stone gives to the chains beside it: the lists say what the sides and the stones that are left still give,
-- so that each turn takes the first of them.
use Rattle.std.proofs.Common.{◌≡◌, ◌≢◌, ℕ, ◌+◌, ◌<◌, ◌≤◌, List, [], length, drop, Bool, cond, refl, sym, ap, ap₂, ◌∙◌, add-one, drop-cons}
use Rattle.std.specs.Prelude.{Option, None, Some, eqb, get_or, set}
use borrow.Author.Tests.{eq-eqb, ne_eqb}
use lib.Seq.{set_out}
use Rattle.rules.specs.Sizes.{slots}
use Rattle.rules.specs.Points.{neighbours}
use Rattle.rules.specs.Lists.{present}
use Rattle.rules.proofs.Laws.Lists.{get_d_default}
use Rattle.chains.specs.declared.group.Chain.{Chain}
use Rattle.chains.specs.Group.{free_chain}
use Rattle.owning.specs.Owners.{owner_in}
use Rattle.board.specs.declared.goban.Board.{Board}
use Rattle.board.specs.Board.{owner, chain_in}
use Rattle.steps.specs.Steps.{gains, in_slot, owning, gaining, gaining_all, unhashed, remove}
use Rattle.steps.specs.Laws.Ring.{ring}

module _ (own : ℕ → ℕ) (s p : ℕ) (os : List (Option ℕ)) (k : ℕ) (d : Option ℕ) (cs : List Chain) (on : k < length os) where
  pub none-there : get_or os k d ≡ None → gaining own s p (present (drop (k + 1) os)) cs ≡ gaining own s p (present (drop k os)) cs
  none-there e = rw (add-one, drop-cons os k d, e) refl

  module _ (q t : ℕ) (there : get_or os k d ≡ Some q) (is : t ≡ own q) where
    -- the first of the sides that are left
    first : gaining own s p (present (drop k os)) cs ≡ gaining own s p (present (drop (k + 1) os)) (cond (eqb t s) cs (in_slot (gains p) t cs))
    first = rw (add-one, drop-cons os k d, there, is) refl

    pub same-there : t ≡ s → gaining own s p (present (drop (k + 1) os)) cs ≡ gaining own s p (present (drop k os)) cs
    same-there e = sym (first ∙ ap (λ (b : Bool). gaining own s p (present (drop (k + 1) os)) (cond b cs (in_slot (gains p) t cs))) (eq-eqb t s e))

    pub nobody-there : t ≢ s → length cs ≤ t → gaining own s p (present (drop (k + 1) os)) cs ≡ gaining own s p (present (drop k os)) cs
    unfolding in_slot
    nobody-there n l =
        sym (first ∙ ap (λ (b : Bool). gaining own s p (present (drop (k + 1) os)) (cond b cs (in_slot (gains p) t cs))) (ne_eqb t s n)
        ∙ ap (gaining own s p (present (drop (k + 1) os))) (set_out cs t (gains p (get_or cs t free_chain)) l))

    pub chain-there :
        (past grown : Chain) → t ≢ s → t < length cs → grown ≡ gains p (get_or cs t past)
        → gaining own s p (present (drop (k + 1) os)) (set cs t grown) ≡ gaining own s p (present (drop k os)) cs
    unfolding in_slot
    chain-there past grown n l e =
        sym (first ∙ ap (λ (b : Bool). gaining own s p (present (drop (k + 1) os)) (cond b cs (in_slot (gains p) t cs))) (ne_eqb t s n)
        ∙ ap (λ (c : Chain). gaining own s p (present (drop (k + 1) os)) (set cs t c))
        (ap (gains p) (get_d_default cs t free_chain past l) ∙ sym e))

-- the stones that are left still give to the chains of b, the board so far, what all stones give to those of b₀; nothing else has changed
pub record Growing (b₀ b : Board) (s : ℕ) (stones left : List ℕ) : Type 0 where
  pub rest : b ≡ record b₀ { chains = b.chains }
  pub chains :
      gaining_all (owner b₀) (neighbours b₀.height b₀.width) s left b.chains
      ≡ gaining_all (owner b₀) (neighbours b₀.height b₀.width) s stones b₀.chains

module _ (b₀ b : Board) (s : ℕ) (stones : List ℕ) where
  pub one-stone-more :
      (k point : ℕ) (cs : List Chain) → k < length stones → Growing b₀ b s stones (drop k stones) → point ≡ get_or stones k 0
      → cs ≡ gaining (owner_in b.owners) s point (neighbours b.height b.width point) b.chains
      → Growing b₀ (record b { chains = cs }) s stones (drop (k + 1) stones)
  unfolding owner owner_in
  one-stone-more k point cs on g is e = record {
    rest = ap (λ (x : Board). record x { chains = cs }) g.rest;
    chains =
        ap (gaining_all (owner b₀) (neighbours b₀.height b₀.width) s (drop (k + 1) stones)) (e ∙ ap (λ (x : Board). gaining (owner x) s point (neighbours x.height x.width point) b.chains) g.rest
        ∙ ap (λ (q : ℕ). gaining (owner b₀) s q (neighbours b₀.height b₀.width q) b.chains) is)
        ∙ first ∙ g.chains;
  }
    where
      first : gaining_all (owner b₀) (neighbours b₀.height b₀.width) s (drop (k + 1) stones) (gaining (owner b₀) s (get_or stones k 0) (neighbours b₀.height b₀.width (get_or stones k 0)) b.chains)
          ≡ gaining_all (owner b₀) (neighbours b₀.height b₀.width) s (drop k stones) b.chains
      first = rw (add-one, drop-cons stones k 0) refl

  -- no stone is left: with the points given up, the hash without the stones and the slot free, the chain is removed
  pub removed :
      (colour hash : ℕ) (owners ps : List ℕ) (free : Chain) → Growing b₀ b s stones [] → stones ≡ ring b₀ s → ps ≡ ring b₀ s
      → colour ≡ (chain_in b₀ s).colour → hash ≡ unhashed colour stones b.hash → owners ≡ owning slots ps b.owners → free ≡ free_chain
      → ◌≡◌ {A = Board} (record {
        height = b.height;
        width = b.width;
        hash = hash;
        owners = owners;
        next = b.next;
        chains = set b.chains s free;
      }) (remove b₀ s)
  unfolding remove
  removed colour hash owners ps free g all round same hashed owned freed = λ i.
      record {
        height = (g.rest i).height;
        width = (g.rest i).width;
        hash = hash-path i;
        owners = owners-path i;
        next = (g.rest i).next;
        chains = chains-path i;
      }
    where
      hash-path : hash ≡ unhashed (chain_in b₀ s).colour (ring b₀ s) b₀.hash
      hash-path =
          hashed ∙ ap₂ (λ (c : ℕ) (qs : List ℕ). unhashed c qs b.hash) same all
          ∙ ap (λ (x : Board). unhashed (chain_in b₀ s).colour (ring b₀ s) x.hash) g.rest

      owners-path : owners ≡ owning slots (ring b₀ s) b₀.owners
      owners-path = owned ∙ ap (λ (qs : List ℕ). owning slots qs b.owners) round ∙ ap (λ (x : Board). owning slots (ring b₀ s) x.owners) g.rest

      chains-path : set b.chains s free ≡ set (gaining_all (owner b₀) (neighbours b₀.height b₀.width) s (ring b₀ s) b₀.chains) s free_chain
      chains-path =
          ap₂ (λ (xs : List Chain) (c : Chain). set xs s c)
          (g.chains ∙ ap (λ (qs : List ℕ). gaining_all (owner b₀) (neighbours b₀.height b₀.width) s qs b₀.chains) all)
          freed
