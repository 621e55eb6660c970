-- Laws of one slot judged: a flood from the origin of its chain makes the chain's tests, owners that agree on the slot and on the empty
-- points judge the chain alike, and a free slot is good.
use Rattle.std.specs.Prelude.{◌≡◌, true, false, ◌&&◌, ◌||◌, List, [], ◌∷◌}
use Rattle.std.proofs.Common.{sym, ◌∙◌, subst, arith}
use Rattle.std.proofs.Math.Path.{ap, ap₂, fun_ext}
use Rattle.std.proofs.Math.Bool.{Bool}
use Prim.Native.Nat.{ℕ, ◌-◌, ◌≤◌, ◌<◌}
use Rattle.std.proofs.Math.Dec.{eqb, ltb}
use Rattle.rules.specs.Sizes.{slots}
use Rattle.rules.specs.Lists.{any, all, count, below, same}
use Rattle.rules.specs.Points.{area, neighbours}
use Rattle.rules.specs.Flood.{flooded, marked}
use Rattle.rules.proofs.Laws.Places.{count-below-le}
use Rattle.chains.specs.declared.group.Chain.{Chain}
use Rattle.chains.specs.Group.{used}
use Rattle.chains.specs.Walk.{stepped}
use Rattle.sets.specs.Liberties.{liberty_bits, set_of, number}
use Rattle.owning.specs.Owners.{owner_in, on_ring, ring}
use Rattle.flooding.specs.Flood.{found, shore, sees, Ready, Passed, Flooded}
use Rattle.flooding.specs.Laws.Found.{shore-off}
use Rattle.board.specs.Judge.{player, counted, liberties_good, chain_good, slot_good, Lent}

module _ {h w s sum : ℕ} {next notes queue : List ℕ} {starts : List Bool} (lent : Lent h w s next starts notes queue sum) where
  pub lent-ready : (c : ℕ) → 0 < c → Ready h w s c notes queue 0 sum
  lent-ready c l = record {
    low = lent.low;
    coloured = l;
    fits = lent.fits;
    notes_long = lent.notes_long;
    queue_long = lent.queue_long;
    room = let few = count-below-le (λ p. eqb (owner_in notes p) s) (area h w) in omega (arith, lent.fits);
    hashed = lent.hashed;
  }

  -- a point that the slot owns stands on the board
  pub origin_on : (o : ℕ) → owner_in notes o ≡ s → o < area h w
  origin_on o e = lent.standing o (omega (arith, lent.low))

  module _ (chain : Chain) {c o n sum' : ℕ} {notes' queue' seen' : List ℕ} (at : o ≡ chain.origin) (is : Flooded h w s c o notes notes' queue' seen' n sum') where
    here : Flooded h w s c chain.origin notes notes' queue' seen' n sum'
    here = subst (λ (x : ℕ). Flooded h w s c x notes notes' queue' seen' n sum') at is

    pub chain-passed : Passed h w (found h w (owner_in notes) s chain.origin) c notes notes' queue' sum'
    chain-passed = here.passed

    pub chain-counted : counted h w (owner_in notes) next s chain ≡ eqb n chain.count
    unfolding counted
    chain-counted = ap (λ (x : ℕ). eqb x chain.count) (sym here.counted)

    pub chain-seen : (q : ℕ) → liberty_bits ≤ q → sees seen' q ≡ false
    chain-seen q l = is.shored q ∙ shore-off h w (owner_in notes) (found h w (owner_in notes) s o) q (omega (arith, lent.fits))

    pub chain-liberties :
        liberties_good h w (owner_in notes) next s chain ≡ (same chain.liberties (set_of (sees seen')) && ltb 0 (number chain.liberties))
    unfolding liberties_good
    chain-liberties = ap (λ (f : ℕ → Bool). same chain.liberties (set_of f) && ltb 0 (number chain.liberties)) (sym (fun_ext here.shored))

-- owners that agree on the slot and on the empty points judge its chain alike
module _ (h w : ℕ) where
  pub chain_same :
      (own own' : ℕ → ℕ) (next : List ℕ) (s : ℕ) (c : Chain) → ((p : ℕ) → eqb (own p) s ≡ eqb (own' p) s)
      → ((q : ℕ) → eqb (own q) slots ≡ eqb (own' q) slots) → chain_good h w own next s c ≡ chain_good h w own' next s c
  unfolding chain_good counted liberties_good shore found ring on_ring
  chain_same own own' next s c ours vacant = ap₂ judge (fun_ext ours) (fun_ext vacant)
    where
      judge : (ℕ → Bool) → (ℕ → Bool) → Bool
      judge mine none =
          let f : ℕ → Bool = λ p. marked (flooded (neighbours h w) mine (area h w) (c.origin ∷ [])) p in
          player c.colour
          && (mine c.origin
          && (eqb (count f (below (area h w))) c.count
          && ((all (λ k. mine (stepped next c.origin k) && (eqb k 0 || ltb c.origin (stepped next c.origin k))) (below c.count)
          && (eqb (stepped next c.origin (c.count - 1)) c.last && eqb (stepped next c.origin c.count) c.origin))
          && (same c.liberties (set_of (λ q. none q && any f (neighbours h w q))) && ltb 0 (number c.liberties)))))

-- a free slot is good, and a used one if its chain is
module _ (h w : ℕ) (own : ℕ → ℕ) (next : List ℕ) (s : ℕ) (c : Chain) where
  pub free-good : used c ≡ false → slot_good h w own next s c ≡ true
  unfolding slot_good
  free-good e = rw e

  pub used-good : used c ≡ true → slot_good h w own next s c ≡ chain_good h w own next s c
  unfolding slot_good
  used-good e = rw e
