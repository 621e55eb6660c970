-- What the chain table says of a stone on a true board is what the rules say of the colours: its chain is what its slot owns, with the
-- slot's count, liberties and origin; and there are as many chains as used slots.
use Rattle.std.specs.Prelude.{◌≡◌, Bool, cond, not, ◌&&◌, ◌↔◌, ◌≢◌, ltb, length}
use Rattle.std.proofs.Math.Path.{refl, sym, ap, ap₂, fun_ext}
use Rattle.std.proofs.Common.{◌∙◌, subst, arith}
use Rattle.std.proofs.Math.Bool.{true, false}
use mathlib.Core.List.{List, [], ◌∷◌}
use Rattle.std.proofs.Math.Logic.{⊎_elim}
use Prim.Native.Nat.{ℕ, ◌+◌, ◌≤◌, ◌<◌}
use Rattle.std.proofs.Math.Nat.{le_antisymm}
use Rattle.std.proofs.Math.Dec.{eqb}
use borrow.Author.Tests.{eqb-true, eqb-false, eq-eqb, ne_eqb, not-true, ltb-true, ltb-false}
use Rattle.rules.specs.Sizes.{slots}
use Rattle.rules.specs.Lists.{any, count, pick, below}
use Rattle.rules.specs.Points.{area, neighbours}
use Rattle.rules.specs.Colours.{empty, at}
use Rattle.rules.specs.Reach.{Walk}
use Rattle.rules.specs.Flood.{chain, marked}
use Rattle.rules.specs.Chain.{size, liberty, liberties, leads, chains}
use Rattle.rules.proofs.Laws.Lists.{decided, not_yes, not-both, and_left, and_right, and_both, any-yes, any_some, any_none, mem_below, below-mem, pick-mem, mem-pick, same_answer}
use Rattle.rules.proofs.Laws.Counting.{below-distinct, pick-distinct, length-pick, pigeonhole}
use Rattle.rules.proofs.Laws.Colours.{player-stone}
use Rattle.rules.proofs.Laws.Points.{neighbours-from}
use Rattle.rules.proofs.Laws.Flood.{chain_length, chain-marks}
use Rattle.chains.specs.Group.{used}
use Rattle.sets.specs.Liberties.{has, number, liberty_bits}
use Rattle.rules.proofs.Laws.Places.{count-below-zero, count-below-first, count-below-ext}
use Rattle.sets.specs.Laws.Liberties.{has-set_of, number-below}
use Rattle.board.specs.declared.goban.Board.{Board}
use Rattle.board.specs.Board.{owner, chain_in, colour_at, colours_of}
use Rattle.board.specs.True.{liberty_of, ExactChain, TrueBoard}
use Rattle.board.specs.Laws.Board.{area-fits, at-colours, empty-unowned, unowned-empty, owned-player, stone-owned}
use Rattle.board.specs.Laws.Chains.{colours-at, walk-owned, owned-walk}

-- the marks of a list, counted by their places
pub count-marked : (marks : List Bool) → count (λ m. m) marks ≡ count (marked marks) (below (length marks))
unfolding marked
count-marked [] = sym (count-below-zero (marked []))
count-marked (m ∷ marks) =
    ap (λ (n : ℕ). cond m 1 0 + n) (count-marked marks) ∙ sym (count-below-first (marked (m ∷ marks)) (length marks))

module _ (b : Board) (is : TrueBoard b) where
  -- ---- The rules see a stone where a chain owns the point

  pub empty-owner : (q : ℕ) → eqb (at (colours_of b) q) empty ≡ eqb (owner b q) slots
  empty-owner q =
      same_answer (λ t. eq-eqb (owner b q) slots (unowned-empty b is.table q (sym (at-colours b is.table q) ∙ eqb-true _ _ t)))
      (λ t. eq-eqb _ empty (at-colours b is.table q ∙ empty-unowned b is.table q (eqb-true (owner b q) slots t)))

  -- a used slot owns its origin
  pub used-origin : (s : ℕ) → s < slots → used (chain_in b s) ≡ true → owner b (chain_in b s).origin ≢ slots
  used-origin s under y z = let same : s ≡ slots = sym (is.table.exact s under y).origin ∙ z in omega arith

  -- ---- The chain of a stone

  module _ (p : ℕ) (n : owner b p ≢ slots) where
    pub owned-on : p < area b.height b.width
    owned-on = (is.table.owned p n).0

    -- the slot that owns the stone tells the truth of its chain
    pub owned-exact : ExactChain b (owner b p)
    owned-exact = let (on, under, y) = is.table.owned p n in is.table.exact (owner b p) under y

    pub owned-stone : at (colours_of b) p ≢ empty
    owned-stone e = player-stone (colour_at b p) (owned-player b is.table p n) (sym (at-colours b is.table p) ∙ e)

    -- the stones of p's chain are the points that its slot owns
    pub chain-owner : (q : ℕ) → marked (chain b.height b.width (colours_of b) p) q ≡ true ↔ owner b q ≡ owner b p
    chain-owner q = (there, back)
      where
        there : marked (chain b.height b.width (colours_of b) p) q ≡ true → owner b q ≡ owner b p
        there m =
            let v = ((chain-marks b.height b.width (colours_of b) p q).0 m).1 in
            sym (walk-owned b is.table is.largest owned-stone
            (subst (λ (f : ℕ → ℕ). Walk (neighbours b.height b.width) f (at (colours_of b) p) p q) (colours-at b is.table) v))

        back : owner b q ≡ owner b p → marked (chain b.height b.width (colours_of b) p) q ≡ true
        back e =
            (chain-marks b.height b.width (colours_of b) p q).1 (
              owned-on,
              subst (λ (f : ℕ → ℕ). Walk (neighbours b.height b.width) f (f p) p q) (sym (colours-at b is.table))
                  (owned-walk b is.table is.largest (owner b p) p q n refl e),
            )

    pub marked-owner : (q : ℕ) → marked (chain b.height b.width (colours_of b) p) q ≡ eqb (owner b q) (owner b p)
    marked-owner q =
        same_answer (λ m. eq-eqb (owner b q) (owner b p) ((chain-owner q).0 m)) (λ e. (chain-owner q).1 (eqb-true (owner b q) (owner b p) e))

    pub chain-size : size b.height b.width (colours_of b) p ≡ (chain_in b (owner b p)).count
    unfolding size
    chain-size =
        let marks = chain b.height b.width (colours_of b) p in
        count-marked marks
        ∙ ap (λ (n : ℕ). count (marked marks) (below n)) (chain_length b.height b.width (colours_of b) p)
        ∙ count-below-ext (marked marks) (λ q. eqb (owner b q) (owner b p)) (area b.height b.width) (λ q l. marked-owner q)
        ∙ sym owned-exact.counted

    -- a liberty of p's chain is one of its slot
    pub chain-liberty :
        (q : ℕ) → liberty b.height b.width (colours_of b) (chain b.height b.width (colours_of b) p) q ≡ liberty_of b (owner b p) q
    unfolding liberty liberty_of
    chain-liberty q =
        ap₂ (λ (e t : Bool). e && t) (empty-owner q)
        (ap (λ (f : ℕ → Bool). any f (neighbours b.height b.width q)) (fun_ext marked-owner))

    pub liberty-has :
        (q : ℕ) → q < area b.height b.width →
        has (chain_in b (owner b p)).liberties q ≡ liberty b.height b.width (colours_of b) (chain b.height b.width (colours_of b) p) q
    liberty-has q on =
        let fits = area-fits is.table.size in
        ap (λ (l : List ℕ). has l q) owned-exact.liberties ∙ has-set_of (liberty_of b (owner b p)) q (omega arith) ∙ sym (chain-liberty q)

    pub chain-liberties : liberties b.height b.width (colours_of b) p ≡ number (chain_in b (owner b p)).liberties
    unfolding liberties liberty_of
    chain-liberties =
        let fits = area-fits is.table.size in
        let n = area b.height b.width in
        let set = (chain_in b (owner b p)).liberties in
        let beyond : (q : ℕ) → n ≤ q → q < liberty_bits → has set q ≡ false =
        λ q off within.
        ap (λ (l : List ℕ). has l q) owned-exact.liberties ∙ has-set_of (liberty_of b (owner b p)) q within
        ∙ not_yes
        (λ t.
        let (r, m, e) = any_some (λ x. eqb (owner b x) (owner b p)) (neighbours b.height b.width q) (and_right (eqb (owner b q) slots) _ t) in
        let on = neighbours-from b.height b.width q r m in
        omega arith) in
        sym
        (number-below set n (omega arith) beyond
        ∙ count-below-ext (has set) (liberty b.height b.width (colours_of b) (chain b.height b.width (colours_of b) p)) n liberty-has)

    -- ---- Its first stone

    pub origin-marked : marked (chain b.height b.width (colours_of b) p) (chain_in b (owner b p)).origin ≡ true
    origin-marked = (chain-owner (chain_in b (owner b p)).origin).1 owned-exact.origin

    pub origin-least : (q : ℕ) → marked (chain b.height b.width (colours_of b) p) q ≡ true → (chain_in b (owner b p)).origin ≤ q
    origin-least q m = owned-exact.least q ((chain-owner q).0 m)

  -- a point leads its chain exactly if it is the origin of the slot that owns it
  pub leads-origin : (p : ℕ) → leads b.height b.width (colours_of b) p ≡ true ↔ ((owner b p ≢ slots) × ((chain_in b (owner b p)).origin ≡ p))
  unfolding leads
  leads-origin p = (there, back)
    where
      there : leads b.height b.width (colours_of b) p ≡ true → (owner b p ≢ slots) × ((chain_in b (owner b p)).origin ≡ p)
      there t =
          let marks = chain b.height b.width (colours_of b) p in
          let n : owner b p ≢ slots = stone-owned b is.table p (λ e. eqb-false (at (colours_of b) p) empty (not-true _ (and_left _ _ t)) (at-colours b is.table p ∙ e)) in
          let before : any (marked marks) (below p) ≡ false = not-true _ (and_right (not (eqb (at (colours_of b) p) empty)) _ t) in
          let o = (chain_in b (owner b p)).origin in
          let up : o ≤ p = (owned-exact p n).least p refl in
          let down : p ≤ o =
          ⊎_elim (λ l. absurd (not-both (any-yes (marked marks) (mem_below p o (ltb-true o p l)) (origin-marked p n)) before)) (ltb-false o p)
          (decided (ltb o p)) in
          (n, le_antisymm up down)

      back : (owner b p ≢ slots) × ((chain_in b (owner b p)).origin ≡ p) → leads b.height b.width (colours_of b) p ≡ true
      back (n, e) =
          and_both (ap not (ne_eqb (at (colours_of b) p) empty (owned-stone p n)))
          (ap not
          (any_none (marked (chain b.height b.width (colours_of b) p)) (below p)
          (λ q m.
          not_yes
          (λ t.
          let under = below-mem p q m in
          let least = origin-least p n q t in
          omega arith))))

  -- ---- Each used slot is one chain

  pub chains-used : chains b.height b.width (colours_of b) ≡ count (λ s. used (chain_in b s)) (below slots)
  unfolding chains
  chains-used =
      sym (length-pick first points)
      ∙ le_antisymm
      (pigeonhole (λ o s. (chain_in b s).origin ≡ o) (λ o o' s e e'. sym e ∙ e') (pick first points) (pick in_use (below slots))
      (pick-distinct first points (below-distinct (area b.height b.width)))
      (λ o m.
      let (i, t) = pick-mem first points m in
      let (n, e) = (leads-origin o).0 t in
      let (on, under, y) = is.table.owned o n in
      (owner b o, mem-pick in_use (mem_below slots (owner b o) under) y, e)))
      (pigeonhole (λ s o. owner b o ≡ s) (λ s s' o e e'. sym e ∙ e') (pick in_use (below slots)) (pick first points)
      (pick-distinct in_use (below slots) (below-distinct slots))
      (λ s m.
      let (i, y) = pick-mem in_use (below slots) m in
      let under = below-mem slots s i in
      let o = (chain_in b s).origin in
      let e = (is.table.exact s under y).origin in
      let n = used-origin s under y in
      let (on, _, _) = is.table.owned o n in
      (o, mem-pick first (mem_below _ o on) ((leads-origin o).1 (n, ap (λ (t : ℕ). (chain_in b t).origin) e)), e)))
      ∙ length-pick in_use (below slots)
    where
      points : List ℕ
      points = below (area b.height b.width)

      first : ℕ → Bool
      first = leads b.height b.width (colours_of b)

      in_use : ℕ → Bool
      in_use s = used (chain_in b s)
