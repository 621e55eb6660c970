-- Joining two chains keeps the table exact: the stones of the one slot go over to the other, no colour changes, the two rings are one,
-- and the liberties are those of both.
use Rattle.std.specs.Prelude.{Bool, false, cond, ◌&&◌, ◌||◌, ◌≡◌, ◌≢◌, ◌⊎◌, get_or, set}
use Rattle.std.proofs.Math.Bool.{true, or-false, and-or_distrib_left}
use Rattle.std.proofs.Math.Path.{refl, sym, ap, ap₂, subst, fun_ext}
use Rattle.std.proofs.Common.{◌∙◌, inl, inr, add_comm, arith, eq-eqb, ne_eqb, eqb-true}
use Rattle.std.proofs.Math.Logic.{⊎_elim, ⊎_map}
use Prim.Native.Nat.{ℕ, ◌+◌, ◌≤◌, ◌<◌}
use Rattle.std.proofs.Math.Dec.{eqb, ltb}
use Rattle.std.proofs.Math.ListN.{length-set}
use Rattle.std.proofs.Math.Seq.{get_or-set_same, get_or-set_other}
use Rattle.rules.specs.Sizes.{slots}
use Rattle.rules.specs.Lists.{tabulate, any, count, below}
use Rattle.rules.specs.Points.{area, neighbours}
use Rattle.rules.specs.Hash.{hash}
use Rattle.rules.specs.Game.{Player}
use Rattle.rules.specs.Reach.{Walk}
use Rattle.rules.proofs.Laws.Lists.{decided, not-both, equal_or_not, or_right, length-below, any-or}
use Rattle.rules.proofs.Laws.Counting.{count_most}
use Rattle.rules.proofs.Laws.Points.{neighbours-sym}
use Rattle.rules.proofs.Laws.Reach.{walk-join, walk-on, walk-reverse, walk-renamed}
use Rattle.chains.specs.declared.group.Chain.{Chain}
use Rattle.chains.specs.Group.{used, free_chain}
use Rattle.sets.specs.Liberties.{set_of, united as both}
use Rattle.sets.specs.Laws.Liberties.{set_of-ext, united-set_of}
use Rattle.chains.specs.Laws.Group.{free-unused}
use Rattle.board.specs.declared.goban.Board.{Board}
use Rattle.board.specs.Board.{owner, chain_in, colour_at, colours_of}
use Rattle.board.specs.True.{liberty_of, ExactChain, Shaped, ExactTable}
use Rattle.steps.specs.Steps.{united, join}
use Rattle.steps.specs.Links.{Ring, RingOf}
use Rattle.steps.specs.Joining.{Joining, Touching}
use Rattle.steps.specs.Laws.Either.{not-both-sum, count-sum, least-of}
use Rattle.steps.specs.Laws.Ring.{ring, length-owning, owned-within, owner-owning}
use Rattle.steps.specs.Laws.Links.{ring-last, ring-kept, rings-crossed, used-some, some-used, exact-ring}

-- ---- What the join leaves

module _ (b : Board) (t f : ℕ) where
  pub height-join : (join b t f).height ≡ b.height
  unfolding join
  height-join = refl

  pub width-join : (join b t f).width ≡ b.width
  unfolding join
  width-join = refl

  pub hash-join : (join b t f).hash ≡ b.hash
  unfolding join
  hash-join = refl

-- ---- What the join does to the owners and the slots

module _ (b : Board) (t f : ℕ) (is : Joining b t f) where
  pub owner-join : (q : ℕ) → owner (join b t f) q ≡ cond (eqb (owner b q) f) t (owner b q)
  unfolding owner join
  owner-join q = owner-owning b is.table f is.from_low is.from-used t q

  pub owner-moved : (q : ℕ) → owner b q ≡ f → owner (join b t f) q ≡ t
  owner-moved q e = owner-join q ∙ ap (λ (x : Bool). cond x t (owner b q)) (eq-eqb (owner b q) f e)

  pub owner-stayed : (q : ℕ) → owner b q ≢ f → owner (join b t f) q ≡ owner b q
  owner-stayed q n = owner-join q ∙ ap (λ (x : Bool). cond x t (owner b q)) (ne_eqb (owner b q) f n)

  pub owner-kept : (u q : ℕ) → u ≢ f → owner b q ≡ u → owner (join b t f) q ≡ u
  owner-kept u q n e = owner-stayed q (λ z. n (sym e ∙ z)) ∙ e

  pub owner-before : (u q : ℕ) → u ≢ t → owner (join b t f) q ≡ u → owner b q ≡ u
  owner-before u q n e =
      ⊎_elim (λ z. absurd (n (sym e ∙ owner-moved q z))) (λ z. sym (owner-stayed q z) ∙ e) (equal_or_not (owner b q) f)

  pub owner-either : (q : ℕ) → owner (join b t f) q ≡ t → (owner b q ≡ t) ⊎ (owner b q ≡ f)
  owner-either q e = ⊎_elim inr (λ z. inl (sym (owner-stayed q z) ∙ e)) (equal_or_not (owner b q) f)

  -- the same as tests
  owns-to : (q : ℕ) → eqb (owner (join b t f) q) t ≡ (eqb (owner b q) t || eqb (owner b q) f)
  owns-to q =
      ⊎_elim
      (λ e. eq-eqb (owner (join b t f) q) t (owner-moved q e) ∙ sym (or_right (eqb (owner b q) t) (eq-eqb (owner b q) f e)))
      (λ n.
      ap (λ (s : ℕ). eqb s t) (owner-stayed q n)
      ∙ sym (ap (λ (x : Bool). eqb (owner b q) t || x) (ne_eqb (owner b q) f n) ∙ or-false (eqb (owner b q) t)))
      (equal_or_not (owner b q) f)

  owns-other : (u q : ℕ) → u ≢ t → u ≢ f → eqb (owner (join b t f) q) u ≡ eqb (owner b q) u
  owns-other u q n m =
      ⊎_elim (λ e. eq-eqb (owner (join b t f) q) u (owner-kept u q m e) ∙ sym (eq-eqb (owner b q) u e))
      (λ z. ne_eqb (owner (join b t f) q) u (λ e. z (owner-before u q n e)) ∙ sym (ne_eqb (owner b q) u z))
      (equal_or_not (owner b q) u)

  -- ---- The slots

  pub chain-to : chain_in (join b t f) t ≡ united (chain_in b t) (chain_in b f)
  unfolding chain_in join
  chain-to =
      get_or-set_same (set b.chains f free_chain) t (united (chain_in b t) (chain_in b f)) free_chain
      (let low = is.to_low in omega (arith, length-set b.chains f free_chain, is.table.shape.chains))

  pub chain-from : chain_in (join b t f) f ≡ free_chain
  unfolding chain_in join
  chain-from =
      get_or-set_other (set b.chains f free_chain) t f (united (chain_in b t) (chain_in b f)) free_chain (λ e. is.apart (sym e))
      ∙ get_or-set_same b.chains f free_chain free_chain (let low = is.from_low in omega (arith, is.table.shape.chains))

  pub chain-other : (u : ℕ) → u ≢ t → u ≢ f → chain_in (join b t f) u ≡ chain_in b u
  unfolding chain_in join
  chain-other u n m =
      get_or-set_other (set b.chains f free_chain) t u (united (chain_in b t) (chain_in b f)) free_chain n
      ∙ get_or-set_other b.chains f u free_chain free_chain m

  pub from-free : used (chain_in (join b t f) f) ≡ false
  from-free = ap used chain-from ∙ free-unused

  pub to-used : used (chain_in (join b t f) t) ≡ true
  unfolding united
  to-used =
      ap used chain-to
      ∙ some-used (united (chain_in b t) (chain_in b f)) (let positive = used-some (chain_in b t) is.to-used in omega arith)

  pub other-used : (u : ℕ) → u ≢ t → u ≢ f → used (chain_in (join b t f) u) ≡ used (chain_in b u)
  other-used u n m = ap used (chain-other u n m)

  shape-join : Shaped (join b t f)
  unfolding join
  shape-join =
      record {
        owners = length-owning t (ring b f) b.owners ∙ is.table.shape.owners;
        links = simp length-set is.table.shape.links;
        chains = simp length-set is.table.shape.chains;
      }

  pub to-chain : ExactChain b t
  to-chain = is.table.exact t is.to_low is.to-used

  pub from-chain : ExactChain b f
  from-chain = is.table.exact f is.from_low is.from-used

  -- ---- The stones of both

  -- a point is owned by the one, by the other or by neither
  count-to :
      (q : ℕ) →
      cond (eqb (owner (join b t f) q) t) 1 0 ≡ cond (eqb (owner b q) t) 1 0 + cond (eqb (owner b q) f) 1 0
  count-to q =
      ap (λ (x : Bool). cond x 1 0) (owns-to q)
      ∙ not-both-sum (eqb (owner b q) t) (eqb (owner b q) f) (λ e. ne_eqb (owner b q) f (λ z. is.apart (sym (eqb-true (owner b q) t e) ∙ z)))

  stones-to :
      count (λ q. eqb (owner (join b t f) q) t) (below (area b.height b.width)) ≡ (chain_in b t).count + (chain_in b f).count
  stones-to =
      count-sum (λ q. eqb (owner b q) t) (λ q. eqb (owner b q) f) (λ q. eqb (owner (join b t f) q) t)
      (below (area b.height b.width)) count-to
      ∙ sym (ap₂ (λ (m n : ℕ). m + n) to-chain.counted from-chain.counted)

  -- both together have no more stones than the board has points
  pub counts-fit : (chain_in b t).count + (chain_in b f).count ≤ area b.height b.width
  counts-fit =
      omega (
        arith,
        stones-to,
        count_most (λ q. eqb (owner (join b t f) q) t) (below (area b.height b.width)),
        length-below (area b.height b.width),
      )

  -- ---- The links

  pub to-ring : RingOf b t (chain_in b t)
  to-ring = exact-ring b t is.to-used to-chain

  pub from-ring : RingOf b f (chain_in b f)
  from-ring = exact-ring b f is.from-used from-chain

  lasts-apart : (chain_in b t).last ≢ (chain_in b f).last
  lasts-apart e = is.apart (sym (ring-last to-ring) ∙ ap (owner b) e ∙ ring-last from-ring)

  link-over : get_or (join b t f).next (chain_in b t).last 0 ≡ (chain_in b f).origin
  unfolding join
  link-over =
      get_or-set_other (set b.next (chain_in b t).last (chain_in b f).origin) (chain_in b f).last (chain_in b t).last (chain_in b t).origin 0
      lasts-apart
      ∙ get_or-set_same b.next (chain_in b t).last (chain_in b f).origin 0
      (let within = owned-within b is.table t is.to_low is.to-used (chain_in b t).last (ring-last to-ring) in
      omega (arith, is.table.shape.links))

  link-home : get_or (join b t f).next (chain_in b f).last 0 ≡ (chain_in b t).origin
  unfolding join
  link-home =
      get_or-set_same (set b.next (chain_in b t).last (chain_in b f).origin) (chain_in b f).last (chain_in b t).origin 0
      (let within = owned-within b is.table f is.from_low is.from-used (chain_in b f).last (ring-last from-ring) in
      omega (arith, is.table.shape.links, length-set b.next (chain_in b t).last (chain_in b f).origin))

  link-rest : (q : ℕ) → q ≢ (chain_in b t).last → q ≢ (chain_in b f).last → get_or (join b t f).next q 0 ≡ get_or b.next q 0
  unfolding join
  link-rest q n m =
      get_or-set_other (set b.next (chain_in b t).last (chain_in b f).origin) (chain_in b f).last q (chain_in b t).origin 0 m
      ∙ get_or-set_other b.next (chain_in b t).last q (chain_in b f).origin 0 n

  -- from the lesser origin the ring goes round its own chain first
  ring-to : RingOf (join b t f) t (chain_in (join b t f) t)
  unfolding united
  ring-to =
      subst (RingOf (join b t f) t) (sym chain-to)
      (⊎_elim (λ (e : ltb (chain_in b t).origin (chain_in b f).origin ≡ true). rw e to-leads)
      (λ (e : ltb (chain_in b t).origin (chain_in b f).origin ≡ false). rw e from-leads)
      (decided (ltb (chain_in b t).origin (chain_in b f).origin)))
    where
      to-leads :
          Ring (join b t f).next (owner (join b t f)) t (chain_in b t).origin (chain_in b f).last ((chain_in b t).count + (chain_in b f).count)
      to-leads =
          rings-crossed b.next (join b t f).next is.apart to-ring from-ring link-over link-home link-rest
          (λ q. owner-kept t q is.apart) owner-moved

      from-leads :
          Ring (join b t f).next (owner (join b t f)) t (chain_in b f).origin (chain_in b t).last ((chain_in b t).count + (chain_in b f).count)
      from-leads =
          rw add_comm
          (rings-crossed b.next (join b t f).next (λ e. is.apart (sym e)) from-ring to-ring link-home link-over (λ q n m. link-rest q m n)
          owner-moved (λ q. owner-kept t q is.apart))

  -- ---- The points of the chain

  origin-to : owner (join b t f) (chain_in (join b t f) t).origin ≡ t
  origin-to = ring-to.linked 0 ring-to.some

  least-to : (p : ℕ) → owner (join b t f) p ≡ t → (chain_in (join b t f) t).origin ≤ p
  unfolding united
  least-to p e =
      subst (λ (c : Chain). c.origin ≤ p) (sym chain-to)
      (least-of (chain_in b t).origin (chain_in b f).origin p (⊎_map (to-chain.least p) (from-chain.least p) (owner-either p e)))

  liberty-to : (q : ℕ) → liberty_of (join b t f) t q ≡ (liberty_of b t q || liberty_of b f q)
  unfolding liberty_of join
  liberty-to q =
      ap₂ (λ (x y : Bool). x && y)
      (owns-other slots q (λ e. let low = is.to_low in omega arith) (λ e. let low = is.from_low in omega arith))
      (any-or (λ r. eqb (owner b r) t) (λ r. eqb (owner b r) f) (λ r. eqb (owner (join b t f) r) t) (neighbours b.height b.width q) owns-to)
      ∙ and-or_distrib_left (eqb (owner b q) slots) (any (λ r. eqb (owner b r) t) (neighbours b.height b.width q))
      (any (λ r. eqb (owner b r) f) (neighbours b.height b.width q))

  liberty-other : (u q : ℕ) → u ≢ t → u ≢ f → liberty_of (join b t f) u q ≡ liberty_of b u q
  unfolding liberty_of join
  liberty-other u q n m =
      ap₂ (λ (x : Bool) (g : ℕ → Bool). x && any g (neighbours b.height b.width q))
      (owns-other slots q (λ e. let low = is.to_low in omega arith) (λ e. let low = is.from_low in omega arith))
      (fun_ext (λ r. owns-other u r n m))

  liberties-to : (chain_in (join b t f) t).liberties ≡ set_of (liberty_of (join b t f) t)
  unfolding united
  liberties-to =
      ap (λ (c : Chain). c.liberties) chain-to
      ∙ ap₂ both to-chain.liberties from-chain.liberties
      ∙ united-set_of (liberty_of b t) (liberty_of b f)
      ∙ set_of-ext (λ q. liberty_of b t q || liberty_of b f q) (liberty_of (join b t f) t) (λ q l. sym (liberty-to q))

  -- ---- A chain in another slot is as it was: none of its points, links and liberties is touched

  exact-other : (u : ℕ) → u < slots → u ≢ t → u ≢ f → used (chain_in (join b t f) u) ≡ true → ExactChain (join b t f) u
  unfolding join
  exact-other u low n m is-used =
      record {
        colour = subst (λ (c : Chain). Player c.colour) (sym same) before.colour;
        origin = subst (λ (c : Chain). owner (join b t f) c.origin ≡ u) (sym same) (owner-kept u _ m before.origin);
        least = λ p e. subst (λ (c : Chain). c.origin ≤ p) (sym same) (before.least p (owner-before u p n e));
        connected =
            λ p e.
            subst (λ (c : Chain). Walk (neighbours b.height b.width) (owner (join b t f)) u c.origin p) (sym same)
            (walk-renamed (λ q. owner-kept u q m) (before.connected p (owner-before u p n e)));
        counted =
            ap (λ (c : Chain). c.count) same ∙ before.counted
            ∙ ap (λ (g : ℕ → Bool). count g (below (area b.height b.width))) (sym (fun_ext (λ q. owns-other u q n m)));
        linked = ring-other.linked;
        once = ring-other.once;
        last = ring-other.last;
        back = ring-other.back;
        liberties =
            ap (λ (c : Chain). c.liberties) same ∙ before.liberties
            ∙ set_of-ext (liberty_of b u) (liberty_of (join b t f) u) (λ q l. sym (liberty-other u q n m));
      }
    where
      same : chain_in (join b t f) u ≡ chain_in b u
      same = chain-other u n m

      was-used : used (chain_in b u) ≡ true
      was-used = sym (other-used u n m) ∙ is-used

      before : ExactChain b u
      before = is.table.exact u low was-used

      ring-other : RingOf (join b t f) u (chain_in (join b t f) u)
      ring-other =
          subst (RingOf (join b t f) u) (sym same)
          (ring-kept b.next (join b t f).next (exact-ring b u was-used before) (λ q. owner-kept u q m)
          (λ q e.
          link-rest q (λ i. n (sym e ∙ ap (owner b) i ∙ ring-last to-ring)) (λ i. m (sym e ∙ ap (owner b) i ∙ ring-last from-ring))))

  -- each owned point is on the board, and its slot used
  owned-join :
      (p : ℕ) → owner (join b t f) p ≢ slots →
      (p < area b.height b.width) × (owner (join b t f) p < slots) × (used (chain_in (join b t f) (owner (join b t f) p)) ≡ true)
  owned-join p n =
      ⊎_elim
      (λ e.
      let at = owner-moved p e in
      (on, subst (λ (s : ℕ). s < slots) (sym at) is.to_low, ap (λ (s : ℕ). used (chain_in (join b t f) s)) at ∙ to-used))
      (λ m.
      let at = owner-stayed p m in
      (on, subst (λ (s : ℕ). s < slots) (sym at) was.1, ap (λ (s : ℕ). used (chain_in (join b t f) s)) at ∙ still m))
      (equal_or_not (owner b p) f)
    where
      was : (p < area b.height b.width) × (owner b p < slots) × (used (chain_in b (owner b p)) ≡ true)
      was = is.table.owned p (λ e. n (owner-kept slots p (λ z. let low = is.from_low in omega arith) e))

      on : p < area b.height b.width
      on = was.0

      still : owner b p ≢ f → used (chain_in (join b t f) (owner b p)) ≡ true
      still m =
          ⊎_elim (λ e. ap (λ (s : ℕ). used (chain_in (join b t f) s)) e ∙ to-used) (λ z. other-used (owner b p) z m ∙ was.2) (equal_or_not (owner b p) t)

  -- ---- Where the two touch and have one colour, they are one chain

  module _ (meet : Touching b t f) where
    -- no point changes its colour
    pub colour-join : (q : ℕ) → colour_at (join b t f) q ≡ colour_at b q
    unfolding colour_at united
    colour-join q =
        ⊎_elim
        (λ e. ap of (owner-moved q e) ∙ ap (λ (c : Chain). c.colour) chain-to ∙ meet.colour ∙ ap was (sym e))
        (λ m.
        ap of (owner-stayed q m)
        ∙ ⊎_elim (λ e. ap of e ∙ ap (λ (c : Chain). c.colour) chain-to ∙ ap was (sym e)) (λ n. ap (λ (c : Chain). c.colour) (chain-other (owner b q) n m)) (equal_or_not (owner b q) t))
        (equal_or_not (owner b q) f)
      where
        of : ℕ → ℕ
        of s = (chain_in (join b t f) s).colour

        was : ℕ → ℕ
        was s = (chain_in b s).colour

    pub colours-join : colours_of (join b t f) ≡ colours_of b
    unfolding colours_of join
    colours-join = ap (λ (g : ℕ → ℕ). tabulate g 0 (area b.height b.width)) (fun_ext colour-join)

    -- from the origin of the one every stone of either is reached, through the two that touch
    reached :
        (p : ℕ) → owner (join b t f) p ≡ t → Walk (neighbours b.height b.width) (owner (join b t f)) t (chain_in b t).origin p
    reached p e =
        ⊎_elim (λ o. in-to (to-chain.connected p o))
        (λ o.
        walk-join (walk-on (in-to (to-chain.connected meet.to-stone meet.at-to)) meet.beside (owner-moved meet.from-stone meet.at_from))
        (walk-join (walk-reverse (neighbours-sym b.height b.width) (in-from (from-chain.connected meet.from-stone meet.at_from)))
        (in-from (from-chain.connected p o))))
        (owner-either p e)
      where
        in-to : {p q : ℕ} → Walk (neighbours b.height b.width) (owner b) t p q → Walk (neighbours b.height b.width) (owner (join b t f)) t p q
        in-to = walk-renamed (λ q. owner-kept t q is.apart)

        in-from : {p q : ℕ} → Walk (neighbours b.height b.width) (owner b) f p q → Walk (neighbours b.height b.width) (owner (join b t f)) t p q
        in-from = walk-renamed owner-moved

    exact-to : ExactChain (join b t f) t
    unfolding join united
    exact-to =
        record {
          colour = subst (λ (c : Chain). Player c.colour) (sym chain-to) to-chain.colour;
          origin = origin-to;
          least = least-to;
          connected = λ p e. walk-join (walk-reverse (neighbours-sym b.height b.width) (reached (chain_in (join b t f) t).origin origin-to)) (reached p e);
          counted = ap (λ (c : Chain). c.count) chain-to ∙ sym stones-to;
          linked = ring-to.linked;
          once = ring-to.once;
          last = ring-to.last;
          back = ring-to.back;
          liberties = liberties-to;
        }

    pub exact-join : ExactTable (join b t f)
    unfolding join
    exact-join =
        record {
          size = is.table.size;
          shape = shape-join;
          owned = owned-join;
          exact = slot;
          hashed = is.table.hashed ∙ ap hash (sym colours-join);
        }
      where
        slot : (u : ℕ) → u < slots → used (chain_in (join b t f) u) ≡ true → ExactChain (join b t f) u
        slot u low is-used =
            ⊎_elim (λ e. subst (ExactChain (join b t f)) (sym e) exact-to)
            (λ n.
            ⊎_elim (λ e. absurd (not-both is-used (ap (λ (s : ℕ). used (chain_in (join b t f) s)) e ∙ from-free)))
            (λ m. exact-other u low n m is-used)
            (equal_or_not u f))
            (equal_or_not u t)
