-- The turns over the points beside a new stone: its chain is joined with those of its colour, then the enemy's dead are lifted. After
-- some turns the board is such that the points that are left lead to where all of them lead from the start.
use mathlib.Core.Bool.{Bool, true, false, not, ◌&&◌}
use mathlib.Core.Path.{◌≡◌, refl, sym, ap, ap₂, ◌∙◌, subst}
use mathlib.Core.List.{List, ◌∷◌, Memᴰ}
use mathlib.Core.Logic.{◌≢◌}
use Prim.Native.Nat.{ℕ, ◌+◌, ◌*◌, ◌≤◌, ◌<◌}
use native.Mathlib.Omega.{arith}
use lib.Dec.{eqb}
use lib.ListN.{get_or}
use borrow.Author.Tests.{eqb-true, eqb-false, ne_eqb, not-true}
use Rattle.rules.specs.Sizes.{max_area, slots}
use Rattle.rules.specs.Lists.{below}
use Rattle.rules.specs.Points.{area, neighbours}
use Rattle.rules.specs.Game.{Player}
use Rattle.rules.proofs.Laws.Lists.{and_left, and_right, get_d_default, length-below}
use Rattle.rules.proofs.Laws.Counting.{count_most}
use Rattle.rules.proofs.Laws.Colours.{player-stone}
use Rattle.chains.specs.declared.group.Chain.{Chain}
use Rattle.chains.specs.Group.{used, free_chain}
use Rattle.sets.specs.Liberties.{number}
use Rattle.owning.specs.Owners.{owner_in}
use Rattle.board.specs.declared.goban.Board.{Board}
use Rattle.board.specs.Board.{owner, chain_in, colour_at}
use Rattle.board.specs.True.{ExactTable}
use Rattle.board.specs.Laws.Board.{area-fits, stone-owned}
use Rattle.board.specs.Laws.Chains.{owner-colour}
use Rattle.steps.specs.Steps.{join, remove}
use Rattle.steps.specs.Joining.{Joining}
use Rattle.steps.specs.Removing.{Removing}
use Rattle.laying.specs.Lay.{join_all, dead, lifted, take_all}
use Rattle.laying.specs.Laws.Gather.{Gathered, Joinable, to-join, pass-by, join_one}
use Rattle.steps.specs.Laws.Remove.{exact-remove}

-- ---- What is read of a board

module _ (b : Board) (is : ExactTable b) where
  -- an entry of the table, whatever stands beyond it
  pub entry : (d : Chain) (s : ℕ) → s < slots → get_or b.chains s d ≡ chain_in b s
  unfolding chain_in
  entry d s low = get_d_default b.chains s d free_chain (omega (arith, is.shape.chains))

-- the owner as the array says it
pub as_owner : (b : Board) (q o : ℕ) → o ≡ owner_in b.owners q → o ≡ owner b q
unfolding owner owner_in
as_owner b q o e = e

-- a point that no chain owns has no player's colour
module _ (b : Board) (is : ExactTable b) (c : ℕ) (player : Player c) (q : ℕ) where
  unowned-other : slots ≤ owner b q → eqb (colour_at b q) c ≡ false
  unowned-other h =
      ne_eqb (colour_at b q) c
      (λ e. let (on, low, is-used) = is.owned q (stone-owned b is q (λ z. player-stone c player (sym e ∙ z))) in omega arith)

  -- so a test that begins with its colour fails
  unowned-test : slots ≤ owner b q → (t : Bool) → eqb (colour_at b q) c && t ≡ false
  unowned-test h t = rw (unowned-other h)

-- ---- Joining

-- the chain of the stone p is joined with the chains of its colour beside it but for the points that are left, and is in slot t now
pub record Gathering (start : Board) (p c s : ℕ) (left : List ℕ) (b : Board) (t : ℕ) : Type 0 where
  pub so_far : Gathered start p c left b t
  pub near : (q : ℕ) → Memᴰ q left → Memᴰ q (neighbours start.height start.width p)
  pub same : join_all c (neighbours start.height start.width p) start s ≡ join_all c left b t

module _ (start : Board) (p c s : ℕ) (is : Joinable start p c s) where
  -- the same, of what is the same
  pub gathering-cast :
      {left : List ℕ} {b b' : Board} {t t' : ℕ} → b' ≡ b → t' ≡ t → Gathering start p c s left b t → Gathering start p c s left b' t'
  gathering-cast {left} {b} {b'} {t} {t'} e f g =
      subst (λ (x : Board). Gathering start p c s left x t') (sym e) (subst (λ (x : ℕ). Gathering start p c s left b x) (sym f) g)

  pub gathering-none : (near : List ℕ) → near ≡ neighbours start.height start.width p → Gathering start p c s near start s
  gathering-none near e = rw e (record { so_far = is.gathered; near = λ q m. m; same = refl })

  module _ (left : List ℕ) (b : Board) (t : ℕ) (before : List ℕ) (done : Gathering start p c s before b t) where
    pub gathering-same : before ≡ left → Gathering start p c s left b t
    gathering-same e = subst (λ (qs : List ℕ). Gathering start p c s qs b t) e done

    module _ (q o : ℕ) (next : before ≡ q ∷ left) (its : o ≡ owner b q) where
      g : Gathering start p c s (q ∷ left) b t
      g = subst (λ (qs : List ℕ). Gathering start p c s qs b t) next done

      gathering-pass : eqb (colour_at b q) c && not (eqb (owner b q) t) ≡ false → Gathering start p c s left b t
      gathering-pass f = record {
        so_far = pass-by start p c is.player is.own q left b t g.so_far f;
        near = λ x m. g.near x (Memᴰ.tail m);
        same = g.same ∙ rw (f, join_all);
      }

      pub gathering-unowned : slots ≤ o → Gathering start p c s left b t
      gathering-unowned h = gathering-pass (unowned-test b g.so_far.table c is.player q (omega arith) (not (eqb (owner b q) t)))

      module _ (d : Chain) (low : o < slots) (test : Bool) (tested : test ≡ eqb (get_or b.chains o d).colour c && not (eqb o t)) where
        test-is : eqb (colour_at b q) c && not (eqb (owner b q) t) ≡ test
        test-is =
            sym
            (tested
            ∙ ap₂ (λ (x y : ℕ). eqb x c && not (eqb y t))
            (ap (λ (x : Chain). x.colour) (entry b g.so_far.table d o low) ∙ sym (owner-colour b o q (sym its))) its)

        pub gathering-other : test ≡ false → Gathering start p c s left b t
        gathering-other f = gathering-pass (test-is ∙ f)

        module _ (y : test ≡ true) where
          asked : eqb (colour_at b q) c && not (eqb (owner b q) t) ≡ true
          asked = test-is ∙ y

          is-own : colour_at b q ≡ c
          is-own = eqb-true (colour_at b q) c (and_left _ _ asked)

          is-apart : owner b q ≢ t
          is-apart = eqb-false (owner b q) t (not-true _ (and_right (eqb (colour_at b q) c) _ asked))

          pub gathering-joining : Joining b o t
          gathering-joining =
              subst (λ (k : ℕ). Joining b k t) (sym its) (to-join start p c is.player is.own q (q ∷ left) b t g.so_far is-own is-apart)

          pub gathering-join : (b' : Board) → b' ≡ join b o t → Gathering start p c s left b' o
          gathering-join b' e =
              subst (λ (x : Board). Gathering start p c s left x o) (sym e)
              (subst (λ (k : ℕ). Gathering start p c s left (join b k t) k) (sym its)
              (record {
                so_far = join_one start p c is.player is.own q left b t (g.near q (Memᴰ.head refl)) g.so_far is-own is-apart;
                near = λ x m. g.near x (Memᴰ.tail m);
                same = g.same ∙ rw (asked, join_all);
              }))

-- ---- Taking

-- the enemy's chains without liberty beside the stone are lifted but for the points that are left, after k turns
pub record Taking (start : Board) (foe : ℕ) (near left : List ℕ) (k : ℕ) (b : Board) (stones point : ℕ) : Type 0 where
  pub table : ExactTable b
  pub few : stones ≤ k * max_area
  pub same :
      take_all foe near (record { board = start; stones = 0; point = 0 }) ≡ take_all foe left (record { board = b; stones = stones; point = point })

module _ (start : Board) (foe : ℕ) (near : List ℕ) (player : Player foe) where
  pub taking-cast :
      {left : List ℕ} {k : ℕ} {b b' : Board} {n n' x x' : ℕ} → b' ≡ b → n' ≡ n → x' ≡ x → Taking start foe near left k b n x
      → Taking start foe near left k b' n' x'
  taking-cast {left} {k} {b} {b'} {n} {n'} {x} {x'} e f g t =
      subst (λ (y : Board). Taking start foe near left k y n' x') (sym e)
      (subst (λ (y : ℕ). Taking start foe near left k b y x') (sym f) (subst (λ (y : ℕ). Taking start foe near left k b n y) (sym g) t))

  pub taking-none : ExactTable start → Taking start foe near near 0 start 0 0
  taking-none is = record { table = is; few = omega arith; same = refl }

  module _ (left : List ℕ) (k : ℕ) (b : Board) (stones point : ℕ) (before : List ℕ) (t : Taking start foe near before k b stones point) where
    pub taking-same : before ≡ left → Taking start foe near left (k + 1) b stones point
    taking-same e = record {
      table = t.table;
      few = omega (arith, t.few);
      same = t.same ∙ ap (λ (qs : List ℕ). take_all foe qs (record { board = b; stones = stones; point = point })) e;
    }

    module _ (q o : ℕ) (next : before ≡ q ∷ left) (its : o ≡ owner b q) where
      haul-now :
          take_all foe near (record { board = start; stones = 0; point = 0 })
          ≡ take_all foe (q ∷ left) (record { board = b; stones = stones; point = point })
      haul-now = t.same ∙ ap (λ (qs : List ℕ). take_all foe qs (record { board = b; stones = stones; point = point })) next

      taking-pass : eqb (colour_at b q) foe && dead b (owner b q) ≡ false → Taking start foe near left (k + 1) b stones point
      taking-pass f = record { table = t.table; few = omega (arith, t.few); same = haul-now ∙ rw (f, take_all) }

      pub taking-unowned : slots ≤ o → Taking start foe near left (k + 1) b stones point
      taking-unowned h = taking-pass (unowned-test b t.table foe player q (omega arith) (dead b (owner b q)))

      module _ (d : Chain) (low : o < slots)
          (test : Bool) (tested : test ≡ eqb (get_or b.chains o d).colour foe && eqb (number (get_or b.chains o d).liberties) 0) where
        is-there : get_or b.chains o d ≡ chain_in b o
        is-there = entry b t.table d o low

        foe-test : eqb (colour_at b q) foe && dead b (owner b q) ≡ test
        unfolding dead
        foe-test =
            sym
            (tested
            ∙ ap (λ (x : Chain). eqb x.colour foe && eqb (number x.liberties) 0) is-there
            ∙ ap₂ (λ (x y : ℕ). eqb x foe && dead b y) (sym (owner-colour b o q (sym its))) its)

        pub taking-other : test ≡ false → Taking start foe near left (k + 1) b stones point
        taking-other f = taking-pass (foe-test ∙ f)

        module _ (y : test ≡ true) where
          foe-dead : eqb (colour_at b q) foe && dead b (owner b q) ≡ true
          foe-dead = foe-test ∙ y

          pub taking-removing : Removing b o
          taking-removing =
              let e = eqb-true (colour_at b q) foe (and_left _ _ foe-dead) in
              let (on, under, is-used) = t.table.owned q (stone-owned b t.table q (λ z. player-stone foe player (sym e ∙ z))) in
              record { table = t.table; low = low; is-used = subst (λ (u : ℕ). used (chain_in b u) ≡ true) (sym its) is-used }

          -- a chain has no more stones than the board has points
          pub taking-few : (get_or b.chains o d).count ≤ max_area
          taking-few =
              omega (
                arith,
                ap (λ (x : Chain). x.count) is-there,
                (t.table.exact o low taking-removing.is-used).counted,
                count_most (λ x. eqb (owner b x) o) (below (area b.height b.width)),
                length-below (area b.height b.width),
                area-fits t.table.size,
              )

          pub taking-take :
              (b' : Board) → b' ≡ remove b o → (x : ℕ) → x ≡ (get_or b.chains o d).origin →
              Taking start foe near left (k + 1) b' (stones + (get_or b.chains o d).count) x
          unfolding lifted
          taking-take b' e x at =
              subst (λ (z : Board). Taking start foe near left (k + 1) z (stones + (get_or b.chains o d).count) x) (sym e)
              (record {
                table = exact-remove b t.table o low taking-removing.is-used;
                few = omega (arith, t.few, taking-few);
                same =
                    haul-now
                    ∙ lift
                    ∙ ap (take_all foe left)
                    (ap₂ (λ (u : ℕ) (z : Chain). record { board = remove b u; stones = stones + z.count; point = z.origin }) (sym its)
                    (ap (chain_in b) (sym its) ∙ sym is-there)
                    ∙ ap (λ (z : ℕ). record { board = remove b o; stones = stones + (get_or b.chains o d).count; point = z }) (sym at));
              })
            where
              lift :
                  take_all foe (q ∷ left) (record { board = b; stones = stones; point = point })
                  ≡ take_all foe left (lifted q (record { board = b; stones = stones; point = point }))
              lift = rw (foe-dead, take_all)
