-- Joining: the new stone's chain is joined with the chains of its colour beside it, one after the other. The invariant: each neighbour is
-- still to come, or if it has the colour, has the new stone's owner. Colours stay, and what had one owner has one owner.
use Rattle.std.specs.Prelude.{◌≡◌, refl, Bool, true, false, not, ◌&&◌, ◌≢◌, ◌⊎◌, eqb}
use Rattle.std.proofs.Math.Path.{sym, ap}
use Rattle.std.proofs.Common.{◌∙◌, subst, eqb-true, eq-eqb, ne_eqb}
use Rattle.std.proofs.Math.Bool.{cond}
use mathlib.Core.List.Memᴰ
use mathlib.Core.List.Memᴰ.{head}
use mathlib.Core.List.Memᴰ.{tail}
use mathlib.Core.List.{List, [], ◌∷◌, Memᴰ}
use Rattle.std.proofs.Math.Logic.{inl, inr, ⊎_elim}
use Prim.Native.Nat.{ℕ}
use Rattle.std.proofs.lemmas.Bool.{eqb-false, not-true}
use Rattle.rules.specs.Points.{neighbours}
use Rattle.rules.specs.Game.{Player}
use Rattle.rules.proofs.Laws.Lists.{and_left, and_right, and_both, decided, not-both, equal_or_not}
use Rattle.rules.proofs.Laws.Colours.{player-stone}
use Rattle.rules.proofs.Laws.Points.{neighbours-sym}
use Rattle.chains.specs.Group.{used}
use Rattle.board.specs.declared.goban.Board.{Board}
use Rattle.board.specs.Board.{owner, chain_in, colour_at}
use Rattle.board.specs.True.{ExactTable}
use Rattle.board.specs.Laws.Board.{stone-owned}
use Rattle.board.specs.Laws.Chains.{Largest, owner-colour}
use Rattle.steps.specs.Steps.{put, join}
use Rattle.steps.specs.Putting.{Putting}
use Rattle.steps.specs.Joining.{Joining, Touching}
use Rattle.laying.specs.Lay.{join_all}
use Rattle.steps.specs.Laws.Put.{put-exact, owner_here, owner-there, colour-put}
use Rattle.steps.specs.Laws.Join.{owner-join, owner-moved, owner-stayed, colour-join, exact-join}

-- b is the board start with the chains of the stone p joined so far; qs are the neighbours still to come
pub record Gathered (start : Board) (p c : ℕ) (qs : List ℕ) (b : Board) (s : ℕ) : Type 0 where
  pub table : ExactTable b
  pub tall : b.height ≡ start.height
  pub wide : b.width ≡ start.width
  pub colours : (q : ℕ) → colour_at b q ≡ colour_at start q
  pub stone : owner b p ≡ s
  pub coarser : (x y : ℕ) → owner start x ≡ owner start y → owner b x ≡ owner b y
  pub joined : (q : ℕ) → Memᴰ q (neighbours start.height start.width p) → Memᴰ q qs ⊎ (colour_at start q ≡ c → owner b q ≡ s)

-- the stone p of colour c is on the board start, in the slot s, and no neighbour is joined with it yet
pub record Joinable (start : Board) (p c s : ℕ) : Type 0 where
  pub player : Player c
  pub own : colour_at start p ≡ c
  pub gathered : Gathered start p c (neighbours start.height start.width p) start s

module _ (start : Board) (p c : ℕ) (player : Player c) (own : colour_at start p ≡ c) where
  -- the two chains that a neighbour of the colour asks to join
  pub to-join :
      (q : ℕ) (qs : List ℕ) (b : Board) (s : ℕ) → Gathered start p c qs b s → colour_at b q ≡ c → owner b q ≢ s → Joining b (owner b q) s
  to-join q qs b s g e n =
      let (on, low, is-used) = g.table.owned q (stone-owned b g.table q (λ z. player-stone c player (sym e ∙ z))) in
      let (on', low', is-used') = g.table.owned p (stone-owned b g.table p (λ z. player-stone c player (sym (g.colours p ∙ own) ∙ z))) in
      record {
        table = g.table;
        apart = n;
        to_low = low;
        to-used = is-used;
        from_low = rw g.stone at low';
        from-used = subst (λ (t : ℕ). used (chain_in b t) ≡ true) g.stone is-used';
      }

  -- one neighbour that needs no joining
  pub pass-by :
      (q : ℕ) (qs : List ℕ) (b : Board) (s : ℕ) → Gathered start p c (q ∷ qs) b s → eqb (colour_at b q) c && not (eqb (owner b q) s) ≡ false →
      Gathered start p c qs b s
  pass-by q qs b s g f =
      record {
        table = g.table;
        tall = g.tall;
        wide = g.wide;
        colours = g.colours;
        stone = g.stone;
        coarser = g.coarser;
        joined =
            λ r m.
            ⊎_elim
            (λ i. ⊎_elim (λ e. inr (λ k. ap (owner b) e ∙ same (ap (colour_at start) (sym e) ∙ k))) inl (Memᴰ.cases_cons i))
            inr
            (g.joined r m);
      }
    where
      same : colour_at start q ≡ c → owner b q ≡ s
      same k =
          ⊎_elim (λ o. o)
          (λ o. absurd (not-both (and_both (eq-eqb (colour_at b q) c (g.colours q ∙ k)) (ap not (ne_eqb (owner b q) s o))) f))
          (equal_or_not (owner b q) s)

  -- one neighbour whose chain is joined
  pub join_one :
      (q : ℕ) (qs : List ℕ) (b : Board) (s : ℕ) → Memᴰ q (neighbours start.height start.width p) → Gathered start p c (q ∷ qs) b s →
      colour_at b q ≡ c → owner b q ≢ s → Gathered start p c qs (join b (owner b q) s) (owner b q)
  unfolding join
  join_one q qs b s near g e n =
      record {
        table = exact-join b o s joining touching;
        tall = g.tall;
        wide = g.wide;
        colours = λ r. colour-join b o s joining touching r ∙ g.colours r;
        stone = owner-moved b o s joining p g.stone;
        coarser =
            λ x y k.
            owner-join b o s joining x ∙ ap (λ (t : ℕ). cond (eqb t s) o t) (g.coarser x y k) ∙ sym (owner-join b o s joining y);
        joined =
            λ r m.
            ⊎_elim
            (λ i. ⊎_elim (λ k. inr (λ _. ap (owner (join b o s)) k ∙ owner-stayed b o s joining q n)) inl (Memᴰ.cases_cons i))
            (λ f. inr (λ k. owner-moved b o s joining r (f k)))
            (g.joined r m);
      }
    where
      o : ℕ
      o = owner b q

      joining : Joining b o s
      joining = to-join q (q ∷ qs) b s g e n

      touching : Touching b o s
      touching =
          record {
            colour = sym (owner-colour b o q refl) ∙ e ∙ sym (g.colours p ∙ own) ∙ owner-colour b s p g.stone;
            to-stone = q;
            from-stone = p;
            at-to = refl;
            at_from = g.stone;
            beside = rw (g.tall, g.wide) (neighbours-sym start.height start.width p q near);
          }

  one_more :
      (q : ℕ) (qs : List ℕ) (b : Board) (s : ℕ) → Memᴰ q (neighbours start.height start.width p) → Gathered start p c (q ∷ qs) b s →
      ((b' : Board) (s' : ℕ) → Gathered start p c qs b' s' → Gathered start p c [] (join_all c qs b' s').board (join_all c qs b' s').slot) →
      Gathered start p c [] (join_all c (q ∷ qs) b s).board (join_all c (q ∷ qs) b s).slot
  one_more q qs b s near g rest =
      ⊎_elim
      (λ (t : eqb (colour_at b q) c && not (eqb (owner b q) s) ≡ true).
      rw (t, join_all)
      (rest (join b (owner b q) s) (owner b q)
      (join_one q qs b s near g (eqb-true _ c (and_left _ _ t)) (eqb-false _ s (not-true _ (and_right (eqb (colour_at b q) c) _ t))))))
      (λ (f : eqb (colour_at b q) c && not (eqb (owner b q) s) ≡ false).
      rw (f, join_all)
      (rest b s (pass-by q qs b s g f)))
      (decided (eqb (colour_at b q) c && not (eqb (owner b q) s)))

  pub gathered :
      (qs : List ℕ) (b : Board) (s : ℕ) → ((q : ℕ) → Memᴰ q qs → Memᴰ q (neighbours start.height start.width p)) →
      Gathered start p c qs b s → Gathered start p c [] (join_all c qs b s).board (join_all c qs b s).slot
  gathered [] b s near g = g
  gathered (q ∷ qs) b s near g =
      one_more q qs b s (near q (head refl)) g (λ b' s' g'. gathered qs b' s' (λ r m. near r (tail m)) g')

-- ---- From the stone that was put to the largest sets

module _ (b : Board) (largest : Largest b) (p c s : ℕ) (is : Putting b p c s) where
  abbrev start : Board
  start = put b p c s

  pub put-own : colour_at start p ≡ c
  put-own = colour-put is p ∙ ap (λ (t : Bool). cond t c (colour_at b p)) (eq-eqb p p refl)

  put-else : (q : ℕ) → q ≢ p → colour_at start q ≡ colour_at b q
  put-else q n = colour-put is q ∙ ap (λ (t : Bool). cond t c (colour_at b q)) (ne_eqb q p n)

  abbrev beside : List ℕ
  beside = neighbours b.height b.width p

  pub put-joinable : Joinable start p c s
  unfolding put
  put-joinable =
      record {
        player = is.player;
        own = put-own;
        gathered =
            record {
              table = put-exact is;
              tall = refl;
              wide = refl;
              colours = λ q. refl;
              stone = owner_here is;
              coarser = λ x y e. e;
              joined = λ q m. inl m;
            };
      }

  pub put-gathered : Gathered start p c [] (join_all c beside start s).board (join_all c beside start s).slot
  unfolding put
  put-gathered = gathered start p c is.player put-own beside start s (λ q m. m) put-joinable.gathered

  -- stones of one colour side by side: one of them is the new one, or both stood before
  pub gathered-largest : {b' : Board} {s' : ℕ} → Gathered start p c [] b' s' → Largest b'
  unfolding put
  gathered-largest {b'} {s'} g x y m n e =
      ⊎_elim
      (λ k. ap (owner b') k ∙ g.stone ∙ sym (near y (subst (λ (z : ℕ). Memᴰ y (nb z)) k m') (sym same ∙ ap (colour_at start) k ∙ put-own)))
      (λ k.
      ⊎_elim
      (λ l. near x (nb-sym x p (subst (λ (z : ℕ). Memᴰ z (nb x)) l m')) (same ∙ ap (colour_at start) l ∙ put-own) ∙ sym (ap (owner b') l ∙ g.stone))
      (λ l.
      g.coarser x y
      (owner-there is x k
      ∙ largest x y m' (λ z. n (g.colours x ∙ put-else x k ∙ z)) (sym (put-else x k) ∙ same ∙ put-else y l)
      ∙ sym (owner-there is y l)))
      (equal_or_not y p))
      (equal_or_not x p)
    where
      nb : ℕ → List ℕ
      nb = neighbours b.height b.width

      nb-sym : (u v : ℕ) → Memᴰ v (nb u) → Memᴰ u (nb v)
      nb-sym = neighbours-sym b.height b.width

      m' : Memᴰ y (nb x)
      m' = rw (sym g.tall, sym g.wide) m

      same : colour_at start x ≡ colour_at start y
      same = sym (g.colours x) ∙ e ∙ g.colours y

      near : (q : ℕ) → Memᴰ q (nb p) → colour_at start q ≡ c → owner b' q ≡ s'
      near q i k = ⊎_elim (λ j. absurd (Memᴰ.not-nil j)) (λ f. f k) (g.joined q i)
