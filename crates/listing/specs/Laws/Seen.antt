-- Laws of Seen: on a true board the tests on its view are the rules' tests on its colours.
use Rattle.std.specs.Prelude.{◌≡◌, Bool, false, List, ◌≢◌, ℕ, ◌<◌}
use Rattle.std.proofs.Math.Path.{refl, sym, ap, ap₂}
use Rattle.std.proofs.Common.{◌∙◌, arith}
use Rattle.std.proofs.Math.Bool.{true, not, ◌&&◌}
use Rattle.std.proofs.Math.Dec.{eqb}
use Rattle.std.proofs.Math.ListN.{get_or}
use borrow.Author.Tests.{eqb-true, eqb-false, not-true}
use Rattle.rules.specs.Sizes.{max_area, slots}
use Rattle.rules.specs.Lists.{any, pick, below, has}
use Rattle.rules.specs.Colours.{empty, at}
use Rattle.rules.specs.Points.{area, index, neighbours}
use Rattle.rules.specs.Flood.{chain, marked}
use Rattle.rules.specs.Chain.{liberty, leads}
use Rattle.rules.proofs.Laws.Lists.{below-mem, any_same, pick_same}
use Rattle.rules.proofs.Laws.Points.{index_on, neighbours-on}
use Rattle.board.specs.declared.goban.Board.{Board}
use Rattle.board.specs.Board.{owner, colours_of}
use Rattle.board.specs.True.{TrueBoard}
use Rattle.board.specs.Laws.Board.{area-fits, at-colours, stone-owned}
use Rattle.board.specs.Laws.Views.{leads-origin}
use Rattle.viewing.specs.declared.shows.Local.{Local}
use Rattle.viewing.specs.declared.shows.Local.TheVariants.{Chain, Liberties, Points, Stones, Empties, Chains}
use Rattle.viewing.specs.declared.shows.Question as asks
use Rattle.viewing.specs.declared.shows.Question.TheVariants as questions
use Rattle.viewing.specs.View.{lead_at, view_of}
use Rattle.viewing.specs.Seen.{key_of, meets, near, passed, OnBoard}
use Rattle.listing.specs.Lists.{stone, shown_at, shown, listed}
use Rattle.viewing.specs.Laws.View.{view-colour, view-lead, marked-lead, leads-lead}

-- ---- On a true board

-- the second test matters only where the first passes
and_same : (a : Bool) {b s t : Bool} → b ≡ a → (a ≡ true → s ≡ t) → b && s ≡ a && t
and_same true {b} {s} {t} same e = ap (λ (x : Bool). x && s) same ∙ e refl
and_same false {b} {s} {t} same e = ap (λ (x : Bool). x && s) same

module _ (b : Board) (is : TrueBoard b) where
  abbrev h : ℕ
  h = b.height

  abbrev w : ℕ
  w = b.width

  abbrev cols : List ℕ
  cols = colours_of b

  on-all : {q : ℕ} → q < area h w → q < max_area
  on-all l = omega (arith, area-fits is.table.size)

  empty-seen : (q : ℕ) → q < area h w → eqb (at (view_of b).colours q) empty ≡ eqb (at cols q) empty
  empty-seen q l = ap (λ (c : ℕ). eqb c empty) (view-colour b is q (on-all l))

  stone-seen : (q : ℕ) → q < area h w → not (eqb (at (view_of b).colours q) empty) ≡ stone h w cols q
  unfolding stone
  stone-seen q l = ap not (empty-seen q l)

  owned : (p : ℕ) → stone h w cols p ≡ true → owner b p ≢ slots
  unfolding stone
  owned p t = stone-owned b is.table p (λ e. eqb-false (at cols p) empty (not-true _ t) (at-colours b is.table p ∙ e))

  -- a stone of p's chain, by the view's leads
  lead-seen : (p q : ℕ) → p < area h w → q < area h w → owner b p ≢ slots
      → eqb (get_or (view_of b).leads p 0) (get_or (view_of b).leads q 0) ≡ marked (chain h w cols p) q
  lead-seen p q on on' n = rw (view-lead b is p (on-all on), view-lead b is q (on-all on')) (sym (marked-lead b is p q n))

  -- the chain of p touches the point q
  meets-chain : (p q : ℕ) → p < area h w → owner b p ≢ slots
      → meets h w (view_of b).leads true q (get_or (view_of b).leads p 0) ≡ any (marked (chain h w cols p)) (neighbours h w q)
  unfolding meets key_of
  meets-chain p q on n = any_same _ _ (neighbours h w q) (λ r m. lead-seen p r on (neighbours-on h w q r m) n)

  meets-point : (p q : ℕ) → meets h w (view_of b).leads false p q ≡ has (neighbours h w p) q
  unfolding meets key_of has
  meets-point p q = refl

  pub near-shown : (p : ℕ) (local : Local) (q : ℕ) → p < area h w → q < area h w
      → near h w (view_of b).colours (view_of b).leads p local q ≡ shown_at h w cols p local q
  unfolding liberty
  near-shown p Chain q on on' = and_same (stone h w cols p) (stone-seen p on) (λ t. lead-seen p q on on' (owned p t))
  near-shown p Liberties q on on' =
      and_same (stone h w cols p) (stone-seen p on) (λ t. ap₂ ◌&&◌ (empty-seen q on') (meets-chain p q on (owned p t)))
  near-shown p Points q on on' = meets-point p q
  near-shown p Stones q on on' = ap₂ ◌&&◌ (stone-seen q on') (meets-point p q)
  near-shown p Empties q on on' = ap₂ ◌&&◌ (empty-seen q on') (meets-point p q)
  near-shown p Chains q on on' =
      and_same (leads h w cols q) (ap (λ (o : ℕ). eqb o q) (view-lead b is q (on-all on')) ∙ sym (leads-lead b is q on'))
      (λ t.
      let (n, e) = (leads-origin b is q).0 t in
      let o : q ≡ get_or (view_of b).leads q 0 = sym (view-lead b is q (on-all on') ∙ eqb-true (lead_at b q) q (sym (leads-lead b is q on') ∙ t)) in
      ap (meets h w (view_of b).leads true p) o ∙ meets-chain q p on' n)

  pub passed-shown : (question : asks.Question) (q : ℕ) → OnBoard h w question → q < area h w
      → passed h w (view_of b).colours (view_of b).leads question q ≡ shown h w cols question q
  passed-shown questions.Stones q at-point on = stone-seen q on
  passed-shown (questions.Coloured c) q at-point on = ap (λ (x : ℕ). eqb x c) (view-colour b is q (on-all on))
  passed-shown (questions.At r c local) q at-point on = near-shown (index w r c) local q (index_on at-point.0 at-point.1) on

  -- the list by the view is the list by the rules
  pub passed-listed : (question : asks.Question) → OnBoard h w question
      → pick (passed h w (view_of b).colours (view_of b).leads question) (below (area h w)) ≡ listed h w cols question
  unfolding listed
  passed-listed question at-point = pick_same _ _ (below (area h w)) (λ q m. passed-shown question q at-point (below-mem (area h w) q m))
