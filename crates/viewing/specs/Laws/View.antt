-- Laws of View: what is read from the arrays is what the view says; and on a true board it says what the rules say of the colours.
use Rattle.std.specs.Prelude.{◌≡◌, Bool, cond, ◌≢◌, ℕ, ◌+◌, ◌≤◌, ◌<◌, eqb, ltb, length}
use Rattle.std.proofs.Math.Path.{sym, ap}
use Rattle.std.proofs.Common.{◌∙◌}
use Rattle.std.proofs.Math.Logic.{⊎_elim}
use native.Mathlib.Omega.{arith}
use Rattle.std.proofs.Math.ListN.{get_or, get_or-eq_default}
use borrow.Author.Tests.{lt-ltb, le-ltb, ltb-true, ltb-false, eq-eqb, eqb-true}
use Rattle.rules.specs.Sizes.{max_area, slots}
use Rattle.rules.specs.Lists.{tabulate}
use Rattle.rules.specs.Colours.{empty, at}
use Rattle.rules.specs.Points.{area}
use Rattle.rules.specs.Flood.{chain, marked}
use Rattle.rules.specs.Chain.{leads}
use Rattle.rules.proofs.Laws.Lists.{decided, get_d_default, get_or-tabulate-zero, get_or-tabulate-beyond}
use Rattle.rules.proofs.Laws.Colours.{at-beyond}
use Rattle.chains.specs.declared.group.Chain.{Chain}
use Rattle.chains.specs.Group.{free_chain}
use Rattle.rules.proofs.Laws.Places.{tabulate-ext}
use Rattle.board.specs.declared.goban.Board.{Board}
use Rattle.board.specs.Board.{owner, chain_in, colour_at, colours_of}
use Rattle.board.specs.True.{TrueBoard}
use Rattle.board.specs.Laws.Board.{area-fits, length-colours, at-colours}
use Rattle.rules.proofs.Laws.Lists.{same_answer}
use Rattle.board.specs.Laws.Views.{owned-exact, owned-on, chain-owner, leads-origin}
use Rattle.viewing.specs.View.{lead_in, lead_at, view_of}

-- ---- The lead of a slot

lead_in-used : (b : Board) (s : ℕ) → s < slots → lead_in b s ≡ (chain_in b s).origin
unfolding lead_in
lead_in-used b s l = ap (λ (t : Bool). cond t (chain_in b s).origin max_area) (lt-ltb s slots l)

lead_in-none : (b : Board) (s : ℕ) → slots ≤ s → lead_in b s ≡ max_area
unfolding lead_in
lead_in-none b s l = ap (λ (t : Bool). cond t (chain_in b s).origin max_area) (le-ltb s slots l)

-- ---- What is read, the owner o of the point q first

module _ (b : Board) (q o : ℕ) (e : o ≡ get_or b.owners q 0) (on : q < length b.owners) (long : length b.chains ≡ slots) where
  owner-read : owner b q ≡ o
  unfolding owner
  owner-read = get_d_default b.owners q slots 0 on ∙ sym e

  pub view-chained :
      (past : Chain) → o < slots → ((get_or b.chains o past).colour ≡ colour_at b q) × ((get_or b.chains o past).origin ≡ lead_at b q)
  unfolding chain_in colour_at lead_at
  view-chained past l =
      let same : get_or b.chains o past ≡ chain_in b o = get_d_default b.chains o past free_chain (omega arith) in (
        ap (λ x. x.colour) same ∙ ap (λ (s : ℕ). (chain_in b s).colour) (sym owner-read),
        ap (λ x. x.origin) same ∙ sym (lead_in-used b o l) ∙ ap (lead_in b) (sym owner-read),
      )

  pub view-free : slots ≤ o → (empty ≡ colour_at b q) × (max_area ≡ lead_at b q)
  unfolding chain_in colour_at lead_at free_chain
  view-free l =
      let free : free_chain ≡ chain_in b o = sym (get_or-eq_default b.chains free_chain (omega arith)) in (
        ap (λ x. x.colour) free ∙ ap (λ (s : ℕ). (chain_in b s).colour) (sym owner-read),
        sym (lead_in-none b o l) ∙ ap (lead_in b) (sym owner-read),
      )

-- ---- On a true board

module _ (b : Board) (is : TrueBoard b) where
  pub view-colour : (q : ℕ) → q < max_area → at (view_of b).colours q ≡ at (colours_of b) q
  unfolding view_of at
  view-colour q l = get_or-tabulate-zero (colour_at b) max_area q empty l ∙ sym (at-colours b is.table q)

  -- also beyond
  pub view-paints : (q : ℕ) → at (view_of b).colours q ≡ at (colours_of b) q
  unfolding view_of at
  view-paints q =
      ⊎_elim (λ t. view-colour q (ltb-true q max_area t))
      (λ f.
      let off = ltb-false q max_area f in
      let fits = area-fits is.table.size in
      get_or-tabulate-beyond (colour_at b) 0 max_area q empty off
      ∙ sym (at-beyond (colours_of b) q (rw (length-colours b) (omega arith))))
      (decided (ltb q max_area))

  pub view-lead : (q : ℕ) → q < max_area → get_or (view_of b).leads q 0 ≡ lead_at b q
  unfolding view_of
  view-lead q l = get_or-tabulate-zero (lead_at b) max_area q 0 l

  lead-owned : (p : ℕ) → owner b p ≢ slots → lead_at b p ≡ (chain_in b (owner b p)).origin
  unfolding lead_at
  lead-owned p n = let (on, under, y) = is.table.owned p n in lead_in-used b (owner b p) under

  -- what has a lead has an owner
  lead-owner : (p : ℕ) → lead_at b p < max_area → owner b p ≢ slots
  unfolding lead_at
  lead-owner p l e = let nowhere : lead_in b (owner b p) ≡ max_area = lead_in-none b (owner b p) (omega arith) in omega arith

  lead-on : (p : ℕ) → owner b p ≢ slots → lead_at b p < max_area
  lead-on p n =
      let o = (owned-exact b is p n).origin in
      let on = owned-on b is (chain_in b (owner b p)).origin (λ z. n (sym o ∙ z)) in
      omega (arith, lead-owned p n, area-fits is.table.size)

  -- a chain is told by its least point
  pub marked-lead :
      (p q : ℕ) → owner b p ≢ slots → marked (chain b.height b.width (colours_of b) p) q ≡ eqb (lead_at b p) (lead_at b q)
  unfolding lead_at
  marked-lead p q n =
      same_answer (λ m. eq-eqb (lead_at b p) (lead_at b q) (sym (ap (lead_in b) ((chain-owner b is p n q).0 m))))
      (λ t.
      let e : lead_at b p ≡ lead_at b q = eqb-true _ _ t in
      let m : owner b q ≢ slots = lead-owner q (omega (arith, lead-on p n)) in
      let o : (chain_in b (owner b q)).origin ≡ (chain_in b (owner b p)).origin = sym (lead-owned q m) ∙ sym e ∙ lead-owned p n in
      (chain-owner b is p n q).1 (sym (owned-exact b is q m).origin ∙ ap (owner b) o ∙ (owned-exact b is p n).origin))

  pub leads-lead : (q : ℕ) → q < area b.height b.width → leads b.height b.width (colours_of b) q ≡ eqb (lead_at b q) q
  leads-lead q on =
      same_answer (λ t. let (n, e) = (leads-origin b is q).0 t in eq-eqb (lead_at b q) q (lead-owned q n ∙ e))
      (λ t.
      let e : lead_at b q ≡ q = eqb-true _ _ t in
      let n : owner b q ≢ slots = lead-owner q (omega (arith, area-fits is.table.size)) in
      (leads-origin b is q).1 (n, sym (lead-owned q n) ∙ e))

  pub view-colours : tabulate (λ i. get_or (view_of b).colours i 0) 0 (area b.height b.width) ≡ colours_of b
  unfolding view_of colours_of
  view-colours =
      tabulate-ext (λ i. get_or (view_of b).colours i 0) (colour_at b) 0 (area b.height b.width)
      (λ k l. get_or-tabulate-zero (colour_at b) max_area (0 + k) 0 (omega (arith, area-fits is.table.size)))
