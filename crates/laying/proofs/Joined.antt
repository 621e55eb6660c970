-- Two chains made one, as the code does it: the stones of the one are walked and given over, the two rings crossed, its slot freed. The
-- stones of both are points of the board, since the table is exact: so the walk and the two links stay among the points, and the
-- counts' sum fits.
use mathlib.Core.Path.{◌≡◌, ap, ap₂, ◌∙◌}
use mathlib.Core.List.{List}
use Prim.Native.Nat.{ℕ, ◌+◌, ◌^◌, ◌<◌}
use native.Mathlib.Omega.{arith}
use lib.ListN.{get_or, set}
use Rattle.rules.specs.Sizes.{max_area}
use Rattle.chains.specs.declared.group.Chain.{Chain}
use Rattle.chains.specs.Group.{free_chain}
use Rattle.chains.specs.Walk.{walked}
use Rattle.board.specs.declared.goban.Board.{Board}
use Rattle.board.specs.Board.{chain_in}
use Rattle.board.specs.Laws.Board.{area-fits}
use Rattle.steps.specs.Steps.{owning, united, join}
use Rattle.steps.specs.Links.{Walkable}
use Rattle.steps.specs.Joining.{Joining}
use Rattle.steps.specs.Laws.Ring.{owned-within}
use Rattle.steps.specs.Laws.Links.{ring-last}
use Rattle.steps.specs.Laws.Join.{to-ring, from-ring, counts-fit}
use Rattle.laying.proofs.Beside.{entry}

-- t and f are the slots of the two chains, d is what is read past the end of the table
module _ (b : Board) (t f : ℕ) (is : Joining b t f) (d : Chain) where
  to-entry : get_or b.chains t d ≡ chain_in b t
  to-entry = entry b is.table d t is.to_low

  from-entry : get_or b.chains f d ≡ chain_in b f
  from-entry = entry b is.table d f is.from_low

  pub joined-walk : Walkable b.next (get_or b.chains f d).origin (get_or b.chains f d).count
  joined-walk =
      rw (ap (λ (c : Chain). c.origin) from-entry, ap (λ (c : Chain). c.count) from-entry)
      (record {
        points = λ k h. owned-within b is.table f is.from_low is.from-used _ ((from-ring b t f is).linked k h);
      })

  to_last : (get_or b.chains t d).last < max_area
  to_last =
      let within = owned-within b is.table t is.to_low is.to-used (chain_in b t).last (ring-last (to-ring b t f is)) in
      omega (arith, ap (λ (c : Chain). c.last) to-entry)

  from_last : (get_or b.chains f d).last < max_area
  from_last =
      let within = owned-within b is.table f is.from_low is.from-used (chain_in b f).last (ring-last (from-ring b t f is)) in
      omega (arith, ap (λ (c : Chain). c.last) from-entry)

  pub joined-links : ((get_or b.chains t d).last < max_area) × ((get_or b.chains f d).last < max_area)
  joined-links = (to_last, from_last)

  pub joined-count : (get_or b.chains t d).count + (get_or b.chains f d).count < 2 ^ 16
  joined-count =
      omega (
        arith,
        ap (λ (c : Chain). c.count) to-entry,
        ap (λ (c : Chain). c.count) from-entry,
        counts-fit b t f is,
        area-fits is.table.size,
      )

  pub joined-all :
      (owners : List ℕ) → owners ≡ owning t (walked b.next (get_or b.chains f d).origin (get_or b.chains f d).count) b.owners →
      (next : List ℕ) →
      next
      ≡ set (set b.next (get_or b.chains t d).last (get_or b.chains f d).origin) (get_or b.chains f d).last
      (get_or b.chains t d).origin →
      (free : Chain) → free ≡ free_chain → (whole : Chain) → whole ≡ united (get_or b.chains t d) (get_or b.chains f d) →
      record {
        height = b.height;
        width = b.width;
        hash = b.hash;
        owners = owners;
        next = next;
        chains = set (set b.chains f free) t whole;
      } ≡ join b t f
  unfolding join
  joined-all owners own next linked free is_free whole is_whole =
      λ i.
      record {
        height = b.height;
        width = b.width;
        hash = b.hash;
        owners = (own ∙ ap (λ (c : Chain). owning t (walked b.next c.origin c.count) b.owners) from-entry) i;
        next =
            (linked
            ∙ ap₂ (λ (a c : Chain). set (set b.next a.last c.origin) c.last a.origin) to-entry from-entry) i;
        chains = set (set b.chains f (is_free i)) t ((is_whole ∙ ap₂ united to-entry from-entry) i);
      }
