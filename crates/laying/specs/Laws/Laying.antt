-- What the code of laying a stone needs of the laws: the search for a free slot ends at one, and what the turns over the points beside
-- lead to is what is promised.
use Rattle.std.specs.Prelude.{Bool, true, ◌&&◌, List, ◌≢◌, ◌≡◌, ℕ, ◌+◌, ◌<◌, eqb, get_or, drop, None, Some}
use Rattle.std.proofs.Math.Bool.{cond, not}
use Rattle.std.proofs.Math.Path.{sym, ap, ap₂, subst}
use Rattle.std.proofs.Common.{◌∙◌, arith, drop_of_length-le, eq-eqb, ne_eqb}
use Rattle.std.proofs.Math.Decide.{dec_lt}
use Rattle.rules.specs.Sizes.{slots}
use Rattle.rules.specs.Points.{neighbours}
use Rattle.rules.specs.Colours.{other}
use Rattle.rules.specs.Flags.{SUICIDE, forbids}
use Rattle.rules.proofs.Laws.Lists.{get_d_default}
use Rattle.chains.specs.declared.group.Chain.{Chain}
use Rattle.chains.specs.Group.{used, free_chain, first_free}
use Rattle.chains.specs.Laws.Group.{first_free-step, first_free-at}
use Rattle.board.specs.declared.goban.Board.{Board}
use Rattle.board.specs.Board.{chain_in, colours_of}
use Rattle.board.specs.True.{ExactTable, TrueBoard}
use Rattle.board.specs.Laws.Board.{at-colours, unowned-empty}
use Rattle.board.specs.Laws.Slots.{slot-free}
use Rattle.steps.specs.Steps.{put, remove}
use Rattle.steps.specs.Putting.{Putting}
use Rattle.laying.specs.Laying.{Laying, LaidOut}
use Rattle.laying.specs.declared.lay.Laid as code
use Rattle.laying.specs.Lay.{Joined, join_all, dead, Haul, take_all, Laid, finished, lay}
use Rattle.laying.specs.Laws.Lay.{slot-low, slot-used, after-table, ends, lay-true, lay-colours, lay-taken, lay-lost, lay-ko}

-- ---- The search: what is first free from slot 0 on is first free from slot s on

module _ (b : Board) (is : TrueBoard b) (s : ℕ) (so_far : first_free 0 b.chains ≡ first_free s (drop s b.chains)) where
  pub search-low : s < slots
  search-low = elim (dec_lt s slots) [
    | yes h ↦ h
    | no h ↦ absurd (slot-free b is (so_far ∙ ap (first_free s) (drop_of_length-le b.chains {i = s} (omega (arith, is.table.shape.chains)))))
  ]

  module _ (d : Chain) where
    pub search-next : (get_or b.chains s d).count ≢ 0 → first_free 0 b.chains ≡ first_free (s + 1) (drop (s + 1) b.chains)
    unfolding used
    search-next n =
        so_far
        ∙ first_free-step b.chains s d (omega (arith, search-low, is.table.shape.chains))
        ∙ ap (λ (t : Bool). cond (not t) (first_free (s + 1) (drop (s + 1) b.chains)) (Some s)) (ne_eqb (get_or b.chains s d).count 0 n)

    pub search-found : (p c flags : ℕ) → Laying b p c flags → (get_or b.chains s d).count ≡ 0 → Putting b p c s
    unfolding used chain_in
    search-found p c flags laying e =
        record {
          table = is.table;
          on = laying.on;
          vacant = unowned-empty b is.table p (sym (at-colours b is.table p) ∙ laying.empty);
          player = laying.player;
          within = search-low;
          free =
              ap (λ (x : Chain). not (eqb x.count 0)) (get_d_default b.chains s free_chain d (omega (arith, search-low, is.table.shape.chains)))
              ∙ ap not (eq-eqb (get_or b.chains s d).count 0 e);
        }

-- the first free slot is there, and a stone may be put in it
module _ (b : Board) (p c flags : ℕ) (laying : Laying b p c flags) where
  pub free-found : first_free 0 b.chains ≢ None
  free-found = slot-free b laying.board

  pub free-putting : (s : ℕ) → first_free 0 b.chains ≡ Some s → Putting b p c s
  unfolding chain_in
  free-putting s e =
      let (k, same, is) = first_free-at 0 b.chains s e in
      let here : s ≡ k = omega (arith, same) in
      record {
        table = laying.board.table;
        on = laying.on;
        vacant = unowned-empty b laying.board.table p (sym (at-colours b laying.board.table p) ∙ laying.empty);
        player = laying.player;
        within = rw here (omega (arith, is.within, laying.board.table.shape.chains));
        free = rw here is.free;
      }

-- ---- The end: the board start has the stone, whole has it joined, after has the dead enemy lifted

module _ (b : Board) (p c flags s : ℕ) (is : Laying b p c flags) (putting : Putting b p c s)
    (start : Board) (placed : start ≡ put b p c s)
    (near : List ℕ) (beside : near ≡ neighbours b.height b.width p)
    (whole : Board) (t : ℕ) (gathered : join_all c near start s ≡ record { board = whole; slot = t }) where
  joins : join_all c (neighbours b.height b.width p) (put b p c s) s ≡ record { board = whole; slot = t }
  joins = sym (ap₂ (λ (qs : List ℕ) (x : Board). join_all c qs x s) beside placed) ∙ gathered

  pub end_low : t < slots
  end_low = subst (λ (j : Joined). j.slot < slots) joins (slot-low b is.board p c s putting)

  module _ (after : Board) (stones point : ℕ)
      (taken : take_all (other c) near (record { board = whole; stones = 0; point = 0 }) ≡ record { board = after; stones = stones; point = point }) where
    takes :
        take_all (other c) (neighbours b.height b.width p)
        (record { board = (join_all c (neighbours b.height b.width p) (put b p c s) s).board; stones = 0; point = 0 })
        ≡ record { board = after; stones = stones; point = point }
    takes =
        ap₂ (λ (qs : List ℕ) (j : Joined). take_all (other c) qs (record { board = j.board; stones = 0; point = 0 })) (sym beside) joins ∙ taken

    pub end-used : used (chain_in after t) ≡ true
    end-used =
        sym (ap₂ (λ (h : Haul) (j : Joined). used (chain_in h.board j.slot)) takes joins) ∙ slot-used b is.board p c s putting

    pub end-table : ExactTable after
    end-table = subst (λ (h : Haul). ExactTable h.board) takes (after-table b is.board p c s putting)

    abbrev keep : Bool
    keep = forbids flags SUICIDE

    abbrev steps : Laid
    steps = finished keep t (record { board = after; stones = stones; point = point })

    is-laid : lay b p c s keep ≡ steps
    unfolding lay
    is-laid = ap₂ (λ (j : Joined) (h : Haul). finished keep j.slot h) joins takes

    pub laid_out :
        (r : code.Laid) (gone : Bool) → not keep && dead after t ≡ gone → r.board ≡ cond gone (remove after t) after → r.taken ≡ stones →
        r.lost ≡ cond gone (chain_in after t).count 0 → r.ko ≡ cond (eqb stones 1) (Some point) None → LaidOut b p c flags r
    unfolding finished
    laid_out r gone test same number own ko =
        record {
          board = subst TrueBoard (sym board-is) (lay-true b is.board p c s putting flags is.allowed);
          tall = ap (λ (x : Board). x.height) board-is ∙ (ends b is.board p c s putting flags is.allowed).tall;
          wide = ap (λ (x : Board). x.width) board-is ∙ (ends b is.board p c s putting flags is.allowed).wide;
          colours = ap colours_of board-is ∙ lay-colours b is.board p c s putting flags is.allowed;
          taken = number ∙ sym (ap (λ (x : Laid). x.taken) is-laid) ∙ lay-taken b is.board p c s putting flags is.allowed;
          lost =
              own
              ∙ ap (λ (g : Bool). cond g (chain_in after t).count 0) (sym test)
              ∙ sym (ap (λ (x : Laid). x.lost) is-laid)
              ∙ lay-lost b is.board p c s putting flags is.allowed;
          ko = ko ∙ sym (ap (λ (x : Laid). x.ko_point) is-laid) ∙ lay-ko b is.board p c s putting flags is.allowed;
        }
      where
        board-is : r.board ≡ (lay b p c s keep).board
        board-is = same ∙ ap (λ (g : Bool). cond g (remove after t) after) (sym test) ∙ sym (ap (λ (x : Laid). x.board) is-laid)
