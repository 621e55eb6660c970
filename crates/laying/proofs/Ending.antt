-- From the stone that was put to the end, as the code goes: the points beside are the same on each board on the way, so what is joined,
-- lifted and removed is what is promised.
use Rattle.std.proofs.Common.{◌≡◌, ◌<◌, ◌∙◌, ◌&&◌, ℕ, List, [], Bool, cond, not, refl, sym, ap, ap₂, subst, get_or, eqb}
use Rattle.std.specs.Prelude.{None, Some}
use Rattle.rules.specs.Sizes.{slots}
use Rattle.rules.specs.Points.{neighbours}
use Rattle.rules.specs.Colours.{other}
use Rattle.rules.specs.Flags.{SUICIDE, forbids}
use Rattle.chains.specs.declared.group.Chain.{Chain}
use Rattle.sets.specs.Liberties.{number}
use Rattle.board.specs.declared.goban.Board.{Board}
use Rattle.board.specs.Board.{chain_in}
use Rattle.board.specs.True.{ExactTable}
use Rattle.steps.specs.Steps.{put, remove}
use Rattle.steps.specs.Putting.{Putting}
use Rattle.steps.specs.Removing.{Removing}
use Rattle.laying.specs.Laying.{Laying, LaidOut}
use Rattle.laying.specs.declared.lay.Laid as code
use Rattle.laying.specs.Lay.{Joined, join_all, dead, take_all}
use Rattle.laying.specs.Laws.Gather.{Gathered, Joinable, put-joinable, put-gathered}
use Rattle.laying.specs.Laws.Laying.{end_low, end-used, end-table, laid_out}
use Rattle.laying.proofs.Beside.{entry}

module _ (b : Board) (p c flags s : ℕ) (is : Laying b p c flags) (putting : Putting b p c s) (start : Board) (placed : start ≡ put b p c s) where
  near : List ℕ
  near = neighbours b.height b.width p

  pub joinable : Joinable start p c s
  joinable = subst (λ (x : Board). Joinable x p c s) (sym placed) (put-joinable b is.board.largest p c s putting)

  beside-start : neighbours start.height start.width p ≡ near
  unfolding put near
  beside-start = ap (λ (x : Board). neighbours x.height x.width p) placed

  module _ (whole : Board) (t : ℕ) (joined : join_all c (neighbours start.height start.width p) start s ≡ record { board = whole; slot = t }) where
    gathered : join_all c near start s ≡ record { board = whole; slot = t }
    gathered = ap (λ (qs : List ℕ). join_all c qs start s) (sym beside-start) ∙ joined

    whole-gathered : Gathered (put b p c s) p c [] whole t
    unfolding near
    whole-gathered =
        subst (λ (j : Joined). Gathered (put b p c s) p c [] j.board j.slot)
        (ap (λ (x : Board). join_all c near x s) (sym placed) ∙ gathered) (put-gathered b is.board.largest p c s putting)

    pub whole-table : ExactTable whole
    whole-table = whole-gathered.table

    pub low : t < slots
    unfolding near
    low = end_low b p c flags s is putting start placed near refl whole t gathered

    beside-whole : neighbours whole.height whole.width p ≡ near
    unfolding put near
    beside-whole = ap₂ (λ (h w : ℕ). neighbours h w p) whole-gathered.tall whole-gathered.wide

    module _ (foe : ℕ) (foe_is : foe ≡ other c) (after : Board) (stones point : ℕ)
        (takes : take_all foe (neighbours whole.height whole.width p) (record { board = whole; stones = 0; point = 0 })
        ≡ record { board = after; stones = stones; point = point }) where
      taken : take_all (other c) near (record { board = whole; stones = 0; point = 0 }) ≡ record { board = after; stones = stones; point = point }
      taken =
          ap₂ (λ (f : ℕ) (qs : List ℕ). take_all f qs (record { board = whole; stones = 0; point = 0 })) (sym foe_is) (sym beside-whole) ∙ takes

      after-exact : ExactTable after
      unfolding near
      after-exact = end-table b p c flags s is putting start placed near refl whole t gathered after stones point taken

      pub removing : Removing after t
      unfolding near
      removing = record {
        table = after-exact;
        low = low;
        is-used = end-used b p c flags s is putting start placed near refl whole t gathered after stones point taken;
      }

      pub ended :
          (d : Chain) (r : code.Laid) (gone : Bool)
          → gone ≡ not (forbids flags SUICIDE) && eqb (number (get_or after.chains t d).liberties) 0
          → r.board ≡ cond gone (remove after t) after → r.taken ≡ stones → r.lost ≡ cond gone (get_or after.chains t d).count 0
          → r.ko ≡ cond (eqb stones 1) (Some point) None → LaidOut b p c flags r
      unfolding near dead
      ended d r gone test same number_is lost ko =
          laid_out b p c flags s is putting start placed near refl whole t gathered after stones point taken r gone
          (ap (λ (x : Chain). not (forbids flags SUICIDE) && eqb (number x.liberties) 0) (sym there) ∙ sym test)
          same number_is (lost ∙ ap (λ (x : Chain). cond gone x.count 0) there) ko
        where
          there : get_or after.chains t d ≡ chain_in after t
          there = entry after after-exact d t low
