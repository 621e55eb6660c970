-- Laws of Legals: a point is legal as the rules say exactly if what is told of it, with what the records hold, accepts.
use Rattle.std.specs.Prelude.{Bool, not, ◌&&◌, List, ◌≡◌, ℕ, ◌≤◌, ◌<◌, length}
use Rattle.std.proofs.Math.Bool.{true, false, cond}
use Rattle.std.proofs.Math.Logic.{⊎_elim}
use Rattle.std.proofs.Math.Path.{refl, sym, ap}
use Rattle.std.proofs.Common.{◌∙◌}
use Rattle.std.proofs.Math.Dec.{eqb}
use borrow.Author.Tests.{eqb-true, eq-eqb}
use Rattle.rules.specs.Lists.{any}
use Rattle.rules.specs.Points.{area, row, column}
use Rattle.rules.specs.Colours.{empty, other, at}
use Rattle.rules.specs.Tests.{eye}
use Rattle.rules.specs.Records.{recorded}
use Rattle.rules.specs.Answers as answers
use Rattle.rules.specs.Answers.{number, accepts, refuse}
use Rattle.rules.specs.Calls.{flags_answer, list_answer, resulting, point_answer}
use Rattle.rules.proofs.Laws.Lists.{decided, not-both}
use Rattle.rules.proofs.Laws.Calls.{then-second}
use Rattle.listing.specs.Lists.{length_answer}
use Rattle.rules.proofs.Laws.Answers.{accepts-zero}
use Rattle.listing.specs.Laws.Answers.{length-enough}
use Rattle.board.specs.Board.{colours_of}
use Rattle.board.specs.True.{TrueBoard}
use Rattle.looking.specs.declared.look.Seen.{Seen}
use Rattle.legality.specs.declared.near.Near.{Near}
use Rattle.legality.specs.Near.{besides, saves, catches_more, caught}
use Rattle.looking.specs.Seen.{seen_of, near_in}
use Rattle.looking.specs.Laws.Sight.{sight-at}
use Rattle.game.specs.declared.state.Game.{Game}
use Rattle.game.specs.View.{turn_of, view_of, TrueState, RoomIn}
use Rattle.checking.specs.declared.spot.Spot.TheVariants.{Stone, Empty}
use Rattle.checking.specs.Told.{Told, Answer, at_ko, told_of, told_near, settled, undecided}
use Rattle.checking.specs.Spot.{spot_of}
use Rattle.checking.specs.Asking.{Asking, Repeating}
use Rattle.checking.specs.Laws.Spot.{spot-of}
use Rattle.checking.specs.Laws.Near.{read-near, read-colours, own-eye}
use Rattle.checking.specs.Laws.Asking.{stone-answer, empty-answer, told-forbidden, told-repeating}
use Rattle.legals.specs.Legals.{told_at, refused}

-- ---- As it is told

pub told-empty :
    (h w : ℕ) (cs ls ss : List ℕ) (p own ko records flags : ℕ) → at cs p ≡ empty → (n : Near) → n ≡ near_in h w cs ls ss p → (k : Bool) → k ≡ at_ko ko p →
    told_of flags (not (any (saves own) (besides n))) (k && not (any catches_more (besides n))) (eye h w cs own p) (any (caught (other own)) (besides n)) records
    ≡ told_at h w cs ls ss p own ko records flags
unfolding told_at told_near
told-empty h w cs ls ss p own ko records flags e n near k at-ko =
    (λ i.
    told_of flags (not (any (saves own) (besides (near i)))) (at-ko i && not (any catches_more (besides (near i)))) (eye h w cs own p)
    (any (caught (other own)) (besides (near i))) records)
    ∙ sym
    (ap (λ (b : Bool). cond b (told_near flags (near_in h w cs ls ss p) cs h w own ko records p) (Answer answers.PointNotEmpty))
    (eq-eqb (at cs p) empty e))

-- ---- A point of a true board

module _ (g : Game) (is : TrueBoard g.board) (flags p : ℕ) (on : p < area g.board.height g.board.width)
    (s : Seen) (read : s ≡ seen_of g.board.height g.board.width (colours_of g.board)) (own : ℕ) (mover : own ≡ turn_of g.turn)
    (t : Told) (told : t ≡ told_at g.board.height g.board.width s.colours s.liberties s.stones p own g.ko g.records flags) where
  abbrev h : ℕ
  h = g.board.height

  abbrev w : ℕ
  w = g.board.width

  abbrev cols : List ℕ
  cols = colours_of g.board

  -- what the tests tell, if the point is empty
  abbrev tests : Told
  tests = told_near flags (near_in h w s.colours s.liberties s.stones p) s.colours h w own g.ko g.records p

  eyed : eye h w s.colours own p ≡ eye h w cols (turn_of g.turn) p
  eyed = own-eye g p is _ (read-colours g.board is s read) own mover

  by-colour : (free : Bool) → eqb (at cols p) empty ≡ free → t ≡ cond free tests (Answer answers.PointNotEmpty)
  unfolding told_at
  by-colour free e =
      let shown : at s.colours p ≡ at cols p = sight-at g.board is _ (read-colours g.board is s read) p in
      told ∙ ap (λ (b : Bool). cond b tests (Answer answers.PointNotEmpty)) (ap (λ (k : ℕ). eqb k empty) shown ∙ e)

  spot-by : (free : Bool) → eqb (at cols p) empty ≡ free → spot_of h w cols (row w p) (column w p) ≡ cond free (Empty p) Stone
  spot-by free e = spot-of h w cols p on ∙ ap (λ (b : Bool). cond b (Empty p) Stone) e

  module _ (bytes : List ℕ) where
    abbrev again : Bool
    again = recorded bytes g.records (resulting (view_of g) p)

    legal-told : number (point_answer (view_of g) bytes flags (row w p) (column w p)) ≡ settled t again
    unfolding number told_near
    legal-told =
        ⊎_elim
        (λ y.
        sym (empty-answer g bytes flags (row w p) (column w p) _ refl p (spot-by true y))
        ∙ sym (told-forbidden g flags p _ (read-near g.board is s read p) own mover _ refl _ eyed t (by-colour true y) bytes))
        (λ n.
        sym (stone-answer g bytes flags (row w p) (column w p) _ refl (spot-by false n))
        ∙ sym (ap (λ (x : Told). settled x again) (by-colour false n)))
        (decided (eqb (at cols p) empty))

    pub legal-settled : eqb (settled t again) 0 ≡ accepts (point_answer (view_of g) bytes flags (row w p) (column w p))
    unfolding accepts
    legal-settled = ap (λ (n : ℕ). eqb n 0) (sym legal-told)

  pub legal-repeating : (n : ℕ) → TrueState g → RoomIn g n → undecided t ≡ true → Repeating g n p
  unfolding told_near
  legal-repeating n state room e =
      ⊎_elim
      (λ y.
      let asking : Asking g n p = record { state = state; room = room; on = on; empty = eqb-true (at cols p) empty y } in
      told-repeating g flags p _ (read-near g.board is s read p) own mover _ refl _ eyed t (by-colour true y) n asking e)
      (λ f. absurd (not-both e (ap undecided (by-colour false f))))
      (decided (eqb (at cols p) empty))

-- ---- The refusals

-- what the code refuses is what the rules refuse
pub list-refused : (g : Game) (flags : ℕ) (buffer : List ℕ) → refused g.board.height g.board.width flags (length buffer) ≡ list_answer (view_of g) flags buffer
unfolding refused length_answer list_answer view_of
list-refused g flags buffer = refl

pub refused-enough : (h w flags n : ℕ) → number (refused h w flags n) ≡ 0 → area h w ≤ n
unfolding refused
refused-enough h w flags n e = length-enough h w n (then-second (flags_answer flags) (length_answer h w n) (accepts-zero _ e))
