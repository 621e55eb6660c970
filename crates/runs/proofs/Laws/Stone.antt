-- Laws of an accepted stone: the colours after it are those of a Tromp-Taylor move, and with SUICIDE set no own stone is cleared.
use Rattle.std.specs.Prelude.{◌≡◌, Bool, true, ℕ}
use Rattle.std.proofs.Common.{sym, ◌∙◌, eq-eqb}
use Rattle.std.proofs.Math.Path.{ap, subst}
use Rattle.std.proofs.Math.Bool.{cond}
use mathlib.Core.List.{List}
use Rattle.std.proofs.Math.Dec.{eqb}
use Rattle.rules.specs.Colours.{at}
use Rattle.rules.specs.Points.{index, neighbours}
use Rattle.rules.specs.Reach.{Move}
use Rattle.rules.specs.Move.{coloured, played}
use Rattle.rules.specs.Flags.{SUICIDE, forbids}
use Rattle.rules.specs.Answers.{accepts}
use Rattle.rules.specs.Game as rules
use Rattle.rules.specs.Calls.{resulting, stone_answer, stone_game, result, point_answer}
use Rattle.rules.specs.Calls as calls
use Rattle.rules.proofs.Laws.Calls.{then-first, then-second, accepted-on, accepted-empty, stone-move}
use Rattle.rules.proofs.Laws.Move.{own-after}
use Rattle.board.specs.Board.{colours_of}
use Rattle.game.specs.View.{view_of}
use Rattle.runs.specs.Runs.{Reply, Desk, Sound, Step, accepted, stone}
use Rattle.runs.proofs.Laws.Step.{stone-field}

-- with SUICIDE set, the new stone and all of its colour stand after the captures
own-spared :
    (g : rules.Game) (bytes : List ℕ) (r c : ℕ) → rules.TrueGame g → accepts (stone_answer g bytes r c) ≡ true → forbids g.flags SUICIDE ≡ true →
    (q : ℕ) → at (coloured g.colours g.turn (index g.width r c)) q ≡ g.turn → at (resulting g (index g.width r c)) q ≡ g.turn
unfolding resulting played stone_answer
own-spared g bytes r c is yes' set q e =
    let point : accepts (point_answer g bytes g.flags r c) ≡ true = then-first _ _ (then-second _ _ yes') in
    rw set
    (own-after g.height g.width g.colours is.board g.turn is.mover (index g.width r c) (accepted-on g bytes r c g.flags point)
    (accepted-empty g bytes r c g.flags point) q e)

module _ (d : Desk) (reply : Reply) (d' : Desk) (is : Sound d) (r c : ℕ) (s : Step (stone r c) d reply d') (ok : reply.answer ≡ 0) where
  abbrev seen : rules.Game
  seen = view_of d.game

  pub stone-accepted : accepts (stone_answer seen d.bytes r c) ≡ true
  unfolding calls.stone result accepts
  stone-accepted = ap (λ (n : ℕ). eqb n 0) (sym (s.answered is) ∙ ok)

  stone-colours : colours_of d'.game.board ≡ resulting seen (index seen.width r c)
  unfolding view_of stone_game accepted
  stone-colours =
      stone-field d reply d' is (λ v. v.colours) r c s ∙ ap (λ (b : Bool). cond b (resulting seen (index seen.width r c)) seen.colours) (eq-eqb reply.answer 0 ok)

  pub step_move :
      Move (neighbours d.game.board.height d.game.board.width) (at (colours_of d.game.board)) seen.turn
      (index d.game.board.width r c) (at (colours_of d'.game.board))
  unfolding Sound view_of
  step_move =
      subst
      (λ (cols : List ℕ).
      Move (neighbours d.game.board.height d.game.board.width) (at (colours_of d.game.board)) seen.turn (index d.game.board.width r c) (at cols))
      (sym stone-colours) (stone-move seen d.bytes r c is.0.game stone-accepted)

  pub step-spares :
      forbids d.game.flags SUICIDE ≡ true → (q : ℕ) →
      at (coloured (colours_of d.game.board) seen.turn (index d.game.board.width r c)) q ≡ seen.turn →
      at (colours_of d'.game.board) q ≡ seen.turn
  unfolding Sound view_of
  step-spares set q e = ap (λ (cols : List ℕ). at cols q) stone-colours ∙ own-spared seen d.bytes r c is.0.game stone-accepted set q e
