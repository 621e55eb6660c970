-- Laws of the stones in a replay: each accepted one is a move of Tromp-Taylor 7, and nothing happens after the last accepted entry.
use Rattle.std.specs.Prelude.{◌≡◌, refl, Bool, true, false, cond, List, [], ◌∷◌, ◌++◌, ℕ, suc, ◌<◌, ◌≤◌, length, take}
use Rattle.std.proofs.Common.{sym, ap, ◌∙◌, subst, ⊎_elim, arith, eq-eqb}
use Rattle.rules.specs.Colours.{at}
use Rattle.rules.specs.Points.{index, neighbours}
use Rattle.rules.specs.Reach.{Move}
use Rattle.rules.specs.Records.{capacity}
use Rattle.rules.specs.Answers.{accepts}
use Rattle.rules.specs.Game.{Game, TrueGame}
use Rattle.rules.specs.Calls.{result, stone, stone_game, Entry, entry_call, Replayed, replay_from}
use Rattle.rules.proofs.Laws.Lists.{decided}
use Rattle.rules.proofs.Laws.Calls.{stone-move}
use Rattle.runs.specs.Runs.{turn_by, turn_over}
use Rattle.runs.specs.Orders.{first_of, entry_rows, accepted_of}
use Rattle.runs.proofs.Laws.Lent.{lent-room}
use Rattle.replaying.specs.Laws.Replay.{replay-on, replay-stop}
use Rattle.runs.proofs.Laws.Replay.{entry-entered}
use Rattle.runs.proofs.Laws.Orders.{entry-order}

counted-accepts : (t : Bool) (m n : ℕ) → n < cond t (suc m) 0 → t ≡ true
counted-accepts true m n l = refl
counted-accepts false m n l = absurd (omega arith)

counted-before : (t : Bool) (m n : ℕ) → suc n < cond t (suc m) 0 → n < m
counted-before true m n l = omega arith
counted-before false m n l = absurd (omega arith)

module _ (g : Game) (bytes : List ℕ) (e : Entry) where
  entry-accepts : (m n : ℕ) → n < cond (accepts (first_of (entry_rows g bytes e))) (suc m) 0 → accepts (entry_call g bytes e).answer ≡ true
  entry-accepts m n l = ap accepts (entry-order g bytes e) ∙ counted-accepts (accepts (first_of (entry_rows g bytes e))) m n l

  entry-move :
      TrueGame g → e.kind ≡ 0 → accepts (entry_call g bytes e).answer ≡ true →
      Move (neighbours g.height g.width) (at g.colours) g.turn (index g.width e.row e.column) (at (entry_call g bytes e).game.colours)
  unfolding entry_call stone result stone_game
  entry-move is z = rw (eq-eqb e.kind 0 z) (λ y. rw y (stone-move g bytes e.row e.column is y))

-- a move on equal boards by equal players
carried :
    {h h' w w' t t' : ℕ} {r r' s s' : Replayed} (row column : ℕ) (before : List Entry) → h ≡ h' → w ≡ w' → t ≡ t' → r ≡ r' → s ≡ s' →
    Move (neighbours h w) (at r.game.colours) (turn_over before t) (index w row column) (at s.game.colours) →
    Move (neighbours h' w') (at r'.game.colours) (turn_over before t') (index w' row column) (at s'.game.colours)
carried {h} {h'} {w} {w'} {t} {t'} {r} {r'} {s} {s'} row column before eh ew et er es move =
    subst (λ (x : ℕ). Move (neighbours x w') (at r'.game.colours) (turn_over before t') (index w' row column) (at s'.game.colours)) eh
    (subst (λ (x : ℕ). Move (neighbours h x) (at r'.game.colours) (turn_over before t') (index x row column) (at s'.game.colours)) ew
    (subst (λ (x : ℕ). Move (neighbours h w) (at r'.game.colours) (turn_over before x) (index w row column) (at s'.game.colours)) et
    (subst (λ (x : Replayed). Move (neighbours h w) (at x.game.colours) (turn_over before t) (index w row column) (at s'.game.colours)) er
    (subst (λ (x : Replayed). Move (neighbours h w) (at r.game.colours) (turn_over before t) (index w row column) (at x.game.colours)) es move))))

-- one entry more in front
later-move :
    (k : ℕ) (g : Game) (bytes : List ℕ) (x : Entry) (before : List Entry) (e : Entry) → accepts (entry_call g bytes x).answer ≡ true →
    (entry_call g bytes x).game.height ≡ g.height → (entry_call g bytes x).game.width ≡ g.width → (entry_call g bytes x).game.turn ≡ turn_by x g.turn →
    Move (neighbours (entry_call g bytes x).game.height (entry_call g bytes x).game.width)
    (at (replay_from (suc k) (entry_call g bytes x).game (entry_call g bytes x).bytes before).game.colours) (turn_over before (entry_call g bytes x).game.turn)
    (index (entry_call g bytes x).game.width e.row e.column)
    (at (replay_from (suc k) (entry_call g bytes x).game (entry_call g bytes x).bytes (before ++ (e ∷ []))).game.colours) →
    Move (neighbours g.height g.width) (at (replay_from k g bytes (x ∷ before)).game.colours) (turn_over before (turn_by x g.turn))
    (index g.width e.row e.column) (at (replay_from k g bytes (x ∷ (before ++ (e ∷ [])))).game.colours)
later-move k g bytes x before e y tall wide turn move =
    carried e.row e.column before tall wide turn (sym (replay-on k g bytes x before y)) (sym (replay-on k g bytes x (before ++ (e ∷ [])) y)) move

-- the stone e after the entries before it
pub replay-moves :
    (before : List Entry) (k : ℕ) (g : Game) (bytes : List ℕ) (e : Entry) (after : List Entry) → TrueGame g → g.records ≤ capacity bytes → e.kind ≡ 0 →
    length before < accepted_of g bytes (before ++ (e ∷ after)) →
    Move (neighbours g.height g.width) (at (replay_from k g bytes before).game.colours) (turn_over before g.turn)
    (index g.width e.row e.column) (at (replay_from k g bytes (before ++ (e ∷ []))).game.colours)
replay-moves [] k g bytes e after is room z l =
    let y = entry-accepts g bytes e _ 0 l in
    subst
    (λ (r : Replayed). Move (neighbours g.height g.width) (at g.colours) g.turn (index g.width e.row e.column) (at r.game.colours))
    (sym (replay-on k g bytes e [] y)) (entry-move g bytes e is z y)
replay-moves (x ∷ before) k g bytes e after is room z l =
    let y = entry-accepts g bytes x _ (suc (length before)) l in
    let entered = entry-entered g bytes is room x y in
    let g₁ = (entry_call g bytes x).game in
    let bytes₁ = (entry_call g bytes x).bytes in
    let ih =
    replay-moves before (suc k) g₁ bytes₁ e after entered.true' (lent-room entered.lent) z
    (counted-before (accepts (first_of (entry_rows g bytes x))) (accepted_of g₁ bytes₁ (before ++ (e ∷ after))) (length before) l) in
    later-move k g bytes x before e y entered.tall entered.wide entered.turn ih

-- ---- After the last accepted entry

pub replay-cut :
    {A : Type 0} (f : Game → List ℕ → A) (es : List Entry) (k : ℕ) (g : Game) (bytes : List ℕ) →
    f (replay_from k g bytes es).game (replay_from k g bytes es).bytes
    ≡ f (replay_from k g bytes (take (accepted_of g bytes es) es)).game (replay_from k g bytes (take (accepted_of g bytes es) es)).bytes
replay-cut f [] k g bytes = refl
replay-cut {A} f (e ∷ es) k g bytes =
    let shows : Replayed → A = λ r. f r.game r.bytes in
    let m = accepted_of (entry_call g bytes e).game (entry_call g bytes e).bytes es in
    let cut : Bool → A = λ t. shows (replay_from k g bytes (take (cond t (suc m) 0) (e ∷ es))) in
    ⊎_elim
    (λ (y : accepts (entry_call g bytes e).answer ≡ true).
    ap shows (replay-on k g bytes e es y) ∙ replay-cut f es (suc k) (entry_call g bytes e).game (entry_call g bytes e).bytes
    ∙ sym (ap cut (ap accepts (sym (entry-order g bytes e)) ∙ y) ∙ ap shows (replay-on k g bytes e (take m es) y)))
    (λ (n : accepts (entry_call g bytes e).answer ≡ false).
    ap shows (replay-stop k g bytes e es n) ∙ sym (ap cut (ap accepts (sym (entry-order g bytes e)) ∙ n)))
    (decided (accepts (entry_call g bytes e).answer))
