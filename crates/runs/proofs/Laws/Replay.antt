-- Laws of a replay by the rules: what its accepted entries do to turn, stones put and history, one after the other.
use Rattle.std.specs.Prelude.{◌≡◌, Bool, true, false, cond, ◌||◌, List, [], ◌∷◌, ℕ, suc, ◌+◌, ◌≤◌, take}
use Rattle.std.proofs.Math.Path.{refl, subst}
use Rattle.std.proofs.Common.{sym, ap, ap₂, ◌∙◌, inl, inr, add-zero, arith}
use Rattle.std.proofs.Math.Bool.{true≢false}
use Rattle.std.proofs.Math.Logic.{⊎_elim}
use Rattle.std.proofs.Math.Nat.{zero-add}
use Rattle.std.proofs.Math.Dec.{eqb}
use Rattle.rules.specs.Colours.{black, white, other}
use Rattle.rules.specs.Records.{capacity}
use Rattle.rules.specs.Answers.{Answer, Accepted, BadKind, number, accepts}
use Rattle.rules.specs.Game.{Game, TrueGame, Player}
use Rattle.rules.specs.Calls.{Result, result, stone_game, stone, pass_game, pass, resign_game, resign, resume_game, resume, one_if, Entry, entry_call, Replayed, replay_from, replay}
use Rattle.rules.proofs.Laws.Lists.{decided}
use Rattle.rules.proofs.Laws.Keep.{pass-true, resign-true, resume-true, stone-keeps}
use Rattle.replaying.specs.Laws.Replay.{replay-on, replay-stop}
use Rattle.runs.specs.Runs.{turn_over, put_over}
use Rattle.runs.proofs.Laws.Lent.{Lent, lent_same, lent-on, lent-room, stone-lent}

-- ---- One accepted entry: whether it changes the turn, whether it puts a stone down

pub record Entered (g : Game) (bytes : List ℕ) (turns puts : Bool) (r : Result) : Type 0 where
  pub true' : TrueGame r.game
  pub tall : r.game.height ≡ g.height
  pub wide : r.game.width ≡ g.width
  pub turn : r.game.turn ≡ cond turns (other g.turn) g.turn
  pub blacks : r.game.black_put ≡ cond puts (g.black_put + one_if g.turn black) g.black_put
  pub whites : r.game.white_put ≡ cond puts (g.white_put + one_if g.turn white) g.white_put
  pub lent : Lent bytes r.bytes r.game.records

module _ (g : Game) (bytes : List ℕ) (is : TrueGame g) (room : g.records ≤ capacity bytes) where
  stone-entered : (r c : ℕ) → accepts (stone g bytes r c).answer ≡ true → Entered g bytes true true (stone g bytes r c)
  unfolding stone result stone_game
  stone-entered r c y =
      let lent = stone-lent g bytes r c room in
      let kept = stone-keeps g bytes r c is y in
      rw y (record { true' = kept; tall = refl; wide = refl; turn = refl; blacks = refl; whites = refl; lent = rw y at lent })

  pass-entered : accepts (pass g bytes).answer ≡ true → Entered g bytes true false (pass g bytes)
  unfolding pass result pass_game
  pass-entered y =
      let kept = pass-true g is y in
      rw y (record { true' = kept; tall = refl; wide = refl; turn = refl; blacks = refl; whites = refl; lent = lent_same refl refl room })

  resign-entered : (player : ℕ) → Player player → accepts (resign g bytes player).answer ≡ true → Entered g bytes false false (resign g bytes player)
  unfolding resign result resign_game
  resign-entered player names y =
      let kept = resign-true g is player names in
      rw y (record { true' = kept; tall = refl; wide = refl; turn = refl; blacks = refl; whites = refl; lent = lent_same refl refl room })

  resume-entered : Entered g bytes false false (resume g bytes)
  unfolding resume result resume_game accepts number
  resume-entered = record { true' = resume-true g is; tall = refl; wide = refl; turn = refl; blacks = refl; whites = refl; lent = lent_same refl refl room }

  unknown : accepts (result BadKind g bytes g bytes).answer ≡ true → ⊥
  unfolding result accepts number
  unknown y = true≢false (sym y)

  pub entry-entered :
      (e : Entry) → accepts (entry_call g bytes e).answer ≡ true →
      Entered g bytes (eqb e.kind 0 || eqb e.kind 1) (eqb e.kind 0) (entry_call g bytes e)
  unfolding entry_call Player
  entry-entered e =
      ⊎_elim (λ (a : eqb e.kind 0 ≡ true). rw a (stone-entered e.row e.column))
      (λ (n : eqb e.kind 0 ≡ false).
      ⊎_elim (λ (a : eqb e.kind 1 ≡ true). rw (n, a) pass-entered)
      (λ (o : eqb e.kind 1 ≡ false).
      ⊎_elim (λ (a : eqb e.kind 2 ≡ true). rw (n, o, a) (resign-entered black (inl refl)))
      (λ (p : eqb e.kind 2 ≡ false).
      ⊎_elim (λ (a : eqb e.kind 3 ≡ true). rw (n, o, p, a) (resign-entered white (inr refl)))
      (λ (q : eqb e.kind 3 ≡ false).
      ⊎_elim (λ (a : eqb e.kind 4 ≡ true). rw (n, o, p, q, a) (λ y. resume-entered))
      (λ (r : eqb e.kind 4 ≡ false). rw (n, o, p, q, r) (λ y. absurd (unknown y)))
      (decided (eqb e.kind 4)))
      (decided (eqb e.kind 3)))
      (decided (eqb e.kind 2)))
      (decided (eqb e.kind 1)))
      (decided (eqb e.kind 0))

-- ---- A row of entries

-- m of them were accepted, after k others
pub record Over (k : ℕ) (g : Game) (bytes : List ℕ) (es : List Entry) (m : ℕ) (r : Replayed) : Type 0 where
  pub counted : r.entries ≡ k + m
  pub turn : r.game.turn ≡ turn_over (take m es) g.turn
  pub blacks : r.game.black_put ≡ put_over black (take m es) g.turn g.black_put
  pub whites : r.game.white_put ≡ put_over white (take m es) g.turn g.white_put
  pub lent : Lent bytes r.bytes r.game.records

over_none : (k : ℕ) (g : Game) (bytes : List ℕ) (es : List Entry) (a : Answer) → g.records ≤ capacity bytes → Over k g bytes es 0 (record { entries = k; answer = a; game = g; bytes = bytes })
over_none k g bytes es a room =
    record { counted = sym (add-zero k); turn = refl; blacks = refl; whites = refl; lent = lent_same refl refl room }

over-more :
    (k m : ℕ) (g : Game) (bytes : List ℕ) (e : Entry) (es : List Entry) (r : Replayed) →
    Entered g bytes (eqb e.kind 0 || eqb e.kind 1) (eqb e.kind 0) (entry_call g bytes e) →
    Over (suc k) (entry_call g bytes e).game (entry_call g bytes e).bytes es m r → Over k g bytes (e ∷ es) (suc m) r
over-more k m g bytes e es r entered over =
    record {
      counted = over.counted ∙ omega arith;
      turn = over.turn ∙ ap (turn_over (take m es)) entered.turn;
      blacks = over.blacks ∙ ap₂ (put_over black (take m es)) entered.turn entered.blacks;
      whites = over.whites ∙ ap₂ (put_over white (take m es)) entered.turn entered.whites;
      lent = lent-on entered.lent over.lent;
    }

replayed-over :
    (es : List Entry) (k : ℕ) (g : Game) (bytes : List ℕ) → TrueGame g → g.records ≤ capacity bytes → (m : ℕ) × Over k g bytes es m (replay_from k g bytes es)
replayed-over [] k g bytes is room = (0, over_none k g bytes [] Accepted room)
replayed-over (e ∷ es) k g bytes is room =
    ⊎_elim
    (λ (y : accepts (entry_call g bytes e).answer ≡ true).
    let entered = entry-entered g bytes is room e y in
    let (m, over) = replayed-over es (suc k) (entry_call g bytes e).game (entry_call g bytes e).bytes entered.true' (lent-room entered.lent) in
    (suc m, subst (Over k g bytes (e ∷ es) (suc m)) (sym (replay-on k g bytes e es y)) (over-more k m g bytes e es _ entered over)))
    (λ (n : accepts (entry_call g bytes e).answer ≡ false).
    (0, subst (Over k g bytes (e ∷ es) 0) (sym (replay-stop k g bytes e es n)) (over_none k g bytes (e ∷ es) (entry_call g bytes e).answer room)))
    (decided (accepts (entry_call g bytes e).answer))

module _ (es : List Entry) (g : Game) (bytes : List ℕ) (is : TrueGame g) (room : g.records ≤ capacity bytes) where
  -- by as many entries as the replay tells
  pub replay-over : Over 0 g bytes es (replay g bytes es).entries (replay g bytes es)
  unfolding replay
  replay-over =
      let (m, over) = replayed-over es 0 g bytes is room in
      subst (λ (n : ℕ). Over 0 g bytes es n (replay_from 0 g bytes es)) (sym (over.counted ∙ zero-add m)) over
