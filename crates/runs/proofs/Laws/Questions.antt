-- Every other public question on a game answers alike games alike: the legal list, the tests, the board shown. And two boards that are made
-- by one promise are alike.
use Rattle.std.specs.Prelude.{◌≡◌, refl, Bool, true, false, List, ◌⊎◌, ℕ, length}
use Rattle.std.proofs.Common.{sym, ap, ◌∙◌, subst, ⊎_elim}
use Rattle.rules.specs.Answers.{Answer, Accepted, number, accepts}
use Rattle.rules.specs.Game as rules
use Rattle.rules.specs.Calls.{off_board, list_answer, legals}
use Rattle.rules.proofs.Laws.Lists.{decided}
use Rattle.board.specs.declared.goban.Board.{Board}
use Rattle.board.specs.Board.{colours_of}
use Rattle.queries.specs.declared.goban.TestAnswer.{TestAnswer}
use Rattle.listing.specs.declared.list.Listed.{Listed}
use Rattle.viewing.specs.declared.shows.Question.{Question}
use Rattle.listing.specs.Lists as listing
use Rattle.placing.specs.declared.place.Placed.{Placed}
use Rattle.placing.specs.Placing.{Outcome}
use Rattle.game.specs.declared.state.Game.{Game}
use Rattle.game.specs.View.{view_of, TrueState}
use Rattle.checking.specs.Promise.{Filled}
use Rattle.asking.specs.declared.tests.Test.{Test}
use Rattle.asking.specs.Tests.{tested_at, superko_at}
use Rattle.asking.specs.Promise.{Tested}
use Rattle.showing.specs.declared.shown.BoardAnswer.{BoardAnswer}
use Rattle.showing.specs.Promise.{Shown}
use Rattle.runs.specs.Runs.{Desk, Sound}
use Rattle.runs.specs.Alike.{Alike, AlikeDesks, placement_of, AlikeBoards}
use Rattle.runs.specs.Alike as alike
use Rattle.runs.proofs.Laws.Alike.{alike-view}
use Rattle.runs.proofs.Laws.Asked.{left-same, states-alike, desks-alike, boards-alike}

-- ---- Two promises of both or neither

module _ {is is' : Type 0} (same : (is × is') ⊎ ((¬ is) × (¬ is'))) where
  filled-alike :
      {a a' : Answer} {places places' before after after' : List ℕ} {r r' : Listed} → a ≡ a' → places ≡ places' → Filled is a places before r after →
      Filled is' a' places' before r' after' → (r ≡ r') × (after ≡ after')
  filled-alike e f p q =
      ⊎_elim (λ both. left-same e f (p.told both.0) (q.told both.1))
      (λ neither. left-same refl f (p.damaged neither.0) (q.damaged neither.1))
      same

  tested-alike :
      {off off' holds holds' : Bool} {r r' : TestAnswer} → off ≡ off' → holds ≡ holds' → Tested is off holds r → Tested is' off' holds' r' → r ≡ r'
  tested-alike {off} {off'} {holds} {holds'} e f p q =
      ⊎_elim
      (λ both.
      ⊎_elim (λ (y : off ≡ true). p.beyond both.0 y ∙ sym (q.beyond both.1 (sym e ∙ y)))
      (λ (n : off ≡ false).
      p.told both.0 n ∙ ap (λ (t : Bool). record { answer = number Accepted; holds = t }) f ∙ sym (q.told both.1 (sym e ∙ n)))
      (decided off))
      (λ neither. p.damaged neither.0 ∙ sym (q.damaged neither.1))
      same

-- ---- With a history

module _ (d e : Desk) (like : AlikeDesks d e) where
  pub legals-alike :
      (flags : ℕ) {before after after' : List ℕ} {r r' : Listed} →
      Filled (Sound d) (list_answer (view_of d.game) flags before) (legals (view_of d.game) d.bytes flags) before r after →
      Filled (Sound e) (list_answer (view_of e.game) flags before) (legals (view_of e.game) e.bytes flags) before r' after' →
      (r ≡ r') × (after ≡ after')
  legals-alike flags {before} =
      filled-alike (desks-alike d e like) (ap (λ (v : rules.Game). list_answer v flags before) (alike-view like.games))
      (λ i. legals (alike-view like.games i) (like.bytes i) flags)

  -- by the game's own flags
  pub own-legals-alike :
      {before after after' : List ℕ} {r r' : Listed} →
      Filled (Sound d) (list_answer (view_of d.game) d.game.flags before) (legals (view_of d.game) d.bytes d.game.flags) before r after →
      Filled (Sound e) (list_answer (view_of e.game) e.game.flags before) (legals (view_of e.game) e.bytes e.game.flags) before r' after' →
      (r ≡ r') × (after ≡ after')
  unfolding view_of
  own-legals-alike {before} =
      filled-alike (desks-alike d e like) (ap (λ (v : rules.Game). list_answer v v.flags before) (alike-view like.games))
      (λ i. legals (alike-view like.games i) (like.bytes i) (alike-view like.games i).flags)

  pub superko-alike :
      (row column : ℕ) {r r' : TestAnswer} →
      Tested (Sound d) (off_board (view_of d.game) row column) (superko_at (view_of d.game) d.bytes row column) r →
      Tested (Sound e) (off_board (view_of e.game) row column) (superko_at (view_of e.game) e.bytes row column) r' → r ≡ r'
  superko-alike row column =
      tested-alike (desks-alike d e like) (ap (λ (v : rules.Game). off_board v row column) (alike-view like.games))
      (λ i. superko_at (alike-view like.games i) (like.bytes i) row column)

-- ---- Without

module _ (g h : Game) (like : Alike g h) where
  pub test-alike :
      (row column : ℕ) (test : Test) {r r' : TestAnswer} → Tested (TrueState g) (off_board (view_of g) row column) (tested_at (view_of g) row column test) r →
      Tested (TrueState h) (off_board (view_of h) row column) (tested_at (view_of h) row column test) r' → r ≡ r'
  test-alike row column test =
      tested-alike (states-alike like) (ap (λ (v : rules.Game). off_board v row column) (alike-view like))
      (ap (λ (v : rules.Game). tested_at v row column test) (alike-view like))

  -- the points that a list asked of the game's board has
  pub points-alike :
      (question : Question) {before after after' : List ℕ} {r r' : Listed} →
      Filled (TrueState g) (listing.list_answer g.board.height g.board.width (length before) question)
      (listing.listed g.board.height g.board.width (colours_of g.board) question) before r after →
      Filled (TrueState h) (listing.list_answer h.board.height h.board.width (length before) question)
      (listing.listed h.board.height h.board.width (colours_of h.board) question) before r' after' →
      (r ≡ r') × (after ≡ after')
  unfolding view_of
  points-alike question {before} =
      filled-alike (states-alike like) (ap (λ (v : rules.Game). listing.list_answer v.height v.width (length before) question) (alike-view like))
      (ap (λ (v : rules.Game). listing.listed v.height v.width v.colours question) (alike-view like))

  pub shown-alike : {r r' : BoardAnswer} → Shown g r → Shown h r' → (r.answer ≡ r'.answer) × AlikeBoards r.board r'.board
  shown-alike {r} {r'} p q =
      ⊎_elim
      (λ both.
      let e = p.told both.0 in
      let f = q.told both.1 in (
        ap (λ (x : BoardAnswer). x.answer) e ∙ sym (ap (λ (x : BoardAnswer). x.answer) f),
        subst (λ (b : Board). AlikeBoards b r'.board) (sym (ap (λ (x : BoardAnswer). x.board) e))
            (subst (AlikeBoards g.board) (sym (ap (λ (x : BoardAnswer). x.board) f)) (boards-alike like)),
      ))
      (λ neither.
      let e = p.damaged neither.0 ∙ sym (q.damaged neither.1) in
      (ap (λ (x : BoardAnswer). x.answer) e, alike.equal (ap (λ (x : BoardAnswer). x.board) e)))
      (states-alike like)

-- ---- A board that is made: from colours, or with a handicap's stones

pub placed_alike :
    {a : Answer} {h w : ℕ} {cols : List ℕ} {back : Board} {r r' : Placed} → Outcome a h w cols back r → Outcome a h w cols back r' →
    (r.answer ≡ r'.answer) × AlikeBoards r.board r'.board
unfolding placement_of
placed_alike {a} p q = (
  p.answered ∙ sym q.answered,
  ⊎_elim
      (λ (y : accepts a ≡ true).
      let s = p.placed y in
      let t = q.placed y in
      alike.seen s.is_true t.is_true
      (λ i. record { height = (s.tall ∙ sym t.tall) i; width = (s.wide ∙ sym t.wide) i; colours = (s.colours ∙ sym t.colours) i }))
      (λ (n : accepts a ≡ false). alike.equal (p.refused n ∙ sym (q.refused n)))
      (decided (accepts a)),
)
