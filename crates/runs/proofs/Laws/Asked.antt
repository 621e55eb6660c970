-- Laws of questions: what is asked of alike games and boards is answered alike, to the last number.
use Rattle.std.specs.Prelude.{◌≡◌, refl, Bool, List, ◌⊎◌, ℕ, Result}
use Rattle.std.proofs.Common.{sym, ap, ◌∙◌, subst, inl, inr, ⊎_elim}
use Rattle.rules.specs.Answers.{Answer, Accepted, number}
use Rattle.rules.specs.Game as rules
use Rattle.rules.specs.Calls.{Placement, check_answer}
use Rattle.rules.proofs.Laws.Lists.{decided}
use Rattle.points.specs.declared.answers.Refusal.{Refusal}
use Rattle.board.specs.declared.goban.Board.{Board}
use Rattle.board.specs.True.{TrueBoard}
use Rattle.vetting.specs.Answered as queries
use Rattle.board.specs.Laws.Judge.{true-or-not}
use Rattle.listing.specs.declared.list.Listed.{Listed}
use Rattle.listing.specs.Lists as listing
use Rattle.listing.specs.Laws.Unique.{left_unique}
use Rattle.game.specs.declared.state.Game.{Game}
use Rattle.game.specs.declared.asks.Facts.{Facts}
use Rattle.game.specs.View.{view_of, TrueState}
use Rattle.game.specs.Asks.{is_over, Told, Asked}
use Rattle.checking.specs.Promise.{Checked}
use Rattle.runs.specs.Runs.{Desk, Sound}
use Rattle.runs.specs.Alike.{Alike, AlikeDesks, placement_of, AlikeBoards}
use Rattle.runs.specs.Alike as alike
use Rattle.checking.specs.Laws.State.{state-or-not}
use Rattle.runs.proofs.Laws.Decide.{sound-told}
use Rattle.runs.proofs.Laws.Alike.{alike-back, alike-view, alike-true, sound-alike, desks-back}

-- ---- The facts of a game

told_same : {g h : Game} {r r' : Facts} → view_of g ≡ view_of h → Told g r → Told h r' → r ≡ r'
told_same {g} {h} {r} {r'} e p q =
    λ i.
    record {
      answer = (p.answer ∙ sym q.answer) i;
      height = (p.height ∙ ap (λ (v : rules.Game). v.height) e ∙ sym q.height) i;
      width = (p.width ∙ ap (λ (v : rules.Game). v.width) e ∙ sym q.width) i;
      flags = (p.flags ∙ ap (λ (v : rules.Game). v.flags) e ∙ sym q.flags) i;
      turn = (p.turn ∙ ap (λ (v : rules.Game). v.turn) e ∙ sym q.turn) i;
      passes = (p.passes ∙ ap (λ (v : rules.Game). v.passes) e ∙ sym q.passes) i;
      prisoners =
          record {
            black = (p.black_held ∙ ap (λ (v : rules.Game). v.black_held) e ∙ sym q.black_held) i;
            white = (p.white_held ∙ ap (λ (v : rules.Game). v.white_held) e ∙ sym q.white_held) i;
          };
      ko = (p.ko ∙ ap (λ (v : rules.Game). v.ko_point) e ∙ sym q.ko) i;
      outcome = (p.outcome ∙ ap (λ (v : rules.Game). v.outcome) e ∙ sym q.outcome) i;
      over = (p.over ∙ ap (λ (v : rules.Game). is_over v.outcome v.passes) e ∙ sym q.over) i;
      handicap = (p.handicap ∙ ap (λ (v : rules.Game). v.handicap) e ∙ sym q.handicap) i;
      accepted = (p.accepted ∙ ap (λ (v : rules.Game). v.accepted) e ∙ sym q.accepted) i;
      records = (p.records ∙ ap (λ (v : rules.Game). v.records) e ∙ sym q.records) i;
    }

-- both true or neither
pub states-alike : {g h : Game} → Alike g h → (TrueState g × TrueState h) ⊎ ((¬ TrueState g) × (¬ TrueState h))
states-alike {g} {h} like =
    ⊎_elim (λ (t : TrueState g). inl (t, alike-true like t)) (λ (n : ¬ TrueState g). inr (n, λ u. n (alike-true (alike-back like) u))) (state-or-not g)

pub desks-alike : (d e : Desk) → AlikeDesks d e → (Sound d × Sound e) ⊎ ((¬ Sound d) × (¬ Sound e))
desks-alike d e like =
    ⊎_elim (λ (t : Sound d). inl (t, sound-alike d e like t)) (λ (n : ¬ Sound d). inr (n, λ u. n (sound-alike e d (desks-back like) u))) (sound-told d)

pub facts-alike : {g h : Game} {r r' : Facts} → Alike g h → Asked g r → Asked h r' → r ≡ r'
facts-alike like p q =
    ⊎_elim (λ both. told_same (alike-view like) (p.told both.0) (q.told both.1))
    (λ neither. p.damaged neither.0 ∙ sym (q.damaged neither.1))
    (states-alike like)

-- ---- The check of a point

pub check-alike :
    {d e : Desk} (flags r c : ℕ) {a a' : ℕ} → AlikeDesks d e → Checked (Sound d) (check_answer (view_of d.game) d.bytes flags r c) a →
    Checked (Sound e) (check_answer (view_of e.game) e.bytes flags r c) a' → a ≡ a'
check-alike {d} {e} flags r c like p q =
    ⊎_elim
    (λ both.
    p.answered both.0 ∙ (λ i. number (check_answer (alike-view like.games i) (like.bytes i) flags r c)) ∙ sym (q.answered both.1))
    (λ neither. p.damaged neither.0 ∙ sym (q.damaged neither.1))
    (desks-alike d e like)

-- by the game's own flags
pub own-check-alike :
    {d e : Desk} (r c : ℕ) {a a' : ℕ} → AlikeDesks d e → Checked (Sound d) (check_answer (view_of d.game) d.bytes d.game.flags r c) a →
    Checked (Sound e) (check_answer (view_of e.game) e.bytes e.game.flags r c) a' → a ≡ a'
unfolding view_of
own-check-alike {d} {e} r c {a} {a'} like p q =
    check-alike d.game.flags r c like p
    (subst (λ (flags : ℕ). Checked (Sound e) (check_answer (view_of e.game) e.bytes flags r c) a')
    (sym (ap (λ (v : rules.Game). v.flags) (alike-view like.games))) q)

-- ---- Boards

pub boards-alike : {g h : Game} → Alike g h → AlikeBoards g.board h.board
unfolding view_of placement_of
boards-alike (alike.equal e) = alike.equal (ap (λ (g : Game). g.board) e)
boards-alike (alike.seen t u e) =
    alike.seen t.board u.board (ap (λ (v : rules.Game). record { height = v.height; width = v.width; colours = v.colours }) e)

-- both true with one placement, or both damaged
board-cases : {b c : Board} → AlikeBoards b c → (TrueBoard b × TrueBoard c × (placement_of b ≡ placement_of c)) ⊎ ((¬ TrueBoard b) × (¬ TrueBoard c))
board-cases {b} {c} (alike.equal e) =
    ⊎_elim (λ (t : TrueBoard b). inl (t, subst TrueBoard e t, ap placement_of e)) (λ (n : ¬ TrueBoard b). inr (n, λ u. n (subst TrueBoard (sym e) u)))
    (true-or-not b)
board-cases (alike.seen t u e) = inl (t, u, e)

alike-placement : {b c : Board} → AlikeBoards b c → placement_of b ≡ placement_of c
alike-placement (alike.equal e) = ap placement_of e
alike-placement (alike.seen t u e) = e

-- what two buffers are left with, by one answer and one list
pub left-same :
    {a a' : Answer} {places places' before after after' : List ℕ} {r r' : Listed} → a ≡ a' → places ≡ places' → listing.Left a places before r after →
    listing.Left a' places' before r' after' → (r ≡ r') × (after ≡ after')
left-same {a} {places' = places'} {before} {after} {r = r} e f p q =
    left_unique
    (subst (λ (x : Answer). listing.Left x places' before r after) e (subst (λ (xs : List ℕ). listing.Left a xs before r after) f p)) q

-- a query whose result is a function of the placement
module _ {b c : Board} (like : AlikeBoards b c) where
  pub query-alike :
      {R : Type 0} (off : Placement → Bool) (refused : ℕ → R) (said : Placement → R) {r r' : R} →
      queries.Answered b (off (placement_of b)) refused (said (placement_of b)) r → queries.Answered c (off (placement_of c)) refused (said (placement_of c)) r' →
      r ≡ r'
  query-alike off refused said p q =
      ⊎_elim
      (λ both.
      let (t, u, e) = both in
      ⊎_elim (λ y. p.beyond t y ∙ sym (q.beyond u (ap off (sym e) ∙ y)))
      (λ n. p.accepted t n ∙ ap said e ∙ sym (q.accepted u (ap off (sym e) ∙ n)))
      (decided (off (placement_of b))))
      (λ neither. p.damaged neither.0 ∙ sym (q.damaged neither.1))
      (board-cases like)

  -- the answer alone
  pub judged-alike :
      (off : Placement → Bool) {a a' : Result Unit Refusal} → queries.Judged b (off (placement_of b)) a → queries.Judged c (off (placement_of c)) a' → a ≡ a'
  judged-alike off p q =
      ⊎_elim
      (λ both.
      let (t, u, e) = both in
      ⊎_elim (λ y. p.beyond t y ∙ sym (q.beyond u (ap off (sym e) ∙ y))) (λ n. p.accepted t n ∙ sym (q.accepted u (ap off (sym e) ∙ n)))
      (decided (off (placement_of b))))
      (λ neither. p.damaged neither.0 ∙ sym (q.damaged neither.1))
      (board-cases like)

  -- a call that fills a lent buffer
  pub filling-alike :
      (answer : Placement → Answer) (places : Placement → List ℕ) {before after after' : List ℕ} {r r' : Listed} →
      listing.Answered b (answer (placement_of b)) (places (placement_of b)) before r after →
      listing.Answered c (answer (placement_of c)) (places (placement_of c)) before r' after' → (r ≡ r') × (after ≡ after')
  filling-alike answer places p q =
      ⊎_elim
      (λ both.
      let (t, u, e) = both in
      left-same (ap answer e) (ap places e) (p.told t) (q.told u))
      (λ neither. left-same refl (ap places (alike-placement like)) (p.damaged neither.0) (q.damaged neither.1))
      (board-cases like)
