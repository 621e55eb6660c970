-- Laws of a replay: what holds after some entries were accepted, at the first one, from one to the next, at the end and at a refusal.
use Rattle.std.specs.Prelude.{◌≡◌, refl, true, false, ◌≢◌, ℕ, suc, ◌<◌, length, get_or}
use Rattle.std.proofs.Math.Path.{sym, ap, subst}
use Rattle.std.proofs.Common.{◌∙◌, arith, drop-cons, eq-eqb, ne_eqb}
use mathlib.Core.List.{List, ◌∷◌}
use Rattle.std.proofs.Math.ListN.{drop}
use Rattle.std.proofs.Math.Seq.{drop-length}
use Rattle.rules.specs.Answers.{Accepted, Damaged, number, accepts}
use Rattle.rules.specs.Game as rules
use Rattle.rules.proofs.Laws.Lists.{both_ways}
use Rattle.rules.specs.Calls.{Result, Entry, entry_call, Replayed as Said, replay_from, replay}
use Rattle.game.specs.declared.state.Game.{Game}
use Rattle.game.specs.View.{view_of, TrueState, RoomIn}
use Rattle.game.specs.Laws.Unique.{views_same, bytes_same}
use Rattle.playing.specs.Promise.{CalledTrue}
use Rattle.replaying.specs.declared.replay.Move.{Move}
use Rattle.replaying.specs.declared.replay.Replayed.{Replayed}
use Rattle.replaying.specs.Replay.{entry_of, entries_of, Replays}

-- ---- The rules' replay, one entry further

module _ (n : ℕ) (v : rules.Game) (bytes : List ℕ) (e : Entry) (es : List Entry) where
  pub replay-on :
      accepts (entry_call v bytes e).answer ≡ true →
      replay_from n v bytes (e ∷ es) ≡ replay_from (suc n) (entry_call v bytes e).game (entry_call v bytes e).bytes es
  replay-on y = rw (y, replay_from)

  pub replay-stop :
      accepts (entry_call v bytes e).answer ≡ false →
      replay_from n v bytes (e ∷ es) ≡ record { entries = n; answer = (entry_call v bytes e).answer; game = v; bytes = bytes }
  replay-stop f = rw (f, replay_from)

-- ---- The entries before the i-th were accepted, and left the state g and the bytes

module _ (g₀ : Game) (bytes₀ : List ℕ) (moves : List Move) where
  abbrev Is : Type 0
  Is = TrueState g₀ × RoomIn g₀ (length bytes₀)

  abbrev said : Said
  said = replay (view_of g₀) bytes₀ (entries_of moves)

  pub record SoFar (i : ℕ) (g : Game) (bytes : List ℕ) : Type 0 where
    pub rest : said ≡ replay_from i (view_of g) bytes (entries_of (drop i moves))
    pub kept : TrueState g
    pub long : length bytes ≡ length bytes₀
    pub room : RoomIn g (length bytes)
    pub same : i ≡ 0 → (g ≡ g₀) × (bytes ≡ bytes₀)

  pub so-far-none : Is → SoFar 0 g₀ bytes₀
  unfolding replay
  so-far-none is = record { rest = refl; kept = is.0; long = refl; room = is.1; same = λ e. (refl, refl) }

  module _ (is : Is) {i : ℕ} {g : Game} {bytes : List ℕ} (s : SoFar i g bytes) where
    -- all entries were accepted
    pub replays-all : i ≡ length moves → Replays Is said g₀ bytes₀ (record { entries = i; answer = 0; game = g }) bytes
    unfolding entries_of number
    replays-all e =
        let end : said ≡ record { entries = i; answer = Accepted; game = view_of g; bytes = bytes } =
        s.rest ∙ ap (λ (l : List Move). replay_from i (view_of g) bytes (entries_of l)) (ap (λ (n : ℕ). drop n moves) e ∙ drop-length moves) in
        record {
          damaged = λ n. absurd (n is);
          counted = λ t. ap (λ (r : Said). r.entries) (sym end);
          answered = λ t. ap (λ (r : Said). number r.answer) (sym end);
          shown = λ t. ap (λ (r : Said). r.game) (sym end);
          lent = λ t. ap (λ (r : Said). r.bytes) (sym end);
          kept = λ t. s.kept;
          same = s.same;
        }

    module _ (more : i < length moves) (d : Move) {answer : ℕ} {g' : Game} {bytes' : List ℕ} (c : CalledTrue (entry_call (view_of g) bytes (entry_of (get_or moves i d))) g bytes answer g' bytes') where
      abbrev call : Result
      call = entry_call (view_of g) bytes (entry_of (get_or moves i d))

      here : said ≡ replay_from i (view_of g) bytes (entry_of (get_or moves i d) ∷ entries_of (drop (suc i) moves))
      unfolding entries_of
      here = s.rest ∙ ap (λ (l : List Move). replay_from i (view_of g) bytes (entries_of l)) (drop-cons moves i d more)

      -- the next one is accepted
      pub so_far_more : answer ≡ 0 → SoFar (suc i) g' bytes'
      unfolding accepts
      so_far_more e =
          record {
            rest =
                here
                ∙ replay-on i (view_of g) bytes (entry_of (get_or moves i d)) (entries_of (drop (suc i) moves)) (eq-eqb _ _ (sym c.answered ∙ e))
                ∙ sym (λ j. replay_from (suc i) (c.shown j) (c.lent j) (entries_of (drop (suc i) moves)));
            kept = c.kept;
            long = c.long ∙ s.long;
            room = subst (RoomIn g') (sym c.long) c.room;
            same = λ z. absurd (omega (arith, z));
          }

      -- or it is refused
      pub replays-some : answer ≢ 0 → Replays Is said g₀ bytes₀ (record { entries = i; answer = answer; game = g' }) bytes'
      unfolding accepts
      replays-some n =
          let end : said ≡ record { entries = i; answer = call.answer; game = view_of g; bytes = bytes } =
          here ∙ replay-stop i (view_of g) bytes (entry_of (get_or moves i d)) (entries_of (drop (suc i) moves)) (ne_eqb _ _ (λ z. n (c.answered ∙ z))) in
          record {
            damaged = λ f. absurd (f is);
            counted = λ t. ap (λ (r : Said). r.entries) (sym end);
            answered = λ t. c.answered ∙ ap (λ (r : Said). number r.answer) (sym end);
            shown = λ t. ap view_of (c.refused n).0 ∙ ap (λ (r : Said). r.game) (sym end);
            lent = λ t. (c.refused n).1 ∙ ap (λ (r : Said). r.bytes) (sym end);
            kept = λ t. c.kept;
            same = λ z. ((c.refused n).0 ∙ (s.same z).0, (c.refused n).1 ∙ (s.same z).1);
          }

  -- ---- The state is damaged

  pub replays-damaged : ¬ Is → Replays Is said g₀ bytes₀ (record { entries = 0; answer = number Damaged; game = g₀ }) bytes₀
  replays-damaged not =
      record {
        damaged = λ n. (refl, refl, refl, refl);
        counted = λ is. absurd (not is);
        answered = λ is. absurd (not is);
        shown = λ is. absurd (not is);
        lent = λ is. absurd (not is);
        kept = λ is. absurd (not is);
        same = λ e. (refl, refl);
      }

-- ---- A promise leaves nothing free but what a true board leaves free

pub replays-unique :
    {P : Type 0} {said : Said} {g : Game} {bytes bytes' bytes'' : List ℕ} {r r' : Replayed} → Replays P said g bytes r bytes' → Replays P said g bytes r' bytes'' →
    (r.entries ≡ r'.entries) × (r.answer ≡ r'.answer) × (view_of r.game ≡ view_of r'.game) × (bytes' ≡ bytes'')
replays-unique {bytes' = bytes'} {bytes'' = bytes''} p q = (
  both_ways (λ is. p.counted is ∙ sym (q.counted is)) (λ n. (p.damaged n).0 ∙ sym (q.damaged n).0),
  both_ways (λ is. p.answered is ∙ sym (q.answered is)) (λ n. (p.damaged n).1 ∙ sym (q.damaged n).1),
  views_same (λ is. p.shown is ∙ sym (q.shown is)) (λ n. ap view_of ((p.damaged n).2 ∙ sym (q.damaged n).2)),
  bytes_same bytes' bytes'' (λ is. p.lent is ∙ sym (q.lent is)) (λ n. (p.damaged n).3 ∙ sym (q.damaged n).3),
)
