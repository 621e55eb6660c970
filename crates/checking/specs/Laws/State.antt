-- A state is a true one or it is not, and a history has room for its records or it has not.
use Rattle.std.specs.Prelude.{◌⊎◌, ◌≡◌, ℕ, ◌+◌, ◌/◌, ◌≤◌, ◌<◌, None, Some}
use Rattle.std.proofs.Common.{inl, sym, ◌∙◌, subst, arith}
use Rattle.std.proofs.Math.Logic.{inr, ⊎_elim, ⊎_map}
use Rattle.std.proofs.lemmas.Option.{none-some, same_Some}
use Rattle.std.proofs.Math.Path.{refl}
use Rattle.rules.specs.Sizes.{record_bytes, max_area, max_flags, max_stones}
use Rattle.rules.specs.Points.{area}
use Rattle.rules.specs.Colours.{black, white}
use Rattle.rules.specs.Game.{stones}
use Rattle.rules.proofs.Laws.Lists.{equal_or_not, below_or_not}
use Rattle.board.specs.declared.judge.Stones.{Stones}
use Rattle.board.specs.Board.{colours_of}
use Rattle.board.specs.Verdict.{Counted}
use Rattle.board.specs.Laws.Judge.{true-or-not}
use Rattle.game.specs.declared.state.Game.{Game}
use Rattle.game.specs.declared.state.Tally.{Tally}
use Rattle.game.specs.View.{no_point, ko_of, outcome_of, view_of, TrueState, RoomIn}
use Rattle.game.specs.Judge.{InRange, Summed, Untouched}
use Rattle.game.specs.Laws.Judge.{true-ranged, true-sums, true-start, made-true}
use Rattle.game.specs.Laws.View.{ko-none, ko-some, outcome-black, outcome-white, outcome-none}

-- ---- Decisions

both-or-not : {P Q : Type 0} → P ⊎ ¬ P → Q ⊎ ¬ Q → (P × Q) ⊎ ¬ (P × Q)
both-or-not (inl p) (inl q) = inl (p, q)
both-or-not (inl p) (inr n) = inr (λ b. n b.1)
both-or-not (inr n) q = inr (λ b. n b.0)

at-most-or-not : (m n : ℕ) → (m ≤ n) ⊎ ¬ (m ≤ n)
at-most-or-not m n = ⊎_elim (λ (l : n < m). inr (λ (h : m ≤ n). omega arith)) inl (below_or_not n m)

-- ---- The numbers of a state

ko-or-not : (ko end : ℕ) → ((k : ℕ) → ko_of ko ≡ Some k → k < end) ⊎ ¬ ((k : ℕ) → ko_of ko ≡ Some k → k < end)
ko-or-not ko end =
    ⊎_elim (λ e. inl (λ k z. absurd (none-some k (sym (ko-none ko e) ∙ z))))
    (λ n.
    ⊎_elim (λ l. inl (λ k z. subst (λ (j : ℕ). j < end) (same_Some ko k (sym (ko-some ko n) ∙ z)) l))
    (λ (l : end ≤ ko). inr (λ on. let h = on ko (ko-some ko n) in omega arith))
    (below_or_not ko end))
    (equal_or_not ko no_point)

ranged-or-not : (end flags passes ko handicap : ℕ) → InRange end flags passes ko handicap ⊎ ¬ InRange end flags passes ko handicap
ranged-or-not end flags passes ko handicap =
    ⊎_map (λ b. record { flagged = b.0; pauses = b.1.0; handicapped = b.1.1.0; ko_on = b.1.1.1 })
    (λ n is. n (is.flagged, (is.pauses, (is.handicapped, is.ko_on))))
    (both-or-not (at-most-or-not flags max_flags) (both-or-not (at-most-or-not passes 2) (both-or-not (at-most-or-not handicap max_area) (ko-or-not ko end))))

summed-or-not : (on : Stones) (held put : Tally) (handicap accepted : ℕ) → Summed on held put handicap accepted ⊎ ¬ Summed on held put handicap accepted
summed-or-not on held put handicap accepted =
    ⊎_map (λ b. record { black_kept = b.0; white_kept = b.1.0; both_put = b.1.1 }) (λ n is. n (is.black_kept, (is.white_kept, is.both_put)))
    (both-or-not (equal_or_not put.black (on.black + held.black))
    (both-or-not (equal_or_not put.white (on.white + held.white)) (equal_or_not (put.black + put.white) (handicap + accepted))))

none-or-not : (x : ℕ) → (outcome_of x ≡ None) ⊎ ¬ (outcome_of x ≡ None)
none-or-not x =
    ⊎_elim (λ e. inr (λ z. none-some black (sym z ∙ outcome-black x e)))
    (λ n. ⊎_elim (λ e. inr (λ z. none-some white (sym z ∙ outcome-white x e))) (λ m. inl (outcome-none x n m)) (equal_or_not x white))
    (equal_or_not x black)

untouched-or-not : (put : Tally) (records passes outcome : ℕ) → Untouched put records passes outcome ⊎ ¬ Untouched put records passes outcome
untouched-or-not put records passes outcome =
    ⊎_map (λ b. record { unput = b.0; unrecorded = b.1.0; unpassed = b.1.1.0; undecided = b.1.1.1 })
    (λ n is. n (is.unput, (is.unrecorded, (is.unpassed, is.undecided))))
    (both-or-not (equal_or_not (put.black + put.white) 0)
    (both-or-not (equal_or_not records 0) (both-or-not (equal_or_not passes 0) (none-or-not outcome))))

-- ---- The state

module _ (g : Game) where
  abbrev end : ℕ
  end = area g.board.height g.board.width

  abbrev on : Stones
  on = record { black = stones (colours_of g.board) black; white = stones (colours_of g.board) white }

  abbrev Start : Type 0
  Start = Untouched g.put g.records g.passes g.outcome

  counted : Counted g.board on
  counted = record { blacks = refl; whites = refl }

  start-or-not : (g.begun ≡ 0 → Start) ⊎ ¬ (g.begun ≡ 0 → Start)
  start-or-not =
      ⊎_elim (λ e. ⊎_map (λ u _. u) (λ n h. n (h e)) (untouched-or-not g.put g.records g.passes g.outcome))
      (λ n. inl (λ e. absurd (n e)))
      (equal_or_not g.begun 0)

  pub state-or-not : TrueState g ⊎ ¬ TrueState g
  unfolding view_of
  state-or-not =
      ⊎_elim
      (λ board.
      ⊎_map (λ b. made-true g board b.0 end refl b.1.0 on counted b.1.1.0 b.1.1.1)
      (λ n is. n (is.game.limited, (true-ranged g is end refl, (true-sums g is on counted, true-start g is))))
      (both-or-not (at-most-or-not g.accepted max_stones)
      (both-or-not (ranged-or-not end g.flags g.passes g.ko g.handicap)
      (both-or-not (summed-or-not on g.held g.put g.handicap g.accepted) start-or-not))))
      (λ n. inr (λ is. n is.board))
      (true-or-not g.board)

  -- with a history of n bytes
  pub room-or-not : (n : ℕ) → (TrueState g × RoomIn g n) ⊎ ¬ (TrueState g × RoomIn g n)
  unfolding RoomIn
  room-or-not n = both-or-not state-or-not (at-most-or-not g.records (n / record_bytes))
