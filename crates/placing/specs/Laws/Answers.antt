-- What an outcome is made of, and the answers of 01's tests in their order.
use Rattle.std.specs.Prelude.{◌≡◌, true, false, List, ℕ}
use Rattle.std.proofs.Common.{subst}
use Rattle.rules.specs.Calls.{Spot, choked, lay_black, spots_answer, lay_answer}
use Rattle.rules.specs.Answers.{Answer, NoLiberty, number, accepts, refuse}
use Rattle.rules.proofs.Laws.Lists.{not-both}
use Rattle.rules.proofs.Laws.Answers.{then-refused, then-accepted}
use Rattle.board.specs.declared.goban.Board.{Board}
use Rattle.placing.specs.declared.place.Placed.{Placed}
use Rattle.placing.specs.Placing.{Stands, Outcome}

-- ---- Outcomes

module _ {a : Answer} {h w : ℕ} {cols : List ℕ} {back : Board} {r : Placed} where
  pub outcome-refused : r.answer ≡ number a → accepts a ≡ false → r.board ≡ back → Outcome a h w cols back r
  outcome-refused e n same = record { answered = e; placed = λ y. absurd (not-both y n); refused = λ z. same }

  pub outcome-accepted : r.answer ≡ number a → accepts a ≡ true → Stands h w cols r.board → Outcome a h w cols back r
  outcome-accepted e y stands = record { answered = e; placed = λ z. stands; refused = λ n. absurd (not-both y n) }

  -- the same answer under another name
  pub outcome-as : {a' : Answer} → a ≡ a' → Outcome a h w cols back r → Outcome a' h w cols back r
  outcome-as e o = subst (λ (x : Answer). Outcome x h w cols back r) e o

-- ---- The tests of 01 for a handicap's stones, in order

module _ (h w : ℕ) (cols : List ℕ) (spots : List Spot) where
  pub lay-spots : accepts (spots_answer h w cols spots) ≡ false → lay_answer h w cols spots ≡ spots_answer h w cols spots
  unfolding lay_answer
  lay-spots bad = then-refused (spots_answer h w cols spots) _ bad

  pub lay-choked : accepts (spots_answer h w cols spots) ≡ true → lay_answer h w cols spots ≡ refuse NoLiberty (choked h w (lay_black w cols spots))
  unfolding lay_answer
  lay-choked ok = then-accepted (spots_answer h w cols spots) _ ok
