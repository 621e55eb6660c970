-- Laws of the facts: a ko point is a number below that of none, and two answers that meet the promise are the same.
use Rattle.std.specs.Prelude.{◌≡◌, refl, Bool, true, false, cond, ℕ, ◌<◌, eqb, Option, None, Some}
use Rattle.std.proofs.Common.{sym, ap, ◌∙◌, ⊎_elim, arith, eqb-true}
use Rattle.std.proofs.lemmas.Option.{none-some}
use Rattle.rules.proofs.Laws.Lists.{not-both, not-no, decided, below_or_not, both_ways, same_answer}
use Rattle.board.specs.Laws.Board.{area-fits}
use Rattle.points.specs.Place.{Within}
use Rattle.game.specs.declared.state.Game.{Game}
use Rattle.game.specs.declared.asks.Facts as asks
use Rattle.game.specs.View.{no_point, ko_of, TrueState}
use Rattle.game.specs.Asks as asked
use Rattle.reporting.specs.declared.facts.Facts.{Facts}
use Rattle.reporting.specs.Facts.{ko_number, Asked}

within : {n : ℕ} (o : Option ℕ) → ((p : ℕ) → o ≡ Some p → p < n) → Within n o
within None f = tt
within (Some p) f = f p refl

pub ko-within : (g : Game) (f : asks.Facts) → asked.Asked g f → Within no_point f.ko
unfolding asked.no_facts
ko-within g f a =
    within f.ko (λ p at.
    ⊎_elim
    (λ l. l)
    (λ high.
    let untrue : ¬ TrueState g = λ t. let on = t.game.ko_on p (sym (a.told t).ko ∙ at) in let few = area-fits t.game.size in omega arith in
    absurd (none-some p (sym (ap (λ (x : asks.Facts). x.ko) (a.damaged untrue)) ∙ at)))
    (below_or_not p no_point))

-- the number that the state keeps for the ko point is the one that is told
pub ko-told : (x : ℕ) (o : Option ℕ) → ko_of x ≡ o → x ≡ ko_number o
unfolding ko_of
ko-told x o e =
    ⊎_elim
    (λ (y : eqb x no_point ≡ true). eqb-true x no_point y ∙ sym (ap (λ (t : Bool). ko_number (cond t None (Some x))) y))
    (λ (f : eqb x no_point ≡ false). sym (ap (λ (t : Bool). ko_number (cond t None (Some x))) f))
    (decided (eqb x no_point))
    ∙ ap ko_number e

module _ {g : Game} {r r' : Facts} (p : Asked g r) (q : Asked g r') where
  number : (field : Facts → ℕ) → field r ≡ field r'
  number field = both_ways (λ t. ap field (p.told t ∙ sym (q.told t))) (λ n. ap field (p.damaged n ∙ sym (q.damaged n)))

  -- either way the marks are the same, so they are never apart
  marked : ¬ ¬ (r.over ≡ r'.over)
  marked apart =
      let untrue : ¬ TrueState g = λ t. apart (ap (λ (f : Facts). f.over) (p.told t ∙ sym (q.told t))) in
      apart (ap (λ (f : Facts). f.over) (p.damaged untrue ∙ sym (q.damaged untrue)))

  mark : r.over ≡ r'.over
  mark = same_answer (λ y. not-no (λ n. marked (λ e. not-both (sym e ∙ y) n))) (λ y. not-no (λ n. marked (λ e. not-both (e ∙ y) n)))

  pub facts-same : r ≡ r'
  facts-same =
      λ i.
      record {
        answer = number (λ f. f.answer) i;
        height = number (λ f. f.height) i;
        width = number (λ f. f.width) i;
        flags = number (λ f. f.flags) i;
        turn = number (λ f. f.turn) i;
        passes = number (λ f. f.passes) i;
        outcome = number (λ f. f.outcome) i;
        over = mark i;
        ko = number (λ f. f.ko) i;
        handicap = number (λ f. f.handicap) i;
        accepted = number (λ f. f.accepted) i;
        prisoners = record { black = number (λ f. f.prisoners.black) i; white = number (λ f. f.prisoners.white) i };
        records = number (λ f. f.records) i;
      }
