-- `put_state`: the facts, then the rows of the colours.
use Rattle.std.proofs.Common.{◌≤◌, ◌∙◌, refl, sym, ap, arith, ℕ, ◌++◌, length, length-take-le}
use Rattle.rules.specs.Answers.{number}
use Rattle.writing.specs.Figures.{decimal}
use Rattle.game.specs.Asks.{no_facts}
use Rattle.stating.specs.Laws.State.{undamaged, area-undamaged, damaged-answer, state-behind}
use Rattle.stating.proofs.state.put_state.Goals.{After-area}
use Rattle.stating.proofs.state.put_state.Goals as goal

pub returns-then-facts-ne-ACCEPTED : goal.returns-then-facts-ne-ACCEPTED
unfolding number no_facts
returns-then-facts-ne-ACCEPTED g c =
    let facts = c.facts_of-facts in
    record {
      stated = λ is. absurd (c.if-facts-ne-ACCEPTED.true (facts.ensures.told is).answer);
      damaged = λ n. c.put_number.ensures.put ∙ ap (λ (k : ℕ). c.args.out.now.items ++ decimal k) (c.from.ensures ∙ damaged-answer _ _ facts.ensures n);
      short = omega (arith, c.put_number.ensures.upper_bound);
    }

-- the points of the board are a part of the buffer
fits : (g : _) (c : After-area g) → c.area.result ≤ length c.to_vec.new.buffer
fits g c = omega (arith, c.area.ensures, area-undamaged _ _ c.facts_of-facts.ensures c.if-facts-ne-ACCEPTED.false, c.to_vec.auto.buffer)

pub slice_bounds-colours-end : goal.slice_bounds-colours-end
slice_bounds-colours-end g c = fits g (goal.at.slice_bounds-colours-end g c).After-area

pub slice_bounds-put_rows-end : goal.slice_bounds-put_rows-end
slice_bounds-put_rows-end g c = sym (length-take-le _ _ (fits g (goal.at.slice_bounds-put_rows-end g c).After-area))

pub returns : goal.returns
returns g c =
    let facts = c.facts_of-facts.ensures in
    let open' = c.if-facts-ne-ACCEPTED.false in
    let gap = c.push.ensures in
    let l = fits g (goal.at.returns g c).After-area in
    record {
      stated = λ is.
          state-behind _ _ _ _ _ refl is facts c.to_vec.ensures _ _ c.put_facts.ensures.put gap.items c.put_rows.ensures.put c.area.ensures l;
      damaged = λ n. absurd (undamaged _ _ facts open' n);
      short = omega (arith, c.area.ensures, area-undamaged _ _ facts open', length-take-le c.area.result c.to_vec.new.buffer l, c.put_facts.ensures.upper_bound, gap.len, c.put_rows.ensures.upper_bound);
    }
