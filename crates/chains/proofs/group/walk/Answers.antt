use Rattle.std.proofs.Common.{◌≡◌, ◌<◌, ◌≤◌, ◌+◌, ◌∙◌, ◌++◌, List, ℕ, suc, min, refl, sym, ap, ap₂, length, get_or, drop, set, add-one, drop-cons, arith}
use lib.Seq.{set_at, append_snoc}
use borrow.Author.Count.{below_none, below_more}
use Rattle.rules.specs.Sizes.{max_area}
use Rattle.chains.specs.Walk.{stepped, walked, walk_length}
use Rattle.chains.specs.Laws.Walk.{on_board-is, walked-suc, length-walked}
use Rattle.chains.proofs.group.walk.Invariants.{Walking}
use Rattle.chains.proofs.group.walk.Goals as goal

-- one more point written
more : (next : List ℕ) (p n : ℕ) (d : List ℕ) → n < length d
    → set (walked next p n ++ drop n d) n (stepped next p n) ≡ walked next p (n + 1) ++ drop (n + 1) d
more next p n d h =
    rw (add-one, drop-cons d n 0)
    (set_at (walked next p n) (get_or d n 0) (drop (suc n) d) (stepped next p n) n (length-walked next p n)
    ∙ sym (append_snoc (walked next p n) (stepped next p n) (drop (suc n) d))
    ∙ ap (λ (l : List ℕ). l ++ drop (suc n) d) (sym (walked-suc next p n)))

turn : (next : List ℕ) (origin : ℕ) (out₀ out : List ℕ) (point n : ℕ) → Walking next origin out₀ out point n → n < length out₀ → point < max_area
    → (link : ℕ) → link ≡ get_or next point 0 → Walking next origin out₀ (set out n point) link (n + 1)
turn next origin out₀ out point n w long on link e = record {
  here = rw add-one (e ∙ ap (λ (p : ℕ). get_or next p 0) w.here);
  written = ap₂ (λ (d : List ℕ) (p : ℕ). set d n p) w.written w.here ∙ more next origin n out₀ long;
  points = below_more (λ k. stepped next origin k < max_area) n w.points (omega (arith, w.here));
}

-- where the walk ends, its length is right
ended : (next : List ℕ) (origin count : ℕ) (out₀ out : List ℕ) (point n : ℕ)
    → Walking next origin out₀ out point n → n ≤ min count max_area → (n < min count max_area → max_area ≤ point) → n ≡ walk_length next origin count
unfolding walk_length
ended next origin count out₀ out point n w within stop =
    sym (on_board-is next origin n (min count max_area) within w.points (λ l. rw (sym w.here) (stop l)))

pub loop-n-init : goal.loop-n-init
unfolding walked
loop-n-init c = record { here = refl; written = refl; points = below_none (λ k. stepped c.args.next.now c.args.origin k < max_area) }

pub returns-then-point-ge-MAX_AREA : goal.returns-then-point-ge-MAX_AREA
returns-then-point-ge-MAX_AREA c = record {
  length = ended _ _ _ _ _ _ _ c.loop-n.invariant (omega arith) (λ l. c.if-point-ge-MAX_AREA.true);
  written = c.loop-n.invariant.written;
}

pub loop-n-preserved : goal.loop-n-preserved
loop-n-preserved c = turn _ _ _ _ _ _ c.loop-n.invariant (omega arith) c.if-point-ge-MAX_AREA.false _ c.index-point.ensures

pub returns : goal.returns
returns c =
    let all : c.min.result ≡ c.loop-n.n = omega arith in
    rw all (record { length = ended _ _ _ _ _ _ _ c.loop-n.invariant (omega arith) (λ l. absurd (omega arith)); written = c.loop-n.invariant.written })
