-- A stone that takes nothing and loses nothing leaves the colours with itself added; where it takes or loses something, a stone of the
-- colours with itself added does not reach empty. Stones are laid with no flag set, so one's own colour is cleared too.
use Rattle.std.specs.Prelude.{◌≡◌, Bool, ◌&&◌, List, ◌≢◌, ℕ, ◌<◌, eqb}
use Rattle.std.proofs.Math.Path.{refl, sym}
use Rattle.std.proofs.Common.{ap, ◌∙◌, subst, arith, eqb-true, eq-eqb}
use Rattle.std.proofs.Math.Logic.{⊎_elim}
use Rattle.std.proofs.Math.ListN.{length}
use Rattle.std.proofs.Math.Seq.{ext_get_or}
use Rattle.rules.specs.Lists.{count, below}
use Rattle.rules.specs.Colours.{empty, other, at}
use Rattle.rules.specs.Points.{area, neighbours}
use Rattle.rules.specs.Reach.{Reaches, Clearing}
use Rattle.rules.specs.Flood.{clear}
use Rattle.rules.specs.Flags.{forbids}
use Rattle.rules.specs.Move.{coloured, captured, played, removed}
use Rattle.rules.specs.Game.{Player, TrueColours}
use Rattle.rules.proofs.Laws.Lists.{and_left, and_right, and_both, both_ways, equal_or_not, mem_below, count-some, count-positive}
use Rattle.rules.proofs.Laws.Counting.{length-pick}
use Rattle.rules.proofs.Laws.Colours.{at-within, player-stone, player-cases, other-player, other-apart}
use Rattle.rules.proofs.Laws.Flood.{clear-length, clear-clearing}
use Rattle.rules.proofs.Laws.Move.{put-length, put-here, after-length, cleared-spares}
use Rattle.placing.specs.Placing.{Stuck}
use Rattle.placing.specs.Laws.Colours.{coloured-else}

-- ---- Clearing a colour

module _ {beside : ℕ → List ℕ} {col after : ℕ → ℕ} {c : ℕ} (cleared : Clearing beside col c after) where
  -- a stone that is left is the stone that was there
  left-same : (q : ℕ) → after q ≢ empty → after q ≡ col q
  left-same q n =
      ⊎_elim
      (λ e. both_ways {P = Reaches beside col q empty} (λ r. cleared.alive q e r ∙ sym e) (λ k. absurd (n (cleared.emptied q e k))))
      (λ k. cleared.others q k)
      (equal_or_not (col q) c)

  -- a stone that reaches empty is left
  reaching-same : (q : ℕ) → Reaches beside col q empty → after q ≡ col q
  reaching-same q r = ⊎_elim (λ e. cleared.alive q e r ∙ sym e) (λ k. cleared.others q k) (equal_or_not (col q) c)

-- ---- Which points were taken

-- no point stands in the list of those removed, or one does
removed-none :
    (h w c : ℕ) (before after : List ℕ) → length (removed h w c before after) ≡ 0 →
    (q : ℕ) → q < area h w → at before q ≡ c → at after q ≢ empty
unfolding removed
removed-none h w c before after e q on stood gone =
    let test : ℕ → Bool = λ p. eqb (at before p) c && eqb (at after p) empty in
    let some_one : 0 < count test (below (area h w)) =
    count-positive test (mem_below (area h w) q on) (and_both (eq-eqb (at before q) c stood) (eq-eqb (at after q) empty gone)) in
    omega (arith, length-pick test (below (area h w)))

removed-some :
    (h w c : ℕ) (before after : List ℕ) → length (removed h w c before after) ≢ 0 →
    (q : ℕ) × (at before q ≡ c) × (at after q ≡ empty)
unfolding removed
removed-some h w c before after n =
    let test : ℕ → Bool = λ p. eqb (at before p) c && eqb (at after p) empty in
    let counted = length-pick test (below (area h w)) in
    let (q, m, both) = count-some test (below (area h w)) (omega arith) in
    (q, eqb-true (at before q) c (and_left _ _ both), eqb-true (at after q) empty (and_right (eqb (at before q) c) _ both))

-- ---- A stone of a player on an empty point of true colours

module _ (h w : ℕ) (cols : List ℕ) (is : TrueColours h w cols) (own : ℕ) (player : Player own) (p : ℕ) (on : p < area h w) (free : at cols p ≡ empty) where
  abbrev put : List ℕ
  put = coloured cols own p

  abbrev moved : List ℕ
  moved = played h w 0 cols own p

  abbrev taking : Clearing (neighbours h w) (at put) (other own) (at (captured h w cols own p))
  unfolding captured
  taking =
      clear-clearing h w put (put-length h w cols is own player p on free) (other own) (player-stone (other own) (other-player own player))

  moved-both : moved ≡ clear h w own (captured h w cols own p)
  unfolding played forbids
  moved-both = refl

  losing : Clearing (neighbours h w) (at (captured h w cols own p)) own (at moved)
  losing =
      rw moved-both
      (clear-clearing h w (captured h w cols own p) (after-length h w cols is own player p on free) own (player-stone own player))

  put-known : (q : ℕ) → at put q ≢ empty → Player (at put q)
  put-known q n =
      ⊎_elim
      (λ s. subst Player (sym (ap (at put) s ∙ put-here h w cols is own player p on free)) player)
      (λ k. let same = coloured-else cols own p q k in subst Player (sym same) (is.known q (λ z. n (same ∙ z))))
      (equal_or_not q p)

  -- a stone that reaches empty stays
  reaching-stays : (q : ℕ) → Reaches (neighbours h w) (at put) q empty → at moved q ≡ at put q
  unfolding captured
  reaching-stays q r =
      let same : at (captured h w cols own p) q ≡ at put q = reaching-same taking q r in
      ⊎_elim
      (λ e.
      losing.others q (λ (z : at (captured h w cols own p) q ≡ own). other-apart own player (sym z ∙ same ∙ e)) ∙ same)
      (λ n.
      reaching-same losing q
      (cleared-spares h w put (put-length h w cols is own player p on free) (other own) (player-stone (other own) (other-player own player)) q n r)
      ∙ same)
      (equal_or_not (at put q) (other own))

  -- a stone that is gone did not reach empty
  gone-stuck : (q : ℕ) → at put q ≢ empty → at moved q ≡ empty → Stuck h w put
  gone-stuck q n e = record { point = q; stone = n; shut = λ r. n (sym (reaching-stays q r) ∙ e) }

  pub taken-stuck : length (removed h w (other own) put moved) ≢ 0 → Stuck h w put
  taken-stuck n =
      let (q, e, gone) = removed-some h w (other own) put moved n in
      gone-stuck q (λ z. player-stone (other own) (other-player own player) (sym e ∙ z)) gone

  pub lost-stuck : length (removed h w own put moved) ≢ 0 → Stuck h w put
  lost-stuck n =
      let (q, e, gone) = removed-some h w own put moved n in
      gone-stuck q (λ z. player-stone own player (sym e ∙ z)) gone

  pub nothing-same : length (removed h w (other own) put moved) ≡ 0 → length (removed h w own put moved) ≡ 0 → moved ≡ put
  unfolding at
  nothing-same taken lost =
      ext_get_or empty moved put (ap length moved-both ∙ clear-length h w (captured h w cols own p) own ∙ sym (put-length h w cols is own player p on free))
      (λ q l.
      ⊎_elim
      (λ e. ⊎_elim (λ z. e ∙ sym z) (λ n. absurd (none-gone q n e)) (equal_or_not (at put q) empty))
      (λ n. left-same losing q n ∙ left-same taking q (λ z. n (left-same losing q n ∙ z)))
      (equal_or_not (at moved q) empty))
    where
      none-gone : (q : ℕ) → at put q ≢ empty → at moved q ≡ empty → ⊥
      none-gone q n e =
          let within : q < area h w = rw (put-length h w cols is own player p on free) at (at-within put q n) in
          ⊎_elim
          (λ mine. removed-none h w own put moved lost q within mine e)
          (λ foe. removed-none h w (other own) put moved taken q within foe e)
          (player-cases (at put q) own (put-known q n) player)
