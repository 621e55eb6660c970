-- Laws of Near: the tests on what stands near are the rules' tests of suicide, ko and capture.
use Rattle.std.specs.Prelude.{◌≡◌, cond, ◌&&◌, ◌||◌, List, map, ◌≢◌, Option}
use Rattle.std.proofs.Math.Path.{refl, ap}
use Rattle.std.proofs.Common.{◌∙◌}
use Rattle.std.proofs.Math.Bool.{Bool, true, false, not, or-false}
use Rattle.std.proofs.Math.Logic.{⊎_elim}
use Prim.Native.Nat.{ℕ}
use native.Mathlib.Omega.{arith}
use Rattle.std.proofs.Math.Dec.{eqb, ltb}
use borrow.Author.Tests.{eqb-true, eq-eqb, ne_eqb}
use Rattle.rules.specs.Lists.{any}
use Rattle.rules.specs.Colours.{empty, other, at}
use Rattle.rules.specs.Points.{sides, neighbours}
use Rattle.rules.specs.Chain.{size, liberties}
use Rattle.rules.specs.Tests.{in_atari, suicide, is_ko_point, ko, captures}
use Rattle.rules.proofs.Laws.Lists.{decided, equal_or_not, any-or, any_same}
use Rattle.legality.specs.declared.near.Near.{Near}
use Rattle.legality.specs.declared.near.Beside.{Beside}
use Rattle.legality.specs.Near.{of_stone, seen, near_of, besides, caught, catches_more, saves}
use Rattle.legality.specs.Laws.Lists.{not-or, any-map, present-map}

-- ---- What keeps a stone alive, case by case

-- no colour is its own opponent, and the empty colour is no one's
other-apart : (own : ℕ) → eqb own (other own) ≡ false
unfolding other
other-apart own =
    ⊎_elim
    (λ e. ne_eqb own (other own) (λ (z : own ≡ other own). let f : other own ≡ 2 = ap (λ (t : Bool). cond t 2 1) (eq-eqb own 1 e) in omega arith))
    (λ n. ne_eqb own (other own) (λ (z : own ≡ other own). n (z ∙ ap (λ (t : Bool). cond t 2 1) (ne_eqb own 1 n))))
    (equal_or_not own 1)

other-stone : (own : ℕ) → eqb empty (other own) ≡ false
unfolding other
other-stone own = go (eqb own 1)
  where
    go : (t : Bool) → eqb 0 (cond t 2 1) ≡ false
    go true = refl
    go false = refl

module _ (own : ℕ) (b : Beside) where
  pub saves-empty : b.colour ≡ empty → saves own b ≡ true
  unfolding saves
  saves-empty e = simp (eq-eqb b.colour empty e)

  pub saves-own : b.colour ≢ empty → b.colour ≡ own → saves own b ≡ not (eqb b.liberties 1)
  unfolding saves caught
  saves-own n e =
      let enemy : eqb b.colour (other own) ≡ false = ap (λ (c : ℕ). eqb c (other own)) e ∙ other-apart own in
      simp (ne_eqb b.colour empty n, eq-eqb b.colour own e, enemy) (or-false (not (eqb b.liberties 1)))

  pub saves-other : b.colour ≢ empty → b.colour ≢ own → saves own b ≡ caught (other own) b
  unfolding saves
  saves-other n m = simp (ne_eqb b.colour empty n, ne_eqb b.colour own m)

-- ---- What stands beside the point

module _ (h w : ℕ) (cols : List ℕ) where
  besides-near : (p : ℕ) → besides (near_of h w cols p) ≡ map (seen h w cols) (neighbours h w p)
  unfolding besides near_of neighbours
  besides-near p = present-map (seen h w cols) (sides h w p)

  any-near : (f : Beside → Bool) (g : ℕ → Bool) → ((q : ℕ) → f (seen h w cols q) ≡ g q) → (n : Near) (p : ℕ) → n ≡ near_of h w cols p
      → any f (besides n) ≡ any g (neighbours h w p)
  any-near f g e n p is =
      ap (λ (m : Near). any f (besides m)) is
      ∙ ap (any f) (besides-near p)
      ∙ any-map f (seen h w cols) (neighbours h w p)
      ∙ any_same (λ q. f (seen h w cols q)) g (neighbours h w p) (λ q m. e q)

  -- ---- Place by place the tests ask what the rules ask

  saves-seen :
      (own q : ℕ) →
      saves own (seen h w cols q) ≡ eqb (at cols q) empty || (eqb (at cols q) own && not (in_atari h w cols q)) || (eqb (at cols q) (other own) && in_atari h w cols q)
  unfolding saves caught seen of_stone in_atari
  saves-seen own q = go (eqb (at cols q) empty) (eqb (at cols q) own) (eqb (at cols q) (other own)) (liberties h w cols q)
    where
      go : (t a b : Bool) (l : ℕ) → t || (a && not (eqb (cond t 0 l) 1)) || (b && eqb (cond t 0 l) 1) ≡ t || (a && not (eqb l 1)) || (b && eqb l 1)
      go true a b l = refl
      go false a b l = refl

  more-seen :
      (q : ℕ) → catches_more (seen h w cols q) ≡ not (eqb (at cols q) empty) && in_atari h w cols q && ltb 1 (size h w cols q)
  unfolding catches_more seen of_stone in_atari
  more-seen q = go (eqb (at cols q) empty) (liberties h w cols q) (size h w cols q)
    where
      go : (t : Bool) (l s : ℕ) → not t && eqb (cond t 0 l) 1 && ltb 1 (cond t 0 s) ≡ not t && eqb l 1 && ltb 1 s
      go true l s = refl
      go false l s = refl

  caught-seen : (own q : ℕ) → caught (other own) (seen h w cols q) ≡ eqb (at cols q) (other own) && in_atari h w cols q
  unfolding caught seen of_stone in_atari
  caught-seen own q =
      ⊎_elim
      (λ t.
      let enemy : eqb (at cols q) (other own) ≡ false = ap (λ (c : ℕ). eqb c (other own)) (eqb-true (at cols q) empty t) ∙ other-stone own in
      simp enemy)
      (λ (f : eqb (at cols q) empty ≡ false). simp f)
      (decided (eqb (at cols q) empty))

  -- ---- The tests on what stands near are the rules'

  module _ (n : Near) (p : ℕ) (is : n ≡ near_of h w cols p) where
    pub suicide-near : (own : ℕ) → not (any (saves own) (besides n)) ≡ suicide h w cols own p
    unfolding suicide
    suicide-near own =
        let ns = neighbours h w p in
        let vacant : ℕ → Bool = λ q. eqb (at cols q) empty in
        let safe : ℕ → Bool = λ q. eqb (at cols q) own && not (in_atari h w cols q) in
        let prey : ℕ → Bool = λ q. eqb (at cols q) (other own) && in_atari h w cols q in
        ap not
        (any-near (saves own) (λ q. vacant q || safe q || prey q) (saves-seen own) n p is
        ∙ any-or (λ q. vacant q || safe q) prey _ ns (λ q. refl)
        ∙ ap (λ (t : Bool). t || any prey ns) (any-or vacant safe _ ns (λ q. refl)))
        ∙ not-or (any vacant ns || any safe ns) (any prey ns)
        ∙ ap (λ (t : Bool). t && not (any prey ns)) (not-or (any vacant ns) (any safe ns))

    pub ko-near : (point : Option ℕ) → is_ko_point h w cols point p && not (any catches_more (besides n)) ≡ ko h w cols point p
    unfolding ko
    ko-near point = ap (λ (t : Bool). is_ko_point h w cols point p && not t) (any-near catches_more _ more-seen n p is)

    pub captures-near : (own : ℕ) → any (caught (other own)) (besides n) ≡ captures h w cols own p
    unfolding captures
    captures-near own = any-near (caught (other own)) _ (caught-seen own) n p is
