-- Laws of Tests: what a question answers by the spot where the stone would go, the tests by what is seen of the board, and the superko
-- test by what is told of it.
use Rattle.std.specs.Prelude.{Bool, true, false, ◌&&◌, List, ◌≡◌, ℕ, eqb}
use Rattle.std.proofs.Math.Bool.{not}
use Rattle.std.proofs.Math.Path.{refl, ap, ap₂}
use Rattle.std.proofs.Common.{sym, ◌∙◌}
use Rattle.rules.specs.Lists.{any}
use Rattle.rules.specs.Points.{index}
use Rattle.rules.specs.Colours.{other}
use Rattle.rules.specs.Records.{recorded}
use Rattle.rules.specs.Tests.{ko, captures, superko}
use Rattle.rules.specs.Answers.{SuperKo, number, refuse}
use Rattle.rules.specs.Calls.{off_board, taken, resulting}
use Rattle.rules.proofs.Laws.Lists.{not-both}
use Rattle.board.specs.Board.{colours_of}
use Rattle.board.specs.True.{TrueBoard}
use Rattle.legality.specs.declared.near.Near.{Near}
use Rattle.legality.specs.Near.{near_of, besides, catches_more, caught}
use Rattle.looking.specs.declared.look.Sight.{Sight}
use Rattle.looking.specs.Seen.{Sees}
use Rattle.queries.specs.declared.goban.TestAnswer.{TestAnswer}
use Rattle.queries.specs.Goban.{no_test}
use Rattle.game.specs.declared.state.Game.{Game}
use Rattle.game.specs.View.{turn_of, ko_of, view_of}
use Rattle.checking.specs.declared.spot.Spot.{Spot}
use Rattle.checking.specs.declared.spot.Spot.TheVariants.{Off, Stone, Empty}
use Rattle.rules.specs.Answers as answers
use Rattle.checking.specs.Spot.{spot_of}
use Rattle.checking.specs.Told.{Told, Answer, IfRecorded, at_ko, superko_told, settled, undecided}
use Rattle.checking.specs.Asking.{Asking, Repeating}
use Rattle.asking.specs.declared.tests.Test.{Test}
use Rattle.asking.specs.declared.tests.Test.TheVariants as tests
use Rattle.asking.specs.Tests.{at_empty, tested, tested_near, superko_of}
use Rattle.asking.specs.Promise.{Tested}
use Rattle.checking.specs.Laws.Spot.{Free, off-outside, stone-taken, empty-free}
use Rattle.checking.specs.Laws.Asking.{near-there, spot-there}
use Rattle.checking.specs.Laws.Near.{own-suicide, its-ko, own-captures, own-eye}
use Rattle.checking.specs.Laws.Told.{superko-settled, superko-captures}

-- ---- What is answered

pub tested-damaged : {is : Type 0} {off holds : Bool} → ¬ is → Tested is off holds (record { answer = 3; holds = false })
unfolding no_test number
tested-damaged n = record { damaged = λ _. refl; beyond = λ t. absurd (n t); told = λ t. absurd (n t) }

module _ {is : Type 0} (t : is) (g : Game) (test : ℕ → Bool) (r c : ℕ) (s : Spot)
    (found : s ≡ spot_of g.board.height g.board.width (colours_of g.board) r c) where
  abbrev Answers : TestAnswer → Type 0
  Answers = Tested is (off_board (view_of g) r c) (at_empty (view_of g) test r c)

  pub tested-off : s ≡ Off → Answers (record { answer = 5; holds = false })
  unfolding off_board view_of no_test number
  tested-off e =
      let off = off-outside _ _ _ r c (sym found ∙ e) in
      record { damaged = λ n. absurd (n t); beyond = λ _ _. refl; told = λ _ on. absurd (not-both off on) }

  pub tested-stone : s ≡ Stone → Answers (record { answer = 0; holds = false })
  unfolding off_board taken at_empty view_of number
  tested-stone e =
      let (on, stone) = stone-taken _ _ _ r c (sym found ∙ e) in
      let no' = ap (λ (b : Bool). not (not b) && test (index g.board.width r c)) (sym stone) in
      record { damaged = λ n. absurd (n t); beyond = λ _ off. absurd (not-both off on); told = λ _ _. λ i. record { answer = 0; holds = no' i } }

  pub tested-empty : (p : ℕ) → s ≡ Empty p → (b : Bool) → b ≡ test p → Answers (record { answer = 0; holds = b })
  unfolding off_board taken at_empty view_of number
  tested-empty p e b holds =
      let free : Free g.board.height g.board.width (colours_of g.board) r c p = empty-free _ _ _ r c p (sym found ∙ e) in
      let same = holds ∙ ap₂ (λ (b : Bool) (q : ℕ). not (not b) && test q) (sym free.vacant) free.here in
      record { damaged = λ n. absurd (n t); beyond = λ _ off. absurd (not-both off free.on); told = λ _ _. λ i. record { answer = 0; holds = same i } }

refused_says : (test : Bool) → not (eqb (number (refuse SuperKo test)) 0) ≡ test
unfolding refuse number
refused_says true = refl
refused_says false = refl

module _ (g : Game) where
  abbrev h : ℕ
  h = g.board.height

  abbrev w : ℕ
  w = g.board.width

  abbrev cols : List ℕ
  cols = colours_of g.board

  -- ---- By what is seen of the board

  module _ (r c : ℕ) (is : TrueBoard g.board) (cs : List ℕ) (s : Sight) (sees : Sees g.board r c cs s)
      (x : Spot) (found : x ≡ spot_of s.height s.width cs r c) where
    pub spot-seen : x ≡ spot_of h w cols r c
    spot-seen = found ∙ spot-there g.board r c cs s sees is

    module _ (p : ℕ) (e : x ≡ Empty p) where
      pub near-seen : s.near ≡ near_of h w cols p
      near-seen = near-there g.board r c cs s sees ∙ ap (near_of h w cols) (sym (empty-free _ _ _ r c p (sym spot-seen ∙ e)).here)

      module _ (own : ℕ) (mover : own ≡ turn_of g.turn) where
        at-board : (test : Test) → tested_near s.near cs h w own g.ko p test ≡ tested (view_of g) p test
        unfolding view_of
        at-board tests.Capture = own-captures g p s.near near-seen own mover
        at-board tests.Suicide = own-suicide g p s.near near-seen own mover
        at-board tests.Ko = its-ko g p s.near near-seen _ refl
        at-board tests.Eye = own-eye g p is cs sees.colours own mover

        pub near-tested : (test : Test) → tested_near s.near cs s.height s.width own g.ko p test ≡ tested (view_of g) p test
        near-tested test = (λ i. tested_near s.near cs (sees.height i) (sees.width i) own g.ko p test) ∙ at-board test

  -- ---- The superko test

  module _ (p : ℕ) (n : Near) (near : n ≡ near_of h w cols p) (own : ℕ) (mover : own ≡ turn_of g.turn) (k : Bool) (at-ko : k ≡ at_ko g.ko p)
      (t : Told) (told : t ≡ superko_told (any (caught (other own)) (besides n)) (k && not (any catches_more (besides n))) g.records) where
    by-rules : t ≡ superko_told (captures h w cols (turn_of g.turn) p) (ko h w cols (ko_of g.ko) p) g.records
    by-rules = told ∙ (λ i. superko_told (own-captures g p n near own mover i) (its-ko g p n near k at-ko i) g.records)

    module _ (bytes : List ℕ) where
      abbrev again : Bool
      again = recorded bytes g.records (resulting (view_of g) p)

      settles : settled t again ≡ number (refuse SuperKo (superko_of (view_of g) bytes p))
      unfolding view_of superko_of superko
      settles =
          ap (λ (x : Told). settled x again) by-rules
          ∙ superko-settled (captures h w cols (turn_of g.turn) p) (ko h w cols (ko_of g.ko) p) g.records again

      pub superko-known : (a : answers.Answer) → t ≡ Answer a → not (eqb (number a) 0) ≡ superko_of (view_of g) bytes p
      superko-known a e =
          ap (λ (x : ℕ). not (eqb x 0)) (ap (λ (x : Told). settled x again) (sym e) ∙ settles) ∙ refused_says (superko_of (view_of g) bytes p)

      pub superko-again : t ≡ IfRecorded → again ≡ superko_of (view_of g) bytes p
      superko-again e =
          sym (refused_says again)
          ∙ ap (λ (x : ℕ). not (eqb x 0)) (ap (λ (x : Told). settled x again) (sym e) ∙ settles)
          ∙ refused_says (superko_of (view_of g) bytes p)

    pub superko-repeating : (len : ℕ) → Asking g len p → t ≡ IfRecorded → Repeating g len p
    superko-repeating len asking e =
        record { asking = asking; captures = superko-captures _ _ g.records (ap undecided (sym by-rules ∙ e)) }
