-- Laws of what stands near a point of a true state: the tests on it are the rules' tests for the player to move.
use Rattle.std.specs.Prelude.{Bool, true, false, cond, not, ◌&&◌, List, ◌≡◌, refl, ℕ, eqb, None, Some}
use Rattle.std.proofs.Common.{sym, ◌∙◌, subst}
use Rattle.std.proofs.Math.Path.{ap}
use Rattle.rules.specs.Lists.{any}
use Rattle.rules.specs.Colours.{other}
use Rattle.rules.specs.Tests.{suicide, is_ko_point, ko, eye, captures}
use Rattle.board.specs.declared.goban.Board.{Board}
use Rattle.board.specs.Board.{colours_of}
use Rattle.board.specs.True.{TrueBoard}
use Rattle.board.specs.Laws.Board.{area-fits}
use Rattle.history.specs.Packing.{on_largest}
use Rattle.legality.specs.declared.near.Near.{Near}
use Rattle.looking.specs.declared.look.Seen.{Seen}
use Rattle.legality.specs.Near.{near_of, besides, saves, catches_more, caught}
use Rattle.looking.specs.Seen.{seen_of, Shows, near_in}
use Rattle.legality.specs.Laws.Near.{suicide-near, ko-near, captures-near}
use Rattle.looking.specs.Laws.Seen.{seen-shows, near-seen}
use Rattle.looking.specs.Laws.Sight.{sight-at}
use Rattle.eyes.specs.Laws.Eye.{eye-same}
use Rattle.game.specs.declared.state.Game.{Game}
use Rattle.game.specs.View.{no_point, turn_of, ko_of}
use Rattle.checking.specs.Told.{at_ko}

-- ---- The ko point

at_ko-point : (h w : ℕ) (cols : List ℕ) (x p : ℕ) → at_ko x p ≡ is_ko_point h w cols (ko_of x) p
unfolding at_ko ko_of is_ko_point
at_ko-point h w cols x p = go (eqb x no_point)
  where
    go : (t : Bool) → not t && eqb p x ≡ is_ko_point h w cols (cond t None (Some x)) p
    go true = refl
    go false = refl

-- ---- What a true board shows

module _ (b : Board) (is : TrueBoard b) (s : Seen) (read : s ≡ seen_of b.height b.width (colours_of b)) where
  pub read-shows : Shows b.height b.width s.colours s.liberties s.stones
  read-shows =
      subst (λ (x : Seen). Shows b.height b.width x.colours x.liberties x.stones) (sym read)
      (seen-shows b.height b.width (colours_of b) (area-fits is.table.size))

  pub read-near : (p : ℕ) → near_in b.height b.width s.colours s.liberties s.stones p ≡ near_of b.height b.width (colours_of b) p
  read-near p =
      ap (λ (x : Seen). near_in b.height b.width x.colours x.liberties x.stones p) read
      ∙ near-seen b.height b.width (colours_of b) (area-fits is.table.size) p

  pub read-colours : s.colours ≡ on_largest (colours_of b)
  unfolding seen_of
  read-colours = ap (λ (x : Seen). x.colours) read

-- ---- The four

module _ (g : Game) (p : ℕ) where
  abbrev h : ℕ
  h = g.board.height

  abbrev w : ℕ
  w = g.board.width

  abbrev cols : List ℕ
  cols = colours_of g.board

  module _ (n : Near) (near : n ≡ near_of h w cols p) where
    pub its-ko : (k : Bool) → k ≡ at_ko g.ko p → k && not (any catches_more (besides n)) ≡ ko h w cols (ko_of g.ko) p
    its-ko k at-ko =
        ap (λ (b : Bool). b && not (any catches_more (besides n))) (at-ko ∙ at_ko-point h w cols g.ko p) ∙ ko-near h w cols n p near (ko_of g.ko)

    module _ (own : ℕ) (mover : own ≡ turn_of g.turn) where
      pub own-suicide : not (any (saves own) (besides n)) ≡ suicide h w cols (turn_of g.turn) p
      own-suicide = suicide-near h w cols n p near own ∙ ap (λ (c : ℕ). suicide h w cols c p) mover

      pub own-captures : any (caught (other own)) (besides n) ≡ captures h w cols (turn_of g.turn) p
      own-captures = captures-near h w cols n p near own ∙ ap (λ (c : ℕ). captures h w cols c p) mover

  pub own-eye : TrueBoard g.board → (cs : List ℕ) → cs ≡ on_largest cols → (own : ℕ) → own ≡ turn_of g.turn
      → eye h w cs own p ≡ eye h w cols (turn_of g.turn) p
  own-eye is cs read own mover =
      eye-same h w cs cols own (λ q on. sight-at g.board is cs read q) p
      ∙ ap (λ (c : ℕ). eye h w cols c p) mover
