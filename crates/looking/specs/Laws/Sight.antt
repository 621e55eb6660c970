-- Laws of what is seen of a true board for a stone: the colours are read one by one, two bits hold each, and with the board's hash they make its record.
use Rattle.std.specs.Prelude.{◌≡◌, refl, ℕ, ◌+◌, ◌≤◌, ◌<◌, length, set, replicate}
use Rattle.std.proofs.Math.Path.{ap, ap₂}
use Rattle.std.proofs.Common.{◌∙◌, arith, get_or-set_same}
use mathlib.Core.List.{List, [], ◌∷◌, ◌++◌}
use Rattle.std.proofs.Math.Logic.{⊎_elim}
use Rattle.std.proofs.Math.ListN.{length-set}
use Rattle.std.proofs.Math.Seq.{get_or-set_other}
use borrow.Author.Count.{below_none, below_more}
use Rattle.rules.specs.Sizes.{max_area, slots, hash_bytes}
use Rattle.rules.specs.Points.{area}
use Rattle.rules.specs.Colours.{empty, at}
use Rattle.rules.specs.Game.{Player}
use Rattle.rules.specs.Records.{low_bytes, record_of}
use Rattle.rules.proofs.Laws.Lists.{equal_or_not, get_or-replicate-same}
use Rattle.board.specs.declared.goban.Board.{Board}
use Rattle.board.specs.Board.{owner, colours_of}
use Rattle.board.specs.True.{TrueBoard}
use Rattle.board.specs.Laws.Board.{area-fits, length-colours, at-colours, empty-unowned, owned-player}
use Rattle.looking.specs.declared.look.Sight.{Sight}
use Rattle.looking.specs.Seen.{Sees, Partly}
use Rattle.history.specs.Packing.{on_largest, colour_part, record_by, Packing}
use Rattle.history.proofs.Laws.Packing.{length-on_largest, at-on_largest, part-on_largest}

module _ (b : Board) (is : TrueBoard b) where
  colours-fit : length (colours_of b) ≤ max_area
  colours-fit = rw (length-colours b) (area-fits is.table.size)

  small : (p : ℕ) → at (colours_of b) p < 4
  unfolding Player
  small p =
      rw (at-colours b is.table p)
      (⊎_elim (λ e. rw (empty-unowned b is.table p e) (omega arith))
      (λ n. ⊎_elim (λ e. omega arith) (λ e. omega arith) (owned-player b is.table p n)) (equal_or_not (owner b p) slots))

  module _ (cs : List ℕ) (seen : cs ≡ on_largest (colours_of b)) where
    pub sight-long : length cs ≡ max_area
    sight-long = ap length seen ∙ length-on_largest (colours_of b)

    pub sight-at : (p : ℕ) → at cs p ≡ at (colours_of b) p
    sight-at p = ap (λ (x : List ℕ). at x p) seen ∙ at-on_largest (colours_of b) colours-fit p

    sight-packing : Packing cs
    sight-packing = record { small = λ p. rw (sight-at p) (small p) }

    sight-record : record_by b.hash cs ≡ record_of (colours_of b)
    unfolding record_by colour_part record_of
    sight-record =
        ap (record_by b.hash) seen
        ∙ ap₂ (λ (x : ℕ) (part : List ℕ). low_bytes hash_bytes x ++ (part ++ (0 ∷ []))) is.table.hashed (part-on_largest (colours_of b) colours-fit)

  module _ (r c : ℕ) (cs : List ℕ) (s : Sight) (sees : Sees b r c cs s) where
    pub sees-packing : Packing cs
    sees-packing = sight-packing cs sees.colours

    pub sees-record : record_by s.hash cs ≡ record_of (colours_of b)
    sees-record = ap (λ (hash : ℕ). record_by hash cs) sees.hash ∙ sight-record cs sees.colours

-- ---- Colours read one by one

module _ (b : Board) where
  pub unread : Partly b 0 (replicate max_area empty)
  unfolding at
  unread = record { long = refl; read = below_none _; rest = λ p l. get_or-replicate-same max_area p empty }

  pub one-read : (cs : List ℕ) (n v : ℕ) → Partly b n cs → n < max_area → n < area b.height b.width → v ≡ at (colours_of b) n → Partly b (n + 1) (set cs n v)
  unfolding at
  one-read cs n v done low on e =
      record {
        long = length-set cs n v ∙ done.long;
        read =
            below_more (λ p. at (set cs n v) p ≡ at (colours_of b) p) n (λ p l. get_or-set_other cs n p v empty (λ s. omega arith) ∙ done.read p l)
            (get_or-set_same cs n v empty (omega (arith, done.long)) ∙ e);
        rest = λ p l. get_or-set_other cs n p v empty (λ s. omega arith) ∙ done.rest p l;
      }
