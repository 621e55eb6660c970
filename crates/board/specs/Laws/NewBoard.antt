-- A new board of a size that 01 allows is true, and every point of it is empty; a board with no stone is empty too.
use Rattle.std.specs.Prelude.{◌≡◌, refl, false, List, ℕ, zero, suc, ◌<◌, eqb, length, replicate}
use Rattle.std.proofs.Math.Path.{sym, ap}
use Rattle.std.proofs.Common.{◌∙◌, eq-eqb}
use Rattle.std.proofs.Math.Logic.{⊎_elim}
use native.Mathlib.Omega.{arith}
use Rattle.std.proofs.Math.ListN.{length-replicate}
use Rattle.std.proofs.Math.Seq.{ext_get_or}
use Rattle.rules.specs.Sizes.{max_area, slots}
use Rattle.rules.specs.Points.{area}
use Rattle.rules.specs.Colours.{empty, black, white, at}
use Rattle.rules.specs.Hash.{stone_hash, hash_from, hash}
use Rattle.rules.specs.Game.{Player, TrueSize, TrueColours, stones, empty_board}
use Rattle.rules.proofs.Laws.Lists.{not-both, equal_or_not, get_or-tabulate-zero, get_or-replicate-same, count-positive, mem-get_or}
use Rattle.chains.specs.Group.{free_chain, used}
use Rattle.chains.specs.Laws.Group.{table-unused}
use Rattle.board.specs.declared.goban.Board.{Board}
use Rattle.board.specs.Board.{owner, chain_in, colour_at, colours_of, new_board}
use Rattle.board.specs.True.{TrueBoard}
use Rattle.board.specs.Laws.Board.{length-colours}

-- ---- A board whose points are all empty

module _ (h w : ℕ) where
  -- what is as long as the board and empty everywhere is the empty board
  all-empty : (cols : List ℕ) → length cols ≡ area h w → ((p : ℕ) → p < length cols → at cols p ≡ empty) → cols ≡ empty_board h w
  unfolding empty_board at
  all-empty cols whole each =
      ext_get_or empty cols (replicate (area h w) empty) (whole ∙ sym (length-replicate (area h w) empty))
      (λ p l. each p l ∙ sym (get_or-replicate-same (area h w) p empty))

  -- no stone of either colour stands there
  pub no-stones : (cols : List ℕ) → TrueColours h w cols → stones cols black ≡ 0 → stones cols white ≡ 0 → cols ≡ empty_board h w
  unfolding at stones Player
  no-stones cols is no_black no_white =
      all-empty cols is.covers
      (λ p l.
      let one : (c : ℕ) → stones cols c ≡ 0 → at cols p ≡ c → at cols p ≡ empty =
      λ c none' e. let some' = count-positive (eqb c) (mem-get_or cols p empty l) (eq-eqb c (at cols p) (sym e)) in omega arith in
      ⊎_elim (λ e. e) (λ n. ⊎_elim (one black no_black) (one white no_white) (is.known p n)) (equal_or_not (at cols p) empty))

-- no stone adds nothing to the hash
pub hash-none : (n p : ℕ) → hash_from p (replicate n empty) ≡ 0
unfolding stone_hash
hash-none zero p = refl
hash-none (suc n) p = hash-none n (suc p)

-- ---- A new board

module _ (h w : ℕ) where
  abbrev new : Board
  new = new_board h w

  unowned : (p : ℕ) → owner new p ≡ slots
  unfolding new_board owner
  unowned p = get_or-replicate-same max_area p slots

  unused : (s : ℕ) → used (chain_in new s) ≡ false
  unfolding new_board chain_in
  unused s = table-unused slots s

  uncoloured : (p : ℕ) → colour_at new p ≡ empty
  unfolding new_board chain_in colour_at free_chain
  uncoloured p = ap (λ c. c.colour) (get_or-replicate-same slots (owner new p) free_chain)

  pub new-colours : colours_of new ≡ empty_board h w
  unfolding colours_of new_board at
  new-colours =
      all-empty h w (colours_of new) (length-colours new)
      (λ p l. get_or-tabulate-zero (colour_at new) (area h w) p empty (rw (length-colours new) at l) ∙ uncoloured p)

  new-hash : hash (colours_of new) ≡ 0
  unfolding hash empty_board
  new-hash = ap hash new-colours ∙ hash-none (area h w) 0

  pub new_true : TrueSize h w → TrueBoard new
  unfolding new_board
  new_true size =
      record {
        table =
            record {
              size = size;
              shape =
                  record {
                    owners = length-replicate max_area slots;
                    links = length-replicate {A = ℕ} max_area 0;
                    chains = length-replicate slots free_chain;
                  };
              owned = λ p n. absurd (n (unowned p));
              exact = λ s l u. absurd (not-both u (unused s));
              hashed = sym new-hash;
            };
        largest = λ p q m n e. absurd (n (uncoloured p));
        breathes = λ s l u. absurd (not-both u (unused s));
      }
