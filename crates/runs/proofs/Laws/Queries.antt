-- Every public query on a board answers alike boards alike: each is a function of height, width and colours.
use Rattle.std.specs.Prelude.{◌≡◌, Bool, false, ◌&&◌, ◌||◌, List, ℕ, eqb, leb, length}
use Rattle.std.proofs.Math.Bool.{cond, not}
use Rattle.rules.specs.Colours.{empty, black, white, at}
use Rattle.rules.specs.Points.{index}
use Rattle.rules.specs.Flood.{chain, touches}
use Rattle.rules.specs.Chain.{chains, liberty}
use Rattle.rules.specs.Hash.{hash}
use Rattle.rules.specs.Picture.{picture, picture_answer}
use Rattle.rules.specs.Answers.{Accepted, number}
use Rattle.rules.specs.Game.{stones}
use Rattle.rules.specs.Calls.{Placement}
use Rattle.board.specs.declared.goban.Board.{Board}
use Rattle.board.specs.Board.{colours_of}
use Rattle.counting.specs.declared.goban.SizeAnswer.{SizeAnswer}
use Rattle.counting.specs.declared.goban.HashAnswer.{HashAnswer}
use Rattle.counting.specs.declared.goban.StonesAnswer.{StonesAnswer}
use Rattle.counting.specs.declared.goban.ChainsAnswer.{ChainsAnswer}
use Rattle.queries.specs.declared.goban.ColourAnswer.{ColourAnswer}
use Rattle.queries.specs.declared.goban.TestAnswer.{TestAnswer}
use Rattle.grouping.specs.declared.group.ChainAnswer.{ChainAnswer}
use Rattle.vetting.specs.Answered.{off_board, Answered}
use Rattle.queries.specs.Goban.{no_colour, colour_of, no_test, breathes}
use Rattle.counting.specs.Goban.{no_size, size_of, no_hash, hash_of, no_stones, stones_of, no_chains, chains_of}
use Rattle.grouping.specs.Group.{no_chain, chain_at, chain_of, liberty_at}
use Rattle.listing.specs.declared.list.Listed.{Listed}
use Rattle.viewing.specs.declared.shows.Question.{Question}
use Rattle.listing.specs.Lists as listing
use Rattle.runs.specs.Alike.{placement_of, AlikeBoards}
use Rattle.runs.proofs.Laws.Asked.{query-alike, filling-alike}

abbrev outside : ℕ → ℕ → Placement → Bool
outside r c p = leb p.height r || leb p.width c

module _ {b c : Board} (like : AlikeBoards b c) where
  pub size-alike : {r r' : SizeAnswer} → Answered b false no_size (size_of b) r → Answered c false no_size (size_of c) r' → r ≡ r'
  unfolding placement_of size_of
  size-alike = query-alike like (λ p. false) no_size (λ p. record { answer = number Accepted; height = p.height; width = p.width })

  pub hash-alike : {r r' : HashAnswer} → Answered b false no_hash (hash_of b) r → Answered c false no_hash (hash_of c) r' → r ≡ r'
  unfolding placement_of hash_of
  hash-alike = query-alike like (λ p. false) no_hash (λ p. record { answer = number Accepted; hash = hash p.colours })

  pub stones-alike : {r r' : StonesAnswer} → Answered b false no_stones (stones_of b) r → Answered c false no_stones (stones_of c) r' → r ≡ r'
  unfolding placement_of stones_of
  stones-alike =
      query-alike like (λ p. false) no_stones
      (λ p. record { answer = number Accepted; black = stones p.colours black; white = stones p.colours white })

  pub chains-alike : {r r' : ChainsAnswer} → Answered b false no_chains (chains_of b) r → Answered c false no_chains (chains_of c) r' → r ≡ r'
  unfolding placement_of chains_of
  chains-alike =
      query-alike like (λ p. false) no_chains (λ p. record { answer = number Accepted; chains = chains p.height p.width p.colours })

  module _ (row column : ℕ) where
    pub colour-alike :
        {r r' : ColourAnswer} → Answered b (off_board b row column) no_colour (colour_of b row column) r →
        Answered c (off_board c row column) no_colour (colour_of c row column) r' → r ≡ r'
    unfolding placement_of off_board colour_of
    colour-alike =
        query-alike like (outside row column) no_colour (λ p. record { answer = number Accepted; colour = at p.colours (index p.width row column) })

    pub breathes-alike :
        {r r' : TestAnswer} → Answered b (off_board b row column) no_test (breathes b row column) r →
        Answered c (off_board c row column) no_test (breathes c row column) r' → r ≡ r'
    unfolding placement_of off_board breathes
    breathes-alike =
        query-alike like (outside row column) no_test
        (λ p. record { answer = number Accepted; holds = touches p.height p.width p.colours empty (index p.width row column) })

    pub chain-alike :
        {r r' : ChainAnswer} → Answered b (off_board b row column) no_chain (chain_of b row column) r →
        Answered c (off_board c row column) no_chain (chain_of c row column) r' → r ≡ r'
    unfolding placement_of off_board chain_of
    chain-alike =
        query-alike like (outside row column) no_chain
        (λ p.
        cond (eqb (at p.colours (index p.width row column)) empty) (no_chain (number Accepted))
        (chain_at p.height p.width p.colours (index p.width row column)))

    pub liberty-alike :
        (row' column' : ℕ) {r r' : TestAnswer} →
        Answered b (off_board b row column || off_board b row' column') no_test (liberty_at b row column row' column') r →
        Answered c (off_board c row column || off_board c row' column') no_test (liberty_at c row column row' column') r' → r ≡ r'
    unfolding placement_of off_board liberty_at
    liberty-alike row' column' =
        query-alike like (λ p. outside row column p || outside row' column' p) no_test
        (λ p.
        record {
          answer = number Accepted;
          holds =
              not (eqb (at p.colours (index p.width row column)) empty)
              && liberty p.height p.width p.colours (chain p.height p.width p.colours (index p.width row column)) (index p.width row' column');
        })

  -- ---- Calls that fill a lent buffer

  pub list-alike :
      (question : Question) (before after after' : List ℕ) (r r' : Listed) → listing.Lists b question before r after → listing.Lists c question before r' after' →
      (r ≡ r') × (after ≡ after')
  unfolding placement_of listing.Lists
  list-alike question before after after' r r' =
      filling-alike like (λ p. listing.list_answer p.height p.width (length before) question)
      (λ p. listing.listed p.height p.width p.colours question)

  pub colours-alike :
      {before after after' : List ℕ} {r r' : Listed} → listing.Answered b (listing.length_answer b.height b.width (length before)) (colours_of b) before r after →
      listing.Answered c (listing.length_answer c.height c.width (length before)) (colours_of c) before r' after' → (r ≡ r') × (after ≡ after')
  unfolding placement_of
  colours-alike {before} = filling-alike like (λ p. listing.length_answer p.height p.width (length before)) (λ p. p.colours)

  pub picture-alike :
      {before after after' : List ℕ} {r r' : Listed} →
      listing.Answered b (picture_answer b.height b.width before) (picture b.height b.width (colours_of b)) before r after →
      listing.Answered c (picture_answer c.height c.width before) (picture c.height c.width (colours_of c)) before r' after' →
      (r ≡ r') × (after ≡ after')
  unfolding placement_of
  picture-alike {before} = filling-alike like (λ p. picture_answer p.height p.width before) (λ p. picture p.height p.width p.colours)
