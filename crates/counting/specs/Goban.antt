-- What the queries on a whole board tell: for each, the result that refuses by a number, with 0 for every value, and what the rules say
-- of the board's colours.
use Rattle.std.specs.Prelude.{ℕ}
use Rattle.rules.specs.Colours.{black, white}
use Rattle.rules.specs.Chain.{chains}
use Rattle.rules.specs.Game.{stones}
use Rattle.rules.specs.Hash.{hash}
use Rattle.rules.specs.Answers.{number, Accepted}
use Rattle.board.specs.declared.goban.Board.{Board}
use Rattle.board.specs.Board.{colours_of}
use Rattle.counting.specs.declared.goban.SizeAnswer.{SizeAnswer}
use Rattle.counting.specs.declared.goban.HashAnswer.{HashAnswer}
use Rattle.counting.specs.declared.goban.StonesAnswer.{StonesAnswer}
use Rattle.counting.specs.declared.goban.ChainsAnswer.{ChainsAnswer}

unfoldable pub no_size : ℕ → SizeAnswer
no_size a = record { answer = a; height = 0; width = 0 }

unfoldable pub size_of : Board → SizeAnswer
size_of b = record { answer = number Accepted; height = b.height; width = b.width }

unfoldable pub no_hash : ℕ → HashAnswer
no_hash a = record { answer = a; hash = 0 }

unfoldable pub hash_of : Board → HashAnswer
hash_of b = record { answer = number Accepted; hash = hash (colours_of b) }

unfoldable pub no_stones : ℕ → StonesAnswer
no_stones a = record { answer = a; black = 0; white = 0 }

unfoldable pub stones_of : Board → StonesAnswer
stones_of b = record { answer = number Accepted; black = stones (colours_of b) black; white = stones (colours_of b) white }

unfoldable pub no_chains : ℕ → ChainsAnswer
no_chains a = record { answer = a; chains = 0 }

unfoldable pub chains_of : Board → ChainsAnswer
chains_of b = record { answer = number Accepted; chains = chains b.height b.width (colours_of b) }
