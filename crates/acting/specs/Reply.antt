-- What a question leaves at the desk: the text of what is shown, and nothing else.
use Rattle.std.specs.Prelude.{◌≡◌, cond, List, ℕ}
use Rattle.rules.specs.Answers.{Answer, Damaged, number, accepts}
use Rattle.rules.specs.Picture.{picture}
use Rattle.board.specs.Board.{colours_of}
use Rattle.board.specs.True.{TrueBoard}
use Rattle.game.specs.declared.state.Game.{Game}
use Rattle.game.specs.View.{view_of, TrueState}
use Rattle.writing.specs.Figures.{decimal, hex}
use Rattle.wording.specs.Replies.{points}
use Rattle.stating.specs.State.{state}
use Rattle.telling.specs.Reply.{Reply, TrueDesk, Stays}

-- the points, or the refusal's number alone
unfoldable pub listed : Answer → List ℕ → List ℕ
listed answer ps = cond (accepts answer) (points ps) (decimal (number answer))

pub record Lists (answer : Answer) (ps : List ℕ) (g : Game) (bytes : List ℕ) (a : Reply) : Type 0 where
  pub told : TrueDesk g bytes → a.text ≡ listed answer ps
  pub damaged : ¬ TrueDesk g bytes → a.text ≡ decimal (number Damaged)
  pub stays : Stays g bytes a

pub record States (g : Game) (bytes : List ℕ) (a : Reply) : Type 0 where
  pub told : TrueState g → a.text ≡ state (view_of g)
  pub damaged : ¬ TrueState g → a.text ≡ decimal (number Damaged)
  pub stays : Stays g bytes a

pub record Draws (g : Game) (bytes : List ℕ) (a : Reply) : Type 0 where
  pub told : TrueBoard g.board → a.text ≡ hex (picture g.board.height g.board.width (colours_of g.board))
  pub damaged : ¬ TrueBoard g.board → a.text ≡ decimal (number Damaged)
  pub stays : Stays g bytes a

-- words, and nothing else
pub record Says (text : List ℕ) (g : Game) (bytes : List ℕ) (a : Reply) : Type 0 where
  pub said : a.text ≡ text
  pub stays : Stays g bytes a
