-- A list as text, computed.
use Rattle.std.specs.Prelude.{◌≡◌, refl, [], ◌∷◌}
use Rattle.spelling.specs.Text.{ascii}
use Rattle.writing.specs.Figures.{decimal, spaced}
use Rattle.wording.specs.Replies.{points}

pub listed : points (0 ∷ 12 ∷ []) ≡ ascii "0 2 0 12"
unfolding points spaced decimal
listed = refl
