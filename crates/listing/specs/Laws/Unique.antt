-- The promises of this crate leave nothing free: two results that meet one have the same number, the same count and the same buffer.
use Rattle.std.specs.Prelude.{◌≡◌, List, ℕ}
use Rattle.std.proofs.Common.{sym, ap₂, ◌∙◌, ⊎_elim}
use Rattle.rules.specs.Answers.{Answer}
use Rattle.board.specs.declared.goban.Board.{Board}
use Rattle.board.specs.Laws.Judge.{true-or-not}
use Rattle.listing.specs.declared.list.Listed.{Listed}
use Rattle.viewing.specs.declared.shows.Question.{Question}
use Rattle.viewing.specs.Front.{Front}
use Rattle.listing.specs.Lists.{Left, Answered, Lists}

module _ {places before after after' : List ℕ} where
  pub front-unique : {count count' : ℕ} → Front places before count after → Front places before count' after' → (count ≡ count') × (after ≡ after')
  front-unique f f' = (f.counted ∙ sym f'.counted, f.buffer ∙ sym f'.buffer)

  module _ {r r' : Listed} where
    pub left_unique : {answer : Answer} → Left answer places before r after → Left answer places before r' after' → (r ≡ r') × (after ≡ after')
    left_unique l l' = (
      ap₂ {C = Listed} (λ n c. record { number = n; count = c }) (l.answered ∙ sym l'.answered) (l.counted ∙ sym l'.counted),
      l.buffer ∙ sym l'.buffer,
    )

    -- of the colours and of the picture, and of every list
    pub answered-unique :
        {b : Board} {answer : Answer} → Answered b answer places before r after → Answered b answer places before r' after' → (r ≡ r') × (after ≡ after')
    answered-unique {b} a a' = ⊎_elim (λ t. left_unique (a.told t) (a'.told t)) (λ f. left_unique (a.damaged f) (a'.damaged f)) (true-or-not b)

pub lists-unique :
    (b : Board) (question : Question) (before : List ℕ) {after after' : List ℕ} {r r' : Listed} →
    Lists b question before r after →
    Lists b question before r' after' →
    (r ≡ r') × (after ≡ after')
unfolding Lists
lists-unique b question before a a' = answered-unique a a'
