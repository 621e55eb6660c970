-- What the flood of one slot leaves behind: points that it painted, a queue of them, and the empty points that it saw beside those it looked at.
use Rattle.std.specs.Prelude.{◌≡◌, Bool, true, cond, ◌&&◌, ◌||◌, List, [], ◌∷◌, ℕ, ◌+◌, ◌-◌, ◌*◌, ◌/◌, ◌%◌, ◌≤◌, ◌<◌, eqb, length, get_or, set}
use Rattle.std.specs.Int.Bits.{bit_xor}
use Rattle.rules.specs.Sizes.{max_area, slots}
use Rattle.rules.specs.Lists.{any, count, below, has, tabulate}
use Rattle.rules.specs.Points.{area, neighbours}
use Rattle.rules.specs.Flood.{flooded, marked}
use Rattle.rules.specs.Hash.{hash, stone_hash}
use Rattle.sets.specs.Liberties.{bit_at}
use Rattle.owning.specs.Owners.{owner_in}

-- ---- What is found

module _ (h w : ℕ) (own : ℕ → ℕ) where
  -- a walk by points of the slot s leads from o to p
  unfoldable pub found : ℕ → ℕ → ℕ → Bool
  found s o p = marked (flooded (neighbours h w) (λ q. eqb (own q) s) (area h w) (o ∷ [])) p

  -- q is empty and lies beside a point that passes the test
  unfoldable pub shore : (ℕ → Bool) → ℕ → Bool
  shore f q = eqb (own q) slots && any f (neighbours h w q)

-- the hash of the stones among the notes; an empty point's note is the number of slots, and a stone's that is not found yet is less
unfoldable pub hash_of : ℕ → ℕ → (ℕ → ℕ) → ℕ
hash_of h w note = hash (tabulate (λ p. note p - slots) 0 (area h w))

-- ---- The points that were seen, one bit each in words

abbrev pub seen_words : ℕ
seen_words = (max_area + 63) / 64

unfoldable pub sees : List ℕ → ℕ → Bool
sees seen q = bit_at (get_or seen (q / 64) 0) (q % 64)

-- one point more was seen
pub record Saw (p : ℕ) (seen seen' : List ℕ) : Type 0 where
  pub long : length seen' ≡ seen_words
  pub points : (q : ℕ) → sees seen' q ≡ (sees seen q || eqb q p)

-- the bytes of a liberty set from the i-th on as one number: two, four, and the eight of a word
abbrev pub two_bytes : List ℕ → ℕ → ℕ
two_bytes set i = get_or set i 0 + get_or set (i + 1) 0 * 0x100

abbrev pub four_bytes : List ℕ → ℕ → ℕ
four_bytes set i = two_bytes set i + two_bytes set (i + 2) * 0x10000

abbrev pub word_of : List ℕ → ℕ → ℕ
word_of set i = four_bytes set i + four_bytes set (i + 4) * 0x100000000

-- ---- One slot

-- a stone of colour c is noted, stands in the queue and is in the hash
pub record Queued (c point : ℕ) (notes queue : List ℕ) (tail sum : ℕ) (notes' queue' : List ℕ) (tail' sum' : ℕ) : Type 0 where
  pub noted : notes' ≡ set notes point (slots + c)
  pub queued : queue' ≡ set queue tail point
  pub counted : tail' ≡ tail + 1
  pub hashed : sum' ≡ bit_xor sum (stone_hash point c)

-- a slot and a player's colour, and the notes and the queue with room for all that the slot still has
pub record Ready (h w s c : ℕ) (notes queue : List ℕ) (tail sum : ℕ) : Type 0 where
  pub low : s < slots
  pub coloured : 0 < c
  pub fits : area h w ≤ max_area
  pub notes_long : length notes ≡ max_area
  pub queue_long : length queue ≡ max_area
  pub room : tail + count (λ p. eqb (owner_in notes p) s) (below (area h w)) ≤ max_area
  pub hashed : sum ≡ hash_of h w (owner_in notes)

-- p is one of the points, and the slot still has it
unfoldable pub wanted : ℕ → List ℕ → List ℕ → ℕ → Bool
wanted s ps notes p = has ps p && eqb (owner_in notes p) s

-- the points were looked at: those that the slot still had are painted and stand in the queue, and the empty ones are seen
pub record Looked (h w s c : ℕ) (ps notes queue seen : List ℕ) (tail : ℕ) (notes' queue' seen' : List ℕ) (tail' sum' : ℕ) : Type 0 where
  pub ready : Ready h w s c notes' queue' tail' sum'
  pub longer : tail ≤ tail'
  pub kept : (k : ℕ) → k < tail → get_or queue' k 0 ≡ get_or queue k 0
  pub painted : (p : ℕ) → owner_in notes' p ≡ cond (wanted s ps notes p) (slots + c) (owner_in notes p)
  pub taken : (k : ℕ) → tail ≤ k → k < tail' → wanted s ps notes (get_or queue' k 0) ≡ true
  pub stands : (p : ℕ) → wanted s ps notes p ≡ true → (k : ℕ) × (k < tail') × (get_or queue' k 0 ≡ p)
  -- each new entry is one less to find
  pub balance :
      tail' + count (λ p. eqb (owner_in notes' p) s) (below (area h w)) ≡ tail + count (λ p. eqb (owner_in notes p) s) (below (area h w))
  pub seen_long : length seen' ≡ seen_words
  pub shored : (q : ℕ) → sees seen' q ≡ (sees seen q || (eqb (owner_in notes q) slots && has ps q))

-- the points that pass the test are painted
pub record Passed (h w : ℕ) (test : ℕ → Bool) (c : ℕ) (notes notes' queue' : List ℕ) (sum' : ℕ) : Type 0 where
  pub notes_long : length notes' ≡ max_area
  pub queue_long : length queue' ≡ max_area
  pub hashed : sum' ≡ hash_of h w (owner_in notes')
  pub painted : (p : ℕ) → owner_in notes' p ≡ cond (test p) (slots + c) (owner_in notes p)

-- the flood is over: what is joined with o by points of the slot is painted, counted, and its empty neighbours are seen
pub record Flooded (h w s c o : ℕ) (notes notes' queue' seen' : List ℕ) (n sum' : ℕ) : Type 0 where
  pub passed : Passed h w (found h w (owner_in notes) s o) c notes notes' queue' sum'
  pub counted : n ≡ count (found h w (owner_in notes) s o) (below (area h w))
  pub shored : (q : ℕ) → sees seen' q ≡ shore h w (owner_in notes) (found h w (owner_in notes) s o) q
