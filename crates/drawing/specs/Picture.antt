-- What is left of a picture while it is drawn, sign by sign.
use Rattle.std.specs.Prelude.{◌≡◌, List, [], ◌++◌, ℕ, zero, suc, ◌+◌, ◌-◌, ◌/◌, ◌%◌, ◌≤◌, length, set}
use Rattle.rules.specs.Picture.{row_from, rows_from, picture}
use Rattle.viewing.specs.Front.{Front}

-- a sign's three bytes, stored from the place n on
unfoldable pub signed : List ℕ → ℕ → ℕ → List ℕ
signed buffer n x = set (set (set buffer n (0xE0 + x / 4096)) (n + 1) (0x80 + x / 64 % 64)) (n + 1 + 1) (0x80 + x % 64)

-- from the row r and the column c on, where n rows are not finished
abbrev pub rest : ℕ → ℕ → List ℕ → ℕ → ℕ → ℕ → List ℕ
rest h w cols r c zero = []
rest h w cols r c (suc n) = row_from h w cols r c (w - c) ++ rows_from h w cols (suc r) n

-- the buffer holds the picture up to the row and the column
pub record Drawing (h w : ℕ) (cols before : List ℕ) (r c n : ℕ) (after : List ℕ) : Type 0 where
  pub drawn : List ℕ
  pub front : Front drawn before n after
  pub long : length after ≡ length before
  pub rows : r ≤ h
  pub columns : c ≤ w
  pub whole : drawn ++ rest h w cols r c (h - r) ≡ picture h w cols
