-- Tromp-Taylor 3, 4 and 7, as relations: what a reader must believe. The points are any graph, `beside p` listing the points
-- beside p, and `col` gives each point's colour, so nothing here depends on a board's size. Flood computes the same.
use Rattle.std.specs.Prelude.{◌≡◌, ◌≢◌, ℕ}
use mathlib.Core.List.{List, Memᴰ}
use Rattle.rules.specs.Colours.{empty, other}

module _ (beside : ℕ → List ℕ) (col : ℕ → ℕ) where
  -- a path of adjacent points from p to q, all of one colour c
  pub data Walk (c : ℕ) : ℕ → ℕ → Type 0 where
    here : {p : ℕ} → col p ≡ c → Walk c p p
    step : {p q r : ℕ} → col p ≡ c → Memᴰ q (beside p) → Walk c q r → Walk c p r

  -- 3. A point p, not coloured c, reaches c, if there is a path of adjacent points of p's colour from p to a point of colour c.
  pub record Reaches (p c : ℕ) : Type 0 where
    pub apart : col p ≢ c
    pub last : ℕ
    pub walk : Walk (col p) p last
    pub target : ℕ
    pub next : Memᴰ target (beside last)
    pub there : col target ≡ c

  -- 4. Clearing a colour c empties all points of that colour that do not reach empty.
  pub record Clearing (c : ℕ) (after : ℕ → ℕ) : Type 0 where
    pub emptied : (p : ℕ) → col p ≡ c → ¬ Reaches p empty → after p ≡ empty
    pub alive : (p : ℕ) → col p ≡ c → Reaches p empty → after p ≡ c
    pub others : (p : ℕ) → col p ≢ c → after p ≡ col p

-- 7. A move colours an empty point one's own colour, then clears the opponent's colour, then clears one's own.
pub record Move (beside : ℕ → List ℕ) (before : ℕ → ℕ) (own p : ℕ) (after : ℕ → ℕ) : Type 0 where
  pub vacant : before p ≡ empty
  pub coloured : ℕ → ℕ
  pub put : coloured p ≡ own
  pub rest : (q : ℕ) → q ≢ p → coloured q ≡ before q
  pub captured : ℕ → ℕ
  pub opponent : Clearing beside coloured (other own) captured
  pub self : Clearing beside captured own after
