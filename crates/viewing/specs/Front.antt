-- A buffer that was filled from the front: the places, and behind them what stood there before.
use Rattle.std.specs.Prelude.{◌≡◌, List, ◌++◌, ℕ, length, drop}

unfoldable pub over : List ℕ → List ℕ → List ℕ
over places before = places ++ drop (length places) before

pub record Front (places before : List ℕ) (count : ℕ) (after : List ℕ) : Type 0 where
  pub counted : count ≡ length places
  pub buffer : after ≡ over places before
