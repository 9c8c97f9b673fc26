-- The cells of records that wait to be committed.
use Rattle.std.specs.Prelude.{ℕ, ◌^◌, ◌<◌, ◌≤◌, List, All, length}

-- at most 4096 cells, each at a place where cells may be
pub record AreCells (cells : List ℕ) : Type 0 where
  pub few : length cells ≤ 4096
  pub within : All (λ cell. cell < 2 ^ 62) cells
