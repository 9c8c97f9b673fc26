-- Which texts are sizes.
use Rattle.std.specs.Prelude.{◌≡◌, ◌∷◌, ◌++◌, ◌*◌, ◌^◌, ◌<◌, ℕ, List, [], codes, decimal}
use Rattle.std.specs.List.{Any}

-- the units by their names, each with its number of bytes; the last has no name
abbrev pub units : List (List ℕ × ℕ)
units = (codes "KiB", 2 ^ 10) ∷ (codes "MiB", 2 ^ 20) ∷ (codes "GiB", 2 ^ 30) ∷ (codes "TiB", 2 ^ 40)
    ∷ (codes "kB", 10 ^ 3) ∷ (codes "MB", 10 ^ 6) ∷ (codes "GB", 10 ^ 9) ∷ (codes "TB", 10 ^ 12) ∷ ([], 1) ∷ []

-- a number in decimal, from 1 on, followed by the unit; the size is that many times its bytes
pub record IsSizeIn (unit : List ℕ × ℕ) (text : List ℕ) (size : ℕ) : Type 0 where
  pub number : ℕ
  pub some : 0 < number
  pub written : text ≡ decimal number ++ unit.0
  pub bytes : size ≡ number * unit.1

-- a size in one of the units
abbrev pub IsSize : List ℕ → ℕ → Type 0
IsSize text size = Any (λ unit. IsSizeIn unit text size) units
