-- The generation of a pair's log, as the fronts of both files say it.
use Rattle.std.specs.Prelude.{◌≡◌, ◌⊎◌, ◌<◌, ◌≤◌, ℕ, ◌^◌, List, ◌++◌, drop, take, true, false, ◌↔◌, Option, Some, None, max}
use Rattle.oram_redo.specs.Log.{check_bytes}
use Rattle.oram_pair.specs.Fronts.{eight_bytes, front_bytes}
use Rattle.oram_pair.specs.declared.fronts.Identity.{Identity}
use Rattle.oram_pair.specs.declared.generations.Newest.{Newest}

-- A field: the number in 8 bytes, and the checksum of the file's first 32 bytes and the number. So the field of one file is no
-- field of another one.
abbrev pub field_bytes : List ℕ → Identity → ℕ → List ℕ
field_bytes letters identity number = eight_bytes number ++ check_bytes (front_bytes letters identity ++ eight_bytes number)

-- the field at a place of the front is sound, and says this number
pub record SaysAt (letters : List ℕ) (identity : Identity) (front : List ℕ) (at number : ℕ) : Type 0 where
  pub fits : number < 2 ^ 64
  pub is : take 16 (drop at front) ≡ field_bytes letters identity number

-- one of the two fields is sound, and says this number
abbrev pub Says : List ℕ → Identity → List ℕ → ℕ → Type 0
Says letters identity front number = SaysAt letters identity front 32 number ⊎ SaysAt letters identity front 48 number

-- the greatest number that a sound field says, and whether both fields are sound
pub record IsNewest (letters : List ℕ) (identity : Identity) (front : List ℕ) (newest : Newest) : Type 0 where
  pub said : Says letters identity front newest.number
  pub greatest : (number : ℕ) → Says letters identity front number → number ≤ newest.number
  pub whole : (newest.is_whole ≡ true) ↔ (((number : ℕ) × SaysAt letters identity front 32 number) × ((number : ℕ) × SaysAt letters identity front 48 number))

-- The newest number that two fields say, and whether both are sound. A field that isn't sound says no number.
abbrev pub IsNewestOf : Option ℕ → Option ℕ → Newest → Type 0
IsNewestOf (Some a) (Some b) newest = (newest.number ≡ max a b) × (newest.is_whole ≡ true)
IsNewestOf (Some a) None newest = (newest.number ≡ a) × (newest.is_whole ≡ false)
IsNewestOf None (Some b) newest = (newest.number ≡ b) × (newest.is_whole ≡ false)
IsNewestOf None None newest = ⊥
