-- The first bytes of the two files of a pair.
use Rattle.std.specs.Prelude.{◌≡◌, ℕ, List, ◌++◌, length, take}
use Rattle.std.specs.Int.{w64, to_le_bytes}
use Rattle.oram_pair.specs.declared.fronts.TheConstants.{FRONT_LEN}
use Rattle.oram_pair.specs.declared.fronts.Identity.{Identity}

-- a number in 8 bytes, the low byte first
unfoldable pub eight_bytes : ℕ → List ℕ
eight_bytes n = to_le_bytes w64 n

-- 16 bytes of letters and version, and 16 of the identity
abbrev pub front_bytes : List ℕ → Identity → List ℕ
front_bytes letters identity = letters ++ identity.0

-- the bytes begin with these letters and this identity
pub record IsFront (letters : List ℕ) (identity : Identity) (bytes : List ℕ) : Type 0 where
  pub whole : length identity.0 ≡ 16
  pub begins : take FRONT_LEN bytes ≡ front_bytes letters identity
