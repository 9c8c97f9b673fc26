-- What the front of the records' file says of the file's length.
use Rattle.std.specs.Prelude.{◌≡◌, ◌<◌, ℕ, List, drop, length, take}
use Rattle.std.specs.Int.{from_le_bytes, w64}
use Rattle.oram_redo.specs.Log.{check_bytes}
use Rattle.oram_redo.specs.declared.length.TheConstants.{LENGTH_FIELD_LEN}

-- A field says a length in 8 bytes, the low byte first, and then the checksum of these.
pub record SaysLength (field : List ℕ) (len : ℕ) : Type 0 where
  pub whole : length field ≡ LENGTH_FIELD_LEN
  pub sound : drop 8 field ≡ check_bytes (take 8 field)
  pub is : from_le_bytes w64 (take 8 field) ≡ len

-- The file was cut short: it has fewer bytes than its front says.
abbrev pub IsCutShort : List ℕ → ℕ → Type 0
IsCutShort field len = (least : ℕ) × SaysLength field least × (len < least)
