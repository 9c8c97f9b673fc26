-- The records in which a host keeps stamps, and their tags.
use Rattle.std.specs.Prelude.{◌≡◌, ℕ, ◌<◌, ◌^◌, List, [], ◌∷◌, ◌++◌, take}
use Rattle.std.specs.Int.{w32, w64, from_be_bytes, to_be_bytes}
use Rattle.sha2.specs.Sha256.{sha256}
use Rattle.oram_stamps.specs.declared.stamp.Place.{Place}
use Rattle.oram_stamps.specs.declared.stamp.Place.TheVariants.{Begun, Done}
use Rattle.oram_stamps.specs.declared.stamp.Shown.{Shown}
use Rattle.oram_stamps.specs.declared.stamp.Stamp.{Stamp}

-- the number and the check fit into eight bytes each
pub record AreNumbers (stamp : Stamp) : Type 0 where
  pub number : stamp.number < 2 ^ 64
  pub check : stamp.check < 2 ^ 64

-- a stamp's 16 bytes: the number of the keeping, and the masked check of the process that was kept
unfoldable pub stamp_text : Stamp → List ℕ
stamp_text stamp = to_be_bytes w64 stamp.number ++ to_be_bytes w64 stamp.check

-- A check, masked by the stamps' key: the number that stands at the front of a digest, which is made as a tag is, with another byte in
-- the place's stead.
unfoldable pub mask : List ℕ → ℕ → ℕ
mask key check = from_be_bytes w64 (take 8 (sha256 (to_be_bytes w32 1 ++ key ++ (2 ∷ []) ++ to_be_bytes w64 check)))

-- the byte that stands for a place in a tag
abbrev pub place_byte : Place → ℕ
place_byte Begun = 0
place_byte Done = 1

-- The tag of a stamp at a place, by one step of SHA-256 (NIST SP 800-56C rev. 2, 4.1, option 1): the digest of the counter 1 in 32
-- bits, of the stamps' key, and of the fixed information, which is the place and the stamp. All of this always has the same length.
unfoldable pub tag : List ℕ → Place → Stamp → List ℕ
tag key place stamp = sha256 (to_be_bytes w32 1 ++ key ++ (place_byte place ∷ []) ++ to_be_bytes w64 stamp.number ++ to_be_bytes w64 stamp.check)

-- the record of a stamp at a place
unfoldable pub record_text : List ℕ → Place → Stamp → List ℕ
record_text key place stamp = stamp_text stamp ++ tag key place stamp

-- the records of both places, as a host shows them
abbrev pub shown_text : List ℕ → Shown → List ℕ
shown_text key shown = record_text key Begun shown.begun ++ record_text key Done shown.done
