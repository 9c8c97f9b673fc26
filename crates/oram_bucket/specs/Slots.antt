-- The slots of a bucket's bytes, and what each slot says.
use Rattle.std.specs.Prelude.{ℕ, zero, suc, ◌-◌, ◌*◌, List, take, drop, Option, Some, None}
use Rattle.std.specs.Int.{w32, from_be_bytes}
use Rattle.oram_geometry.specs.declared.Sizes.{Sizes}
use Rattle.oram_bucket.specs.Bucket.{slot_len}
use Rattle.oram_bucket.specs.Cell.{Cell}

-- the first number of a slot: the address plus one, or 0 in a dummy
abbrev pub number_of : List ℕ → ℕ
number_of slot = from_be_bytes w32 (take 4 slot)

-- the second number of a slot
abbrev pub leaf_of : List ℕ → ℕ
leaf_of slot = from_be_bytes w32 (take 4 (drop 4 slot))

-- the block of a slot that isn't a dummy
abbrev pub block_in : List ℕ → Cell
block_in slot = record { address = number_of slot - 1; leaf = leaf_of slot; content = drop 8 slot }

-- slot k of a bucket's bytes
unfoldable pub slot_at : Sizes → List ℕ → ℕ → List ℕ
slot_at d bytes k = take (slot_len d) (drop (k * slot_len d) bytes)

-- the first number of the slot before slot k
abbrev pub number_before : Sizes → List ℕ → ℕ → Option ℕ
number_before d bytes zero = None
number_before d bytes (suc k) = Some (number_of (slot_at d bytes k))
