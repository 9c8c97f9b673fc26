-- The faults of bytes that spell no bucket.
use Rattle.std.specs.Prelude.{ℕ, ◌^◌, ◌==◌, ◌&&◌, Bool, true, not, nat_lt, nat_le, if◌then◌else◌, List, length, slice_get, Option, Some, None}
use Rattle.std.specs.List.{list_all, filter_map, range_with_len}
use Rattle.oram_geometry.specs.declared.Sizes.{Sizes}
use Rattle.oram_geometry.specs.Sizes.{blocks_in, depth_of, bucket_len}
use Rattle.oram_bucket.specs.Slots.{number_of, leaf_of, slot_at, number_before}
use Rattle.oram_bucket.specs.declared.codec.BucketFault.{BucketFault}
use Rattle.oram_bucket.specs.declared.codec.BucketFault.TheVariants.{Length, Address, Order, Leaf, Dummy, OutOfMemory}
use Rattle.oram_bucket.specs.declared.sealer.OpenFault.{OpenFault}
use Rattle.oram_bucket.specs.declared.sealer.OpenFault.TheVariants as opens

-- whether a real slot with this number may follow `before`: no slot, or a real one with a lesser number
abbrev pub may_follow : Option ℕ → ℕ → Bool
may_follow None number = true
may_follow (Some before) number = nat_lt 0 before && nat_lt before number

-- the fault of a slot in a tree with this many blocks and leaves, if the slot before it has the number `before`:
-- in a dummy, a byte that isn't zero; in a real slot, the first of a wrong address, a wrong order and a wrong leaf
unfoldable pub fault_behind : ℕ → ℕ → Option ℕ → List ℕ → Option BucketFault
fault_behind blocks leaves before slot =
    if number_of slot == 0 then (if list_all (λ b. b == 0) slot then None else Some Dummy)
    else if nat_lt blocks (number_of slot) then Some Address
    else if not (may_follow before (number_of slot)) then Some Order
    else if nat_le leaves (leaf_of slot) then Some Leaf
    else None

-- the fault of slot k of a bucket of tree i
abbrev pub slot_fault : Sizes → ℕ → List ℕ → ℕ → Option BucketFault
slot_fault d i bytes k = fault_behind (blocks_in d i) (2 ^ depth_of d i) (number_before d bytes k) (slot_at d bytes k)

-- the fault of bytes as a bucket of tree i: a wrong length, or else the first fault of its slots
unfoldable pub first_fault : Sizes → ℕ → List ℕ → Option BucketFault
first_fault d i bytes =
    if length bytes == bucket_len d then slice_get (filter_map (slot_fault d i bytes) (range_with_len 0 d.slots)) 0
    else Some Length

-- the number by which programs name a fault
abbrev pub fault_number : BucketFault → Option ℕ
fault_number Length = Some 1
fault_number Address = Some 2
fault_number Order = Some 3
fault_number Leaf = Some 4
fault_number Dummy = Some 5
fault_number OutOfMemory = None

-- why a sealed bucket doesn't open, if its plain bytes have this fault
abbrev pub opening_fault : BucketFault → OpenFault
opening_fault OutOfMemory = opens.OutOfMemory
opening_fault fault = opens.Broken
