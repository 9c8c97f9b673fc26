-- Settings that differ from those that a disk was formatted with.
use Rattle.std.specs.Prelude.{◌≡◌, ◌*◌, ◌⊎◌, ℕ, List, [], ◌∷◌, Option, None, Some, codes, decimal}
use Rattle.oram_geometry.specs.declared.Sizes.{Sizes}
use Rattle.oram_settings.specs.Footprint.{overhead_of}
use Rattle.oram_settings.specs.NearRecords.{IsNearLevels, near_len}
use Rattle.oram_settings.specs.declared.differences.FixedKey.{FixedKey}
use Rattle.oram_settings.specs.declared.differences.FixedKey.TheVariants.{Size, Block, Slots, LeafLoad, Table, Sealer, Near}
use Rattle.oram_settings.specs.declared.disk_file.DiskSettings.{DiskSettings}
use Rattle.oram_settings.specs.declared.disk_file.Sealing.{Sealing}
use Rattle.oram_settings.specs.declared.disk_file.Sealing.TheVariants as kind

-- at this key the settings agree with what the disk was formatted with: a device, how its buckets are sealed, and the number of its near
-- levels
abbrev pub AgreeAt : DiskSettings → Sizes → Sealing → ℕ → FixedKey → Type 0
AgreeAt s device sealing levels Size = s.size ≡ device.blocks * device.block_bytes
AgreeAt s device sealing levels Block = s.block ≡ device.block_bytes
AgreeAt s device sealing levels Slots = s.slots ≡ device.slots
AgreeAt s device sealing levels LeafLoad = s.leaf_load ≡ device.leaf_load
AgreeAt s device sealing levels Table = s.table ≡ device.top
AgreeAt s device sealing levels Sealer = s.sealer ≡ sealing
AgreeAt s device sealing levels Near = IsNearLevels device (overhead_of sealing) s.near levels

-- the first of these keys at which they differ, or none
abbrev pub IsFirstDifference : (FixedKey → Type 0) → List FixedKey → Option FixedKey → Type 0
IsFirstDifference agree [] first = first ≡ None
IsFirstDifference agree (key ∷ keys) first = ((first ≡ Some key) × ¬ agree key) ⊎ (agree key × IsFirstDifference agree keys first)

-- the fixed keys, in the order in which a first file has them
abbrev pub fixed_keys : List FixedKey
fixed_keys = Size ∷ Block ∷ Slots ∷ LeafLoad ∷ Table ∷ Sealer ∷ Near ∷ []

-- what a disk was formatted with, as the settings file spells it; of `near`, the bytes of the near records
abbrev pub value_text : Sizes → Sealing → ℕ → FixedKey → List ℕ
value_text device sealing levels Size = decimal (device.blocks * device.block_bytes)
value_text device sealing levels Block = decimal device.block_bytes
value_text device sealing levels Slots = decimal device.slots
value_text device sealing levels LeafLoad = decimal device.leaf_load
value_text device sealing levels Table = decimal device.top
value_text device kind.Plain levels Sealer = codes "\"plain\""
value_text device kind.ChaCha levels Sealer = codes "\"chacha\""
value_text device sealing levels Near = decimal (near_len device (overhead_of sealing) levels)
