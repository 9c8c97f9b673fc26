-- What a disk was formatted with, as its state tells, and the faults of settings and states that don't fit it.
use Rattle.std.specs.Prelude.{◌≡◌, ◌⊎◌, ◌++◌, ℕ, ◌+◌, ◌≤◌, List, Some, codes, string_bytes}
use Rattle.oram_disk_client.specs.Faults.{IsAbout}
use Rattle.oram_disk_host.specs.declared.faults.Fault.{Fault}
use Rattle.oram_disk_host.specs.declared.kinds.FaultKind.TheVariants.{Changed, DamagedState}
use Rattle.oram_empty.specs.KeptDigests.{digests_len}
use Rattle.oram_geometry.specs.Sizes.{depth_of}
use Rattle.oram_geometry.specs.declared.Sizes.{Sizes}
use Rattle.oram_settings.specs.Differences.{AgreeAt, IsFirstDifference, fixed_keys, value_text}
use Rattle.oram_settings.specs.NearRecords.{near_len}
use Rattle.oram_settings.specs.declared.differences.FixedKey.{FixedKey}
use Rattle.oram_settings.specs.declared.disk_file.DiskSettings.{DiskSettings}
use Rattle.oram_settings.specs.declared.disk_file.Sealing.{Sealing}

-- The state of a disk with so many near levels has so many bytes of records: those of the near records, and of the digests behind them. The
-- leaves are never near. Sealing adds `overhead` bytes to a bucket.
pub record HasNearLevels (device : Sizes) (overhead records levels : ℕ) : Type 0 where
  pub above_leaves : levels ≤ depth_of device 0
  pub whole : records ≡ near_len device overhead levels + digests_len device

-- no number of near levels gives so many bytes
abbrev pub HasNoNearLevels : Sizes → ℕ → ℕ → Type 0
HasNoNearLevels device overhead records = (levels : ℕ) → ¬ HasNearLevels device overhead records levels

-- the name of the settings, and what a value in them was when the disk was formatted
abbrev pub was_text : List ℕ → List ℕ → List ℕ
was_text name value = (name ++ codes " was ") ++ value

-- The fault names the first key at which the settings in the file `name` differ from what the disk was formatted with, and what it was.
abbrev pub IsChanged : DiskSettings → List ℕ → Sizes → Sealing → ℕ → Fault → Type 0
IsChanged settings name device sealing levels fault =
    (key : FixedKey) × IsAbout (Changed key) (was_text name (value_text device sealing levels key)) fault
    × IsFirstDifference (AgreeAt settings device sealing levels) fixed_keys (Some key)

-- The fault for a process that a state has with so many bytes of records: either no number of near levels gives so many, and the state is
-- damaged; or the settings in the file `name` have changed since the disk was formatted.
abbrev pub IsUnfit : DiskSettings → List ℕ → Sizes → Sealing → ℕ → ℕ → Fault → Type 0
IsUnfit settings name device sealing overhead records fault =
    (HasNoNearLevels device overhead records × IsAbout DamagedState (string_bytes settings.state) fault)
    ⊎ ((levels : ℕ) × HasNearLevels device overhead records levels × IsChanged settings name device sealing levels fault)
