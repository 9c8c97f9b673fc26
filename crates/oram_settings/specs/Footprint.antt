-- How much room a disk takes at its host.
use Rattle.std.specs.Prelude.{ℕ, zero, suc, ◌+◌, ◌*◌, ◌-◌, ◌^◌, min}
use Rattle.oram_geometry.specs.Sizes.{depth_of, record_len_of, trees_of}
use Rattle.oram_geometry.specs.declared.Sizes.{Sizes}
use Rattle.oram_settings.specs.declared.disk_file.Sealing.{Sealing}
use Rattle.oram_settings.specs.declared.disk_file.Sealing.TheVariants.{Plain, ChaCha}

-- by how many bytes a bucket gets longer when it is sealed
abbrev pub overhead_of : Sealing → ℕ
overhead_of Plain = 0
overhead_of ChaCha = 8

-- the number of nodes of the first n trees, at most 2^64 - 1
unfoldable pub nodes_below : Sizes → ℕ → ℕ
nodes_below device zero = 0
nodes_below device (suc n) = min (nodes_below device n + (2 * 2 ^ depth_of device n - 1)) (2 ^ 64 - 1)

abbrev pub nodes_of : Sizes → ℕ
nodes_of device = nodes_below device (trees_of device)

-- the bytes of a record for each node, at most 2^64 - 1
abbrev pub stored_bytes : Sizes → Sealing → ℕ
stored_bytes device sealing = min (nodes_of device * record_len_of device (overhead_of sealing)) (2 ^ 64 - 1)
