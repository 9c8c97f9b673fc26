-- Near records: the records of the top levels of tree 0, which the client keeps itself.
use Rattle.std.specs.Prelude.{◌≡◌, ℕ, ◌<◌, ◌≤◌, ◌⊎◌, ◌+◌, ◌-◌, ◌*◌, ◌^◌}
use Rattle.oram_geometry.specs.Sizes.{depth_of, record_len_of}
use Rattle.oram_geometry.specs.declared.Sizes.{Sizes}

-- the bytes of the records of so many levels of tree 0, from the root on; sealing adds `overhead` bytes to a bucket
abbrev pub near_len : Sizes → ℕ → ℕ → ℕ
near_len device overhead levels = (2 ^ levels - 1) * record_len_of device overhead

-- The number of near levels, if the near records may have `near` bytes together. It is at most the depth, so that the leaves are never
-- near; the records of so many levels fit; and those of one level more don't, unless the next level is that of the leaves.
pub record IsNearLevels (device : Sizes) (overhead near levels : ℕ) : Type 0 where
  pub above_leaves : levels ≤ depth_of device 0
  pub fits : near_len device overhead levels ≤ near
  pub most : (levels ≡ depth_of device 0) ⊎ (near < near_len device overhead (levels + 1))
