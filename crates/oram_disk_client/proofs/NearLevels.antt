-- As many bytes as the records of some near levels have give the number of these levels.
use Rattle.std.proofs.Common.{◌≡◌, ℕ, ◌<◌, ◌≤◌, ◌+◌, ◌-◌, ◌^◌, inr, arith}
use Rattle.std.proofs.Math.Nat.{mul-le-mul_right}
use Rattle.std.proofs.lemmas.Nat.{pow_below, pow_pos}
use Rattle.oram_geometry.specs.Sizes.{depth_of, record_len_of}
use Rattle.oram_geometry.specs.declared.Sizes.{Sizes}
use Rattle.oram_settings.specs.NearRecords.{IsNearLevels, near_len}

-- a record has bytes
some_bytes : (device : Sizes) (overhead : ℕ) → 0 < record_len_of device overhead
unfolding record_len_of
some_bytes device overhead = omega arith

pub its_levels : (device : Sizes) (overhead levels near : ℕ) → levels ≤ depth_of device 0 → near ≡ near_len device overhead levels → IsNearLevels device overhead near levels
its_levels device overhead levels near above is = record { above_leaves = above; fits = omega (arith, is); most = inr longer }
  where
    nodes : (2 ^ levels - 1) + 1 ≤ 2 ^ (levels + 1) - 1
    nodes = omega (arith, pow_pos levels, pow_below levels (levels + 1) (omega arith))

    longer : near < near_len device overhead (levels + 1)
    longer = grind (arith, is, some_bytes device overhead, mul-le-mul_right (record_len_of device overhead) nodes)
