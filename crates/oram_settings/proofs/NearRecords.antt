-- A device has only one number of near levels, and the bytes of their records give it again.
use Rattle.std.proofs.Common.{◌≡◌, ℕ, ◌<◌, ◌≤◌, ◌+◌, ◌-◌, ◌^◌, ◌⊎◌, inl, inr, arith}
use Rattle.std.proofs.Math.Nat.{mul-le-mul_right}
use Rattle.std.proofs.lemmas.Nat.{pow_below, pow_pos}
use Rattle.std.proofs.Math.Pow.{pow_mono}
use Rattle.oram_geometry.specs.Sizes.{depth_of, record_len_of}
use Rattle.oram_geometry.specs.declared.Sizes.{Sizes}
use Rattle.oram_settings.specs.NearRecords.{IsNearLevels, near_len}

-- more levels have no fewer bytes
near_len_grows : (device : Sizes) (overhead j k : ℕ) → j ≤ k → near_len device overhead j ≤ near_len device overhead k
near_len_grows device overhead j k more =
    let powers : 2 ^ j ≤ 2 ^ k = pow_mono more in
    let nodes : 2 ^ j - 1 ≤ 2 ^ k - 1 = omega arith in
    mul-le-mul_right (record_len_of device overhead) nodes

-- of two such numbers neither is greater
no_more : {device : Sizes} {overhead near j k : ℕ} → IsNearLevels device overhead near j → IsNearLevels device overhead near k → j < k → ⊥
no_more {device} {overhead} {near} {j} {k} it other less = by_most it.most
  where
    grows : near_len device overhead (j + 1) ≤ near_len device overhead k
    grows = near_len_grows device overhead (j + 1) k (omega arith)

    by_most : (j ≡ depth_of device 0) ⊎ (near < near_len device overhead (j + 1)) → ⊥
    by_most (inl deepest) = let above = other.above_leaves in omega arith
    by_most (inr long) = let fits = other.fits in omega (arith, grows)

pub one_number : {device : Sizes} {overhead near j k : ℕ} → IsNearLevels device overhead near j → IsNearLevels device overhead near k → j ≡ k
one_number {device} {overhead} {near} {j} {k} it other =
    let not_less : ¬ (j < k) = no_more it other in
    let not_more : ¬ (k < j) = no_more other it in
    omega (arith, not_less, not_more)

-- a record has bytes
some_bytes : (device : Sizes) (overhead : ℕ) → 0 < record_len_of device overhead
unfolding record_len_of
some_bytes device overhead = omega arith

pub given_again : (device : Sizes) (overhead levels near : ℕ) → levels ≤ depth_of device 0 → near ≡ near_len device overhead levels → IsNearLevels device overhead near levels
given_again device overhead levels near above is = record { above_leaves = above; fits = omega (arith, is); most = inr longer }
  where
    nodes : (2 ^ levels - 1) + 1 ≤ 2 ^ (levels + 1) - 1
    nodes = omega (arith, pow_pos levels, pow_below levels (levels + 1) (omega arith))

    longer : near < near_len device overhead (levels + 1)
    longer = grind (arith, is, some_bytes device overhead, mul-le-mul_right (record_len_of device overhead) nodes)
