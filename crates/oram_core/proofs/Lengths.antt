-- The lengths of a path and of its STORE fit their types.
use Rattle.std.proofs.Common.{◌≡◌, ℕ, ◌+◌, ◌*◌, ◌^◌, ◌<◌, ◌≤◌, arith}
use Rattle.std.proofs.Math.Nat.{mul-le-mul}

-- a depth plus one
pub levels_fit : (n depth : ℕ) → n ≡ depth → depth ≤ 24 → n + 1 < 2 ^ 64
levels_fit n depth same deep = omega arith

path_small : (n depth len : ℕ) → n ≡ depth → depth ≤ 24 → len ≤ 32960 → (n + 1) * len ≤ 824000
path_small n depth len same deep long = let most : (n + 1) * len ≤ 25 * 32960 = mul-le-mul {n₂ = 25} (omega arith) long in most

-- the records of a path
pub path_fits : (n depth len : ℕ) → n ≡ depth → depth ≤ 24 → len ≤ 32960 → (n + 1) * len < 2 ^ 64
path_fits n depth len same deep long = omega (arith, path_small n depth len same deep long)

-- with the header before them
pub message_fits : (n depth len : ℕ) → n ≡ depth → depth ≤ 24 → len ≤ 32960 → 6 + (n + 1) * len < 2 ^ 64
message_fits n depth len same deep long = omega (arith, path_small n depth len same deep long)

-- which is a length that a message can have
pub store_fits : (n depth len : ℕ) → n ≡ depth → depth ≤ 24 → len ≤ 32960 → (n + 1) * len + 6 < 2 ^ 32
store_fits n depth len same deep long = omega (arith, path_small n depth len same deep long)

-- the level of the root
pub from_root : (depth : ℕ) → 0 ≤ depth
from_root depth = omega arith
