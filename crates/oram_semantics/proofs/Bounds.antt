-- Bounds of a device's numbers.
use Rattle.std.proofs.Common.{◌≡◌, ℕ, zero, suc, Bool, true, false, cond, ◌+◌, ◌-◌, ◌*◌, ◌%◌, ◌^◌, ◌<◌, ◌≤◌, sym, subst, arith, nat_le}
use Rattle.oram_geometry.specs.declared.Sizes.{Sizes}
use Rattle.oram_geometry.specs.Sizes.{IsDevice, trees_of, blocks_in, level_for, depth_of, fanout, address_in}
use Rattle.oram_geometry.specs.Least.{least_from}
use Rattle.oram_geometry.proofs.DeviceSizes.{address_in-below, address_in-zero, blocks_in-zero}

least_low : (p : ℕ → Bool) (at fuel : ℕ) → at ≤ least_from p at fuel
unfolding least_from
least_low p at zero = omega arith
least_low p at (suc fuel) = elim (p at) as (λ b. at ≤ cond b at (least_from p (at + 1) fuel)) [ true ↦ omega arith | false ↦ omega (arith, least_low p (at + 1) fuel) ]

least_high : (p : ℕ → Bool) (at fuel : ℕ) → least_from p at fuel ≤ at + fuel
unfolding least_from
least_high p at zero = omega arith
least_high p at (suc fuel) = elim (p at) as (λ b. cond b at (least_from p (at + 1) fuel) ≤ at + suc fuel) [ true ↦ omega arith | false ↦ omega (arith, least_high p (at + 1) fuel) ]

pub some_trees : (d : Sizes) → 0 < trees_of d
unfolding trees_of
some_trees d = omega (arith, least_low (λ h. nat_le (blocks_in d (h - 1)) d.top) 1 13)

-- no tree is deeper than 24
pub depth_small : (d : Sizes) (i : ℕ) → depth_of d i ≤ 24
unfolding level_for
depth_small d i = least_high (λ l. nat_le (blocks_in d i) (d.leaf_load * 2 ^ l)) 0 24

-- a block of the device belongs to one block in each tree
pub address_small : (d : Sizes) (i a : ℕ) → 0 < fanout d → a < d.blocks → address_in d i a < blocks_in d i
address_small d zero a some below =
    subst (λ (n : ℕ). address_in d 0 a < n) (sym (blocks_in-zero d)) (subst (λ (n : ℕ). n < d.blocks) (sym (address_in-zero d a)) below)
address_small d (suc i) a some below =
    subst (λ (k : ℕ). address_in d k a < blocks_in d k) (let z : i + 1 ≡ suc i = omega arith in z) (address_in-below d i a some (address_small d i a some below))

-- what map blocks require of a device's numbers
pub record HasEntries (d : Sizes) : Type 0 where
  pub some : 0 < fanout d
  pub whole : d.block_bytes ≡ 4 * fanout d

-- the bounds that are needed of a device's numbers
pub record IsFit (d : Sizes) : Type 0 where
  pub some : 0 < trees_of d
  pub words : HasEntries d

pub fit_device : (d : Sizes) → IsDevice d → IsFit d
fit_device d is =
    let whole : d.block_bytes % 4 ≡ 0 = is.whole_words in
    let long : 16 ≤ d.block_bytes = is.some_bytes in
    record { some = some_trees d; words = record { some = omega arith; whole = omega arith } }
