-- The values that a device stores beside its six numbers.
use Rattle.std.specs.Prelude.{◌≡◌, ℕ, ◌<◌, List, slice_index}
use Rattle.oram_geometry.specs.declared.Sizes.{Sizes}
use Rattle.oram_geometry.specs.Sizes.{IsDevice, blocks_in, trees_of, depth_of}

-- the number of its trees, and the blocks and the depth of each of the 14 trees, including those that it doesn't need
pub record IsMeasured (d : Sizes) (trees : ℕ) (blocks depths : List ℕ) : Type 0 where
  pub ranges : IsDevice d
  pub count : trees ≡ trees_of d
  pub each_blocks : (i : ℕ) → i < 14 → slice_index blocks i ≡ blocks_in d i
  pub each_depth : (i : ℕ) → i < 14 → slice_index depths i ≡ depth_of d i
