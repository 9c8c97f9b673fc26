-- A map from addresses to blocks, as a list of its blocks by rising address.
use Rattle.std.specs.Prelude.{◌≡◌, ℕ, ◌<◌, ◌≤◌, List, Option, find, length, ◌==◌}
use Rattle.std.specs.List.{HoldsAt, AllWithin}
use Rattle.oram_bucket.specs.declared.block.Block.{Block}

-- the block with this address, if there is one
abbrev pub block_at : List Block → ℕ → Option Block
block_at blocks address = find (λ b. b.address == address) blocks

-- the block at index i has this address
pub record IsAt (blocks : List Block) (address i : ℕ) : Type 0 where
  pub in_range : i < length blocks
  pub has_address : HoldsAt (λ b. b.address ≡ address) blocks i

-- a block with this address would go to index i: the blocks before it have lesser addresses, and the others greater ones
pub record IsGapFor (blocks : List Block) (address i : ℕ) : Type 0 where
  pub in_range : i ≤ length blocks
  pub lesser_before : AllWithin (λ b. b.address < address) blocks 0 i
  pub greater_after : AllWithin (λ b. address < b.address) blocks i (length blocks)
