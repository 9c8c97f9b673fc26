-- What a device in memory holds.
use Rattle.std.specs.Prelude.{◌≡◌, ℕ, ◌*◌, ◌<◌, ◌^◌, List, length}

pub record MemBlocks : Type 0 where
  pub bytes : List ℕ
  pub block_len : ℕ
  pub blocks : ℕ

-- whole blocks of at least one byte each
pub record HasWholeBlocks (d : MemBlocks) : Type 0 where
  pub some : 0 < d.block_len
  pub whole : d.block_len * d.blocks ≡ length d.bytes
  pub bound : length d.bytes < 2 ^ 63
