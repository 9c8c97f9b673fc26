use Rattle.std.proofs.Common.{◌≡◌, ℕ, ◌+◌, ◌*◌, List, ◌++◌, length, All}
use Rattle.std.specs.List.{flat_map}
use Rattle.oram_bucket.specs.Cell.{Cell}
use Rattle.oram_summary.specs.Stash.{HasNumbers}
use Rattle.oram_summary.specs.Text.{block_text}
use Rattle.oram_summary.proofs.stash.read_blocks.Given as goal

-- so many blocks are read
pub record AreRead (bytes rest : List ℕ) (blocks : List Cell) (block_bytes done : ℕ) : Type 0 where
  pub counted : length blocks ≡ done
  pub front : bytes ≡ flat_map block_text blocks ++ rest
  pub long : length rest + done * (8 + block_bytes) ≡ length bytes
  pub whole : All (λ c. length c.content ≡ block_bytes) blocks
  pub fit : All HasNumbers blocks

abbrev pub invariant-loop : goal.invariant-loop
invariant-loop l = AreRead l.bytes l.rest l.read.items l.block_bytes l.counter
