-- The block that a fault of the stash gives back.
use Rattle.oram_bucket.specs.declared.block.Block.{Block}
use Rattle.oram_stash.specs.declared.StashFault.{StashFault}
use Rattle.oram_stash.specs.declared.StashFault.TheVariants.{Duplicate, OutOfMemory}

-- the block that the stash didn't absorb
abbrev pub block_of : StashFault → Block
block_of (Duplicate block) = block
block_of (OutOfMemory block) = block
