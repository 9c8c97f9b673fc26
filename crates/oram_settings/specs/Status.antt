-- The status of a disk.
use Rattle.std.specs.Prelude.{ℕ, zero, suc, ◌+◌, slice_index_or, List, Option, Some, None, ◌*◌, ◌-◌, ◌^◌, ◌++◌, [], ◌∷◌, min, length, codes, decimal}
use Rattle.std.specs.List.{concat}
use Rattle.oram_geometry.specs.declared.Sizes.{Sizes}
use Rattle.oram_geometry.specs.Sizes.{trees_of}
use Rattle.oram_semantics.specs.State.{State, no_tree}
use Rattle.oram_semantics.specs.declared.events.Reason.{Reason}
use Rattle.oram_semantics.specs.declared.events.Reason.TheVariants.{Malformed, Tampered, HostRefused}
use Rattle.oram_settings.specs.Amounts.{counted}
use Rattle.oram_settings.specs.declared.status.Status.{Status}

-- the number of blocks in the stashes of the first n trees, at most 2^64 - 1; a core that has failed has forgotten its trees
unfoldable pub stashed_below : State → ℕ → ℕ
stashed_below s zero = 0
stashed_below s (suc n) = min (stashed_below s n + length (slice_index_or s.trees n no_tree).stash) (2 ^ 64 - 1)

abbrev pub stashed : Sizes → State → ℕ
stashed d s = stashed_below s (trees_of d)

-- the status of a device whose near records have so many bytes
abbrev pub stands_as : Sizes → ℕ → State → Status
stands_as d near s = record {
  blocks = d.blocks;
  block_bytes = d.block_bytes;
  trees = trees_of d;
  stash = stashed d s;
  near = near;
  accesses = s.next;
  lifetime = d.lifetime;
  waiting = length s.queue;
  failure = s.failure;
}

-- what is said of a failure
abbrev pub failing : Option Reason → List ℕ
failing None = codes "it is sound"
failing (Some Malformed) = codes "it has failed: what the host answered is no answer"
failing (Some (Tampered tree level)) =
    concat (codes "it has failed: in tree " ∷ decimal tree ∷ codes " the record at level " ∷ decimal level ∷ codes " of a path wasn't the one that was stored last" ∷ [])
failing (Some (HostRefused code)) = codes "it has failed: the host refused a message, with code " ++ decimal code

-- the size of a disk in bytes, at most 2^64 - 1
abbrev pub size_of : Status → ℕ
size_of s = min (s.blocks * s.block_bytes) (2 ^ 64 - 1)

-- the lines that describe the status of a disk: its size, its trees, the blocks of their stashes, the bytes of its near records, the accesses made and left, the commands that
-- wait, and a failure
abbrev pub report : Status → List ℕ
report s = concat (codes "size: " ∷ decimal (size_of s) ∷ codes " bytes, " ∷ counted s.blocks (codes "block") ∷ codes " of " ∷ decimal s.block_bytes
    ∷ codes "\ntrees: " ∷ decimal s.trees
    ∷ codes "\nstash: " ∷ counted s.stash (codes "block")
    ∷ codes "\nnear: " ∷ counted s.near (codes "byte")
    ∷ codes "\naccesses: " ∷ decimal s.accesses ∷ codes " made, " ∷ decimal (s.lifetime - s.accesses)
    ∷ codes " left\nwaiting: " ∷ decimal s.waiting
    ∷ codes "\nstate: " ∷ failing s.failure ∷ codes "\n" ∷ [])
