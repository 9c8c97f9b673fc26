-- When a core's tree stands in a world, and how a STORE places the blocks of a tree.
use Rattle.std.specs.Prelude.{◌≡◌, ℕ, ◌+◌, ◌≤◌, List, length}
use Rattle.oram_geometry.specs.Sizes.{depth_of}
use Rattle.oram_geometry.specs.Path.{node_on}
use Rattle.oram_hash.specs.Record.{sealed_part}
use Rattle.oram_bucket.specs.Cell.{Cell}
use Rattle.oram_bucket.specs.Bucket.{spelling}
use Rattle.oram_bucket.specs.SealedBlocks.{Reads}
use Rattle.oram_stash.specs.Eviction.{IsGreedy, listed}
use Rattle.oram_tree.specs.Content.{Map, HasContent}
use Rattle.oram_tree.specs.State.{State as Tree, IsStoredWith}
use Rattle.oram_semantics.specs.Scheme.{Scheme}

-- The tree is tree i of the device, the records at the host are stored under its root digest, and with its stash they
-- hold this map.
pub record Stands (v : Scheme) (i : ℕ) (tree : Tree) (records : ℕ → List ℕ) (content : Map) : Type 0 where
  pub number : tree.number ≡ i
  pub stored : IsStoredWith v.cipher.opening v.cipher.overhead v.device tree records content

-- the sealed bucket at a level of a leaf's path
abbrev pub part_on : Scheme → ℕ → ℕ → (ℕ → List ℕ) → ℕ → List ℕ
part_on v i leaf records level = sealed_part (records (node_on (depth_of v.device i) leaf level))

-- Just after a STORE of this leaf's path, the records of tree i hold this map: each block is in one bucket of its own
-- path, or in the rest, which is in no bucket. The path's buckets read as the lists and are sealed under rising
-- nonces, from `nonce` on. The lists and the rest are greedy. The client's stash isn't mentioned here.
pub record IsPlaced (v : Scheme) (i leaf nonce : ℕ) (records : ℕ → List ℕ) (content : Map) : Type 0 where
  pub lists : List (List Cell)
  pub rest : List Cell
  pub holds : HasContent (Reads v.cipher.opening v.device i) (depth_of v.device i) records rest content
  pub levels : length lists ≡ depth_of v.device i + 1
  pub reads : (level : ℕ) → level ≤ depth_of v.device i
      → Reads v.cipher.opening v.device i (part_on v i leaf records level) (listed lists level)
  pub sealed : (level : ℕ) → level ≤ depth_of v.device i
      → part_on v i leaf records level ≡ v.cipher.sealing (nonce + level) (spelling v.device (listed lists level))
  pub greedy : IsGreedy (depth_of v.device i) v.device.slots leaf lists rest
