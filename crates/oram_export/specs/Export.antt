-- A disk that was read whole, to check or to export it.
use Rattle.std.specs.Prelude.{◌⊎◌, ℕ, List, ◌++◌, map, replicate, slice_index_or}
use Rattle.std.specs.List.{All, FoldsTo}
use Rattle.oram_geometry.specs.Sizes.{depth_of}
use Rattle.oram_bucket.specs.Cell.{Cell}
use Rattle.oram_bucket.specs.SealedBlocks.{Reads}
use Rattle.oram_link_laws.specs.Runs.{Exchange}
use Rattle.oram_rounds.specs.Batches.{BatchOutcome}
use Rattle.oram_rounds.specs.Service.{after_all}
use Rattle.oram_scan.specs.Laws.{HasCollision, Row}
use Rattle.oram_semantics.specs.Law.{IsServing}
use Rattle.oram_semantics.specs.Scheme.{Scheme, record_len}
use Rattle.oram_semantics.specs.State.{State, World, no_tree}
use Rattle.oram_tree.specs.State.{State as Tree}
use Rattle.oram_export.specs.Findings.{IsLevelWhole}
use Rattle.oram_export.specs.Images.{AreBlocksOf, BlockWrite, IsBackup, waiting_writes, write_of}
use Rattle.oram_export.specs.Reading.{IsRead, sound_in}
use Rattle.oram_export.specs.declared.findings.LevelFindings.{LevelFindings}
use Rattle.oram_export.specs.declared.tree_reading.TreeToRead.{TreeToRead}

-- tree i of a core
abbrev pub tree_in : State → ℕ → Tree
tree_in s i = slice_index_or s.trees i no_tree

-- what is to be read of it
abbrev pub to_read : Scheme → State → ℕ → TreeToRead
to_read v s i = record { tree = i; depth = depth_of v.device i; record_len = record_len v; root = (tree_in s i).root }

-- what is written into the image of a core's disk: these blocks of its tree, those of the tree's stash, and what the commands write that
-- wait
abbrev pub all_writes : Scheme → State → List Cell → List BlockWrite
all_writes v s cells = map write_of (cells ++ (tree_in s 0).stash) ++ waiting_writes (replicate v.device.block_bytes 0) s.queue

-- A core's tree 0 was read, and its blocks were put into a sink: those of the records that were found sound, and then those of the stash;
-- and then what the commands write that wait. If the core's trees stand in a world and it serves an array, the image is the array after
-- these commands, as far as no record was lost; or a record came that differs from the stored one and has the same digest.
pub record IsExport {B K : Type 0} (batches : B → List (List ℕ) → BatchOutcome → List Exchange → B → Type 0) (takes : K → BlockWrite → K → Type 0)
    (v : Scheme) (s : State) (a : B × K) (levels : List LevelFindings) (b : B × K) : Type 0 where
  pub rows : List Row
  pub cells : List Cell
  pub read : IsRead batches (to_read v s 0) a.0 rows levels b.0
  pub blocks : AreBlocksOf (Reads v.cipher.opening v.device 0) (sound_in rows) cells
  pub put : FoldsTo takes a.1 (all_writes v s cells) b.1
  pub right : (w : World) (array : ℕ → List ℕ) → IsServing v s w array
      → HasCollision (w.records 0) rows ⊎ IsBackup v.device.block_bytes (after_all v.device s.queue array) (all_writes v s cells) (All IsLevelWhole levels)
