-- An example that meets the premises of the laws: a device of two blocks, whose tree has one node. One block is in its bucket, and one in
-- the stash. The host gives the record, and the writes go into a list.
use Rattle.std.specs.Prelude.{◌≡◌, ℕ, zero, suc, ◌<◌, List, [], ◌∷◌, ◌++◌, Some, None, replicate, ⊤, false}
use Rattle.sha2.specs.Sha256.{sha256}
use Rattle.oram_geometry.specs.Sizes.{IsDevice, depth_of}
use Rattle.oram_hash.specs.Record.{no_digest}
use Rattle.oram_bucket.specs.Bucket.{spelling}
use Rattle.oram_bucket.specs.Cell.{Cell}
use Rattle.oram_bucket.specs.Cipher.{plain_cipher}
use Rattle.oram_bucket.specs.SealedBlocks.{Reads}
use Rattle.oram_link_laws.specs.Runs.{Exchange}
use Rattle.oram_rounds.specs.Batches.{BatchOutcome, IsBatch}
use Rattle.oram_rounds.specs.Law.{AreBatches}
use Rattle.oram_scan.specs.Blocks.{AreRead as AreOpened, IsFound, IsImageOf}
use Rattle.oram_semantics.specs.ArrayReplies.{array_in}
use Rattle.oram_semantics.specs.Law.{IsServing}
use Rattle.oram_semantics.specs.Scheme.{Scheme}
use Rattle.oram_semantics.specs.State.{State, World}
use Rattle.oram_tree.specs.Content.{Map, entry_of, node_count}
use Rattle.oram_export.specs.Export.{IsExport}
use Rattle.oram_export.specs.Images.{BlockWrite, image_of, write_of}
use Rattle.oram_export.specs.declared.findings.LevelFindings.{LevelFindings}

abbrev pub two_blocks : Scheme
two_blocks = record {
  device = record { blocks = 2; block_bytes = 16; slots = 4; top = 2; lifetime = 2; leaf_load = 2 };
  cipher = plain_cipher;
}

abbrev pub in_bucket : Cell
in_bucket = record { address = 0; leaf = 0; content = replicate 16 7 }

abbrev pub in_stash : Cell
in_stash = record { address = 1; leaf = 0; content = replicate 16 9 }

abbrev pub only_record : List ℕ
only_record = spelling two_blocks.device (in_bucket ∷ []) ++ no_digest ++ no_digest

-- the core after two writes
abbrev pub two_written : State
two_written = record {
  table = 1 ∷ 1 ∷ [];
  trees = (record { number = 0; root = sha256 only_record; stash = in_stash ∷ [] }) ∷ [];
  next = 2;
  nonce = 3;
  queue = [];
  entry_number = 0;
  held_entry = 0;
  held_data = [];
  message = [];
  lost = false;
  failure = None;
}

abbrev pub two_held : Map
two_held zero = Some (entry_of in_bucket)
two_held (suc zero) = Some (entry_of in_stash)
two_held (suc (suc a)) = None

abbrev pub two_world : World
two_world = record { records = λ i n. only_record; content = λ i. two_held }

-- batches that may have any outcome
abbrev pub AnyBatches : ⊤ → List (List ℕ) → BatchOutcome → List Exchange → ⊤ → Type 0
AnyBatches l bodies o exchanges m = IsBatch bodies o exchanges

-- a list that takes writes
abbrev pub ListTakes : List BlockWrite → BlockWrite → List BlockWrite → Type 0
ListTakes writes w after = after ≡ writes ++ w ∷ []

abbrev pub two_writes : List BlockWrite
two_writes = write_of in_bucket ∷ write_of in_stash ∷ []

-- one record of level 0 is sound
abbrev pub one_sound : List LevelFindings
one_sound = record { sound = 1; changed = 0; missing = 0; unchecked = 0 } ∷ []

-- The core serves an array. Its disk was exported: the record is sound, and the two blocks are written, as the array has them.
abbrev pub ExportExample : Type 0
ExportExample = AreBatches AnyBatches × IsDevice two_blocks.device × IsServing two_blocks two_written two_world (array_in two_blocks two_world)
    × IsExport AnyBatches ListTakes two_blocks two_written (tt, []) one_sound (tt, two_writes)
    × (image_of 16 two_writes 0 ≡ replicate 16 7) × (image_of 16 two_writes 1 ≡ replicate 16 9)

-- The same bucket and stash meet the premises of the laws about found blocks.
abbrev pub FoundBlocksExample : Type 0
FoundBlocksExample = AreOpened (Reads two_blocks.cipher.opening two_blocks.device 0) (two_world.records 0) (λ n. n < node_count (depth_of two_blocks.device 0)) (λ n. in_bucket ∷ [])
    × IsImageOf 16 (IsFound (λ n. n < node_count (depth_of two_blocks.device 0)) (λ n. in_bucket ∷ []) (in_stash ∷ [])) (array_in two_blocks two_world)
