-- What a store keeps.
use Rattle.std.specs.Prelude.{◌≡◌, ◌⊎◌, ℕ, true, false, List, Option, Some, All, OnErr, OnOk, Result}
use Rattle.oram_redo.specs.Content.{Content}
use Rattle.oram_redo.specs.FilePair.{FileModel, LeavesOnly}
use Rattle.oram_redo.specs.Log.{Patch, put_all}
use Rattle.oram_redo.specs.declared.file_pair.FileKind.TheVariants.{Records as OfRecords}
use Rattle.oram_layout.specs.BucketFile.{IsBucketFile}
use Rattle.oram_layout.specs.Changes.{IsCell, IsOffRecords, marks}
use Rattle.oram_layout.specs.Limits.{TreeShape}
use Rattle.oram_layout.specs.Records.{AreKept, IsPathOf, KeepsOffPath, KeepsOthers, Records, records_in}
use Rattle.oram_layout.specs.Trees.{Trees}
use Rattle.oram_store.specs.RecordFile.{FileValue, Finds, IsSteady, OnlyIf}
use Rattle.oram_store.specs.declared.faults.StoreFault.{StoreFault}

pub record StoreValue (F : Type 0) : Type 0 where
  pub file : FileValue F
  pub trees : Trees
  pub pending : List ℕ  -- the cells whose records were PUT and whose first bytes aren't set yet
  pub failure : Option StoreFault  -- why there was no room, the last time that there was none

-- the content of the file, and the content that the answers are about
abbrev pub sure_content : {F : Type 0} → FileModel F → StoreValue F → Content
sure_content model s = model.seen s.file.files OfRecords

abbrev pub content_of : {F : Type 0} → FileModel F → StoreValue F → Content
content_of model s = put_all (marks s.pending) (sure_content model s)

-- the records that are found again if a crash comes now
abbrev pub sure_records : {F : Type 0} → FileModel F → StoreValue F → Records
sure_records model s = records_in s.trees (sure_content model s)

-- the records that the answers are about
abbrev pub records_of : {F : Type 0} → FileModel F → StoreValue F → Records
records_of model s = records_in s.trees (content_of model s)

-- the content is that of a bucket file with these trees and records
pub record Holds (trees : Trees) (records : Records) (c : Content) : Type 0 where
  pub file : IsBucketFile trees c
  pub kept : AreKept records (records_in trees c)

-- The file is a bucket file with these trees, and a crash changes no record in it.
pub record IsSoundFile {F : Type 0} (model : FileModel F) (trees : Trees) (v : FileValue F) : Type 0 where
  pub loose : List Patch
  pub steady : IsSteady model v loose
  pub off : All (IsOffRecords trees (model.seen v.files OfRecords)) loose
  pub file : IsBucketFile trees (model.seen v.files OfRecords)

-- The file holds the store's trees, a crash changes no record in it, and each pending cell is a cell of these trees.
pub record IsSound {F : Type 0} (model : FileModel F) (s : StoreValue F) : Type 0 where
  pub file : IsSoundFile model s.trees s.file
  pub cells : All (IsCell s.trees) s.pending

-- no record was changed, and a crash at any moment changes none
pub record LeavesRecords {F : Type 0} (model : FileModel F)
    (trees : Trees) (old new : FileValue F) : Type 0 where
  pub sound : new.has_stopped ≡ false → IsSoundFile model trees new
  pub kept : new.has_stopped ≡ false → AreKept (records_in trees (model.seen old.files OfRecords)) (records_in trees (model.seen new.files OfRecords))
  pub moments : LeavesOnly model old.files new.files (Finds (model.seen old.files) (Holds trees (records_in trees (model.seen old.files OfRecords))))

-- The records are changed in this way or not at all, whenever a crash comes. On an error they aren't changed, unless
-- the file has stopped.
pub record Changes {F : Type 0} (model : FileModel F)
    (trees : Trees) (change : Records → Records → Type 0) (result : Result Unit StoreFault) (old new : FileValue F) : Type 0 where
  pub sound : new.has_stopped ≡ false → IsSoundFile model trees new
  pub done : OnOk result (new.has_stopped ≡ false → change (records_in trees (model.seen old.files OfRecords)) (records_in trees (model.seen new.files OfRecords)))
  pub undone : OnErr result (new.has_stopped ≡ false → AreKept (records_in trees (model.seen old.files OfRecords)) (records_in trees (model.seen new.files OfRecords)))
  pub moments : LeavesOnly model old.files new.files (Finds (model.seen old.files) (λ c. Holds trees (records_in trees (model.seen old.files OfRecords)) c
      ⊎ OnlyIf (OnErr result (new.has_stopped ≡ true)) (IsBucketFile trees c × change (records_in trees (model.seen old.files OfRecords)) (records_in trees c))))

-- the records of a path are `bytes` now, and all others are as they were
abbrev pub Stores : ℕ → TreeShape → ℕ → List ℕ → Records → Records → Type 0
Stores tree s leaf bytes old new = IsPathOf new tree s leaf bytes × KeepsOffPath old tree s leaf new

-- the record of a node is `bytes` now, and all others are as they were
abbrev pub Puts : ℕ → ℕ → List ℕ → Records → Records → Type 0
Puts tree node bytes old new = (new tree node ≡ Some bytes) × KeepsOthers old tree node new
