-- What a store leaves that has emptied its log.
use Rattle.std.specs.Prelude.{[], OnOk, Result}
use Rattle.oram_redo.specs.FilePair.{Contents, FileModel, LeavesOnly}
use Rattle.oram_redo.specs.Log.{IsLog}
use Rattle.oram_redo.specs.declared.file_pair.FileKind.TheVariants.{Log, Records as OfRecords}
use Rattle.oram_layout.specs.Records.{Records}
use Rattle.oram_layout.specs.Trees.{Trees}
use Rattle.oram_store.specs.Crashes.{MayHold}
use Rattle.oram_store.specs.KeptRecords.{Holds, IsSound, StoreValue, records_of, sure_records}
use Rattle.oram_store.specs.RecordFile.{Calls, FileValue, Finds, bounds}
use Rattle.oram_store.specs.declared.faults.StoreFault.{StoreFault}

-- The file has these records even without its log, which is empty.
pub record IsClosed (trees : Trees) (records : Records) (c : Contents) : Type 0 where
  pub log : IsLog bounds [] (c Log)
  pub holds : Holds trees records (c OfRecords)

-- A store has emptied its log, or tried to. `last` is its file then.
pub record Closes {F : Type 0} (model : FileModel F) (result : Result Unit StoreFault) (old : StoreValue F) (last : FileValue F) : Type 0 where
  pub sure : OnOk result (IsSound model old → (c : Contents) → model.may_leave last.files c → IsClosed old.trees (records_of model old) c)
  pub any_moment : IsSound model old → LeavesOnly model old.file.files last.files
      (Finds (model.seen old.file.files) (MayHold old.trees (sure_records model old) (records_of model old)))
  pub calls : Calls model result old.file last
