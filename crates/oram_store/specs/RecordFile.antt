-- A file of records with its redo log, between two calls.
use Rattle.std.specs.Prelude.{◌≡◌, ◌⊎◌, ◌^◌, Bool, true, false, List, [], IfErr, OnErr, OnOk, Result, ⊤}
use Rattle.oram_redo.specs.Content.{Agrees, Content}
use Rattle.oram_redo.specs.FilePair.{ComesAfter, Contents, FileModel, HasFailed, LeavesOnly, Rises, WritesNothing}
use Rattle.oram_redo.specs.Log.{AgreesBut, Patch, SameFront, StandsFor, put_all}
use Rattle.oram_redo.specs.Redo.{IsCrashConsistent, bounds_of}
use Rattle.oram_redo.specs.declared.bounds.Bounds.{Bounds}
use Rattle.oram_redo.specs.declared.file_pair.FileKind.TheVariants.{Records}
use Rattle.oram_redo.specs.declared.redo.Redo.{Redo}
use Rattle.oram_store.specs.declared.faults.StoreFault.{StoreFault}
use Rattle.oram_store.specs.declared.faults.StoreFault.TheVariants as fault

pub record FileValue (F : Type 0) : Type 0 where
  pub files : F
  pub redo : Redo
  pub is_loose : Bool  -- a patch was written since the last sync of the records that the log doesn't have
  pub has_stopped : Bool  -- a call of the files has failed: they have to be opened again

-- The log's first 4096 bytes are for its front, and the log has 64 MiB. The records may go as far as files do.
abbrev pub bounds : Bounds
bounds = record { log_start = 4096; log_end = 2 ^ 26; records_end = 2 ^ 62 }

-- Whatever a crash leaves stands for the records that are read, except in the places of `loose`.
pub record IsSteady {F : Type 0} (model : FileModel F) (v : FileValue F) (loose : List Patch) : Type 0 where
  pub bounded : bounds_of v.redo ≡ bounds
  pub consistent : IsCrashConsistent model v.redo loose v.files
  pub sure : v.is_loose ≡ false → IsCrashConsistent model v.redo [] v.files

-- A crash leaves files that stand for records that Q holds of, and the log's front as it was.
pub record Finds (before : Contents) (Q : Content → Type 0) (c : Contents) : Type 0 where
  pub front : SameFront bounds before c
  pub records : Content
  pub stands : StandsFor bounds [] records c
  pub are : Q records

-- After a call that doesn't stop the file, only the places of `loose` are not sure. At each moment of the call, a crash
-- finds records that Q holds of.
pub record Passes {F : Type 0} (model : FileModel F)
    (loose : List Patch) (Q : Content → Type 0) (old new : FileValue F) : Type 0 where
  pub steady : new.has_stopped ≡ false → IsSteady model new loose
  pub moments : LeavesOnly model old.files new.files (Finds (model.seen old.files) Q)

-- `so` holds, which is possible only because `may_be` holds.
pub record OnlyIf (may_be so : Type 0) : Type 0 where
  pub allowed : may_be
  pub holds : so

-- the records that were there, or those with the batch; the latter only if `may_be` holds
abbrev pub MayHave : {F : Type 0} → FileModel F → Type 0 → List Patch → FileValue F → Content → Type 0
MayHave model may_be batch v r = Agrees r (model.seen v.files Records) ⊎ OnlyIf may_be (Agrees r (put_all batch (model.seen v.files Records)))

-- The patches are committed: all of them, or none if the commit is refused and the file goes on. No crash finds only
-- some of them. If the commit is refused, a crash finds them all only if the file has stopped.
pub record Commits {F : Type 0} (model : FileModel F)
    (patches : List Patch) (result : Result Unit StoreFault) (old new : FileValue F) : Type 0 where
  pub done : OnOk result (Agrees (model.seen new.files Records) (put_all patches (model.seen old.files Records)))
  pub sure : OnOk result ((loose : List Patch) → IsSteady model old loose → new.has_stopped ≡ false → IsSteady model new [])
  pub undone : OnErr result (new.has_stopped ≡ false → Agrees (model.seen new.files Records) (model.seen old.files Records))
  pub steady : OnErr result ((loose : List Patch) → IsSteady model old loose → new.has_stopped ≡ false → IsSteady model new loose)
  pub moments : (loose : List Patch) → IsSteady model old loose → LeavesOnly model old.files new.files
      (Finds (model.seen old.files) (λ r. AgreesBut loose r (model.seen old.files Records) ⊎ OnlyIf (OnErr result (new.has_stopped ≡ true)) (Agrees r (put_all patches (model.seen old.files Records)))))

-- nothing was written
pub record ReadsOnly {F : Type 0} (model : FileModel F)
    (old new : FileValue F) : Type 0 where
  pub nothing : WritesNothing model old.files new.files
  pub redo : new.redo ≡ old.redo
  pub loose : new.is_loose ≡ old.is_loose

-- A file stops only if a call of the system has failed, and a file that has stopped does nothing more.
pub record Runs {F : Type 0} (model : FileModel F) (old new : FileValue F) : Type 0 where
  pub after : ComesAfter model old.files new.files
  pub stops : new.has_stopped ≡ true → (old.has_stopped ≡ true) ⊎ HasFailed model old.files new.files
  pub stays : old.has_stopped ≡ true → new ≡ old

-- why a call was not carried out
abbrev pub IsReason : {F : Type 0} → FileModel F → FileValue F → FileValue F → StoreFault → Type 0
IsReason model old new fault.Closed = old.has_stopped ≡ true
IsReason model old new fault.Io = (new.has_stopped ≡ true) × HasFailed model old.files new.files
IsReason model old new fault.NoRoom = Rises model.shortages old.files new.files
IsReason model old new fault.OutOfMemory = ⊤
IsReason model old new _ = ⊥

-- The outcome of a call: after Ok the file goes on as it was, and an error has a reason.
pub record Calls {F T : Type 0} (model : FileModel F) (result : Result T StoreFault) (old new : FileValue F) : Type 0 where
  pub runs : Runs model old new
  pub goes_on : OnOk result (new.has_stopped ≡ old.has_stopped)
  pub reason : IfErr result (IsReason model old new)
