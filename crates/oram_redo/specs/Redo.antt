-- The state of a redo log between two calls.
use Rattle.std.specs.Prelude.{◌≡◌, ◌≤◌, ℕ, ◌+◌, List, length, Result, Ok, Err}
use Rattle.oram_redo.specs.FilePair.{Contents, FileModel}
use Rattle.oram_redo.specs.Log.{Patch, IsLog, AgreesBut, entries, put_all}
use Rattle.oram_redo.specs.declared.file_pair.FileKind.TheVariants.{Records, Log}
use Rattle.oram_redo.specs.declared.bounds.Bounds.{Bounds}
use Rattle.oram_redo.specs.declared.faults.RedoError.{RedoError}
use Rattle.oram_redo.specs.declared.faults.RedoError.TheVariants.{Memory, NoRoom, Failed, LogFull, Damaged}
use Rattle.oram_redo.specs.declared.redo.Redo.{Redo}

abbrev pub bounds_of : Redo → Bounds
bounds_of redo = redo.bounds

-- the place of the next entry
abbrev pub end_of : Redo → ℕ
end_of redo = redo.end

-- What a read returns (`seen`) and what a crash may leave are crash consistent: the log is sure up to the shut gate after
-- its last entry, and whatever a crash leaves stands for the records that are read, except in the places of `loose`.
pub record AreCrashConsistent (redo : Redo) (loose : List Patch) (seen : Contents) (may_leave : Contents → Type 0) : Type 0 where
  pub patches : List Patch
  pub log : IsLog (bounds_of redo) patches (seen Log)
  pub end : end_of redo ≡ redo.bounds.log_start + length (entries patches)
  pub sure : (c : Contents) → may_leave c → (i : ℕ) → i ≤ end_of redo → c Log i ≡ seen Log i
  pub stands : (c : Contents) → may_leave c → AgreesBut loose (put_all patches (c Records)) (seen Records)

-- a pair of files is crash consistent
abbrev pub IsCrashConsistent : {D : Type 0} → FileModel D → Redo → List Patch → D → Type 0
IsCrashConsistent model redo loose files = AreCrashConsistent redo loose (model.seen files) (model.may_leave files)

-- The call was refused: it did nothing, and the next call may be made.
abbrev pub IsRefused : Result Unit RedoError → Type 0
IsRefused (Ok _) = ⊥
IsRefused (Err Memory) = Unit {0}
IsRefused (Err NoRoom) = Unit {0}
IsRefused (Err LogFull) = Unit {0}
IsRefused (Err Failed) = ⊥
IsRefused (Err Damaged) = ⊥
