-- The store's fault for an error of a layer below.
use Rattle.std.specs.Prelude.{◌≡◌, ◌⊎◌, ◌↔◌, List, ℕ, take}
use Rattle.oram_layout.specs.Fronts.{IsNewer, IsOlder, sqlite_letters}
use Rattle.oram_layout.specs.declared.faults.LayoutFault.{LayoutFault}
use Rattle.oram_layout.specs.declared.faults.LayoutFault.TheVariants as layout
use Rattle.oram_redo.specs.declared.faults.RedoError.{RedoError}
use Rattle.oram_redo.specs.declared.faults.RedoError.TheVariants as error
use Rattle.oram_store.specs.declared.faults.StoreFault.{StoreFault}
use Rattle.oram_store.specs.declared.faults.StoreFault.TheVariants.{Busy, CutShort, Damaged, Exists, Io, LogDamaged, LogNewer, LogOfAnotherFile, LogOlder, LogWithoutFile, Missing, NewFileTaken, NewLogTaken, NewerKind, NoRoom, NotABucketFile, OlderVersion, OutOfMemory, WithoutLog}
use Rattle.oram_pair.specs.declared.faults.PairFault.{PairFault}
use Rattle.oram_pair.specs.declared.faults.PairFault.TheVariants as pair

-- the store's fault, by that of its redo log
abbrev pub fault_of : RedoError → StoreFault
fault_of error.Memory = OutOfMemory
fault_of error.NoRoom = NoRoom
fault_of error.Damaged = LogDamaged
fault_of error.Failed = Io
fault_of error.LogFull = Io

abbrev pub fault_in : LayoutFault → StoreFault
fault_in layout.Damaged = Damaged
fault_in layout.OutOfMemory = OutOfMemory

-- why a file is refused that isn't one of buckets of this version, by its first bytes
pub record IsOtherKind (first : List ℕ) (fault : StoreFault) : Type 0 where
  pub newer : (fault ≡ NewerKind) ↔ IsNewer first
  pub old : (fault ≡ OlderVersion) ↔ ((take 16 first ≡ sqlite_letters) ⊎ IsOlder first)
  pub which : (fault ≡ NewerKind) ⊎ (fault ≡ OlderVersion) ⊎ (fault ≡ NotABucketFile)

-- the store's fault for that of its pair of files
abbrev pub StandsForPair : PairFault → StoreFault → Type 0
StandsForPair pair.Busy fault = fault ≡ Busy
StandsForPair pair.Missing fault = fault ≡ Missing
StandsForPair pair.Exists fault = fault ≡ Exists
StandsForPair pair.NewFileTaken fault = fault ≡ NewFileTaken
StandsForPair pair.NewLogTaken fault = fault ≡ NewLogTaken
StandsForPair pair.NotAFile fault = fault ≡ NotABucketFile
StandsForPair (pair.OtherKind first) fault = IsOtherKind first fault
StandsForPair pair.WithoutLog fault = fault ≡ WithoutLog
StandsForPair pair.LogOfAnotherFile fault = fault ≡ LogOfAnotherFile
StandsForPair pair.LogWithoutFile fault = fault ≡ LogWithoutFile
StandsForPair pair.LogOlder fault = fault ≡ LogOlder
StandsForPair pair.LogNewer fault = fault ≡ LogNewer
StandsForPair pair.CutShort fault = fault ≡ CutShort
StandsForPair pair.Damaged fault = fault ≡ Damaged
StandsForPair pair.LogDamaged fault = fault ≡ LogDamaged
StandsForPair pair.NoRoom fault = fault ≡ NoRoom
StandsForPair pair.NotPermitted fault = fault ≡ Io
StandsForPair pair.Io fault = fault ≡ Io
StandsForPair pair.OutOfMemory fault = fault ≡ OutOfMemory
