-- The faults with which the client's commands end.
use Rattle.std.specs.Global.{Global}
use Rattle.std.specs.Prelude.{◌≡◌, ◌<◌, ◌⊎◌, ◌∷◌, ◌++◌, ℕ, IfSome, List, None, Option, Some, String, codes, string_bytes}
use Rattle.oram_cli.specs.declared.file_faults.FileReason.TheVariants as reason
use Rattle.oram_disk_host.specs.declared.faults.Fault.{Fault}
use Rattle.oram_disk_host.specs.declared.faults.Fault.TheVariants.{About, OutOfMemory}
use Rattle.oram_disk_host.specs.declared.kinds.FaultKind.{FaultKind}
use Rattle.oram_disk_host.specs.declared.kinds.FaultKind.TheVariants as kind
use Rattle.oram_keeper.specs.declared.kept_files.OpenFault.{OpenFault}
use Rattle.oram_keeper.specs.declared.kept_files.OpenFault.TheVariants as opening
use Rattle.oram_keeper.specs.declared.pair_keeper.KeeperFault.TheVariants as keeper
use Rattle.oram_kept.specs.declared.opening.OpenError.TheVariants as text
use Rattle.oram_pair.specs.Faults.{fault_of}
use Rattle.oram_pair.specs.declared.faults.PairFault.{PairFault}
use Rattle.oram_pair.specs.declared.faults.PairFault.TheVariants as pair
use Rattle.oram_rounds.specs.Files.{IsWholeWith}

-- a fault of this kind about the name with these bytes, or there was no memory for the name
abbrev pub IsAbout : FaultKind → List ℕ → Fault → Type 0
IsAbout what name fault = ((copy : String Global) × (string_bytes copy ≡ name) × (fault ≡ About what copy)) ⊎ (fault ≡ OutOfMemory)

-- a fault of this kind about something, or there was no memory for what it is about
abbrev pub IsOfKind : FaultKind → Fault → Type 0
IsOfKind what fault = ((text : String Global) × (fault ≡ About what text)) ⊎ (fault ≡ OutOfMemory)

-- The letters of a state of an older version: VIDLAQE, and the byte of a digit from 1 to 6, or the letter C and the version 1.
abbrev pub HasOlderLetters : List ℕ → Type 0
HasOlderLetters file =
    ((digit : ℕ) × (rest : List ℕ) × (48 < digit) × (digit < 55) × (file ≡ codes "VIDLAQE" ++ digit ∷ rest))
    ⊎ ((rest : List ℕ) × (file ≡ codes "VIDLAQE" ++ 67 ∷ 1 ∷ rest))

-- the kind of the fault for the files of a state that can't be made or opened, or none if memory ran out
abbrev pub IsKindFor : PairFault → Option FaultKind → Type 0
IsKindFor pair.Busy found = found ≡ Some kind.InUse
IsKindFor pair.Missing found = found ≡ Some kind.Unformatted
IsKindFor pair.Exists found = found ≡ Some kind.Formatted
IsKindFor pair.NewFileTaken found = found ≡ Some kind.NewFileTaken
IsKindFor pair.NewLogTaken found = found ≡ Some kind.NewLogTaken
IsKindFor pair.NotAFile found = found ≡ Some kind.NotADisk
IsKindFor (pair.OtherKind letters) found =
    (HasOlderLetters letters × (found ≡ Some kind.OlderState)) ⊎ ((¬ HasOlderLetters letters) × (found ≡ Some kind.NotADisk))
IsKindFor pair.WithoutLog found = found ≡ Some kind.WithoutLog
IsKindFor pair.LogOfAnotherFile found = found ≡ Some kind.LogOfAnotherFile
IsKindFor pair.LogWithoutFile found = found ≡ Some kind.LogWithoutFile
IsKindFor pair.LogOlder found = found ≡ Some kind.LogOlder
IsKindFor pair.LogNewer found = found ≡ Some kind.LogNewer
IsKindFor pair.CutShort found = found ≡ Some kind.CutShort
IsKindFor pair.Damaged found = found ≡ Some kind.DamagedState
IsKindFor pair.LogDamaged found = found ≡ Some kind.DamagedState
IsKindFor pair.NoRoom found = found ≡ Some (kind.File reason.DiskFull)
IsKindFor pair.NotPermitted found = found ≡ Some (kind.File reason.NotPermitted)
IsKindFor pair.Io found = found ≡ Some (kind.File reason.Other)
IsKindFor pair.OutOfMemory found = found ≡ None

-- The fault for the files of the state `state` that can't be made or opened: it is about the state, or memory ran out.
pub record IsPairFault (why : PairFault) (state : List ℕ) (fault : Fault) : Type 0 where
  pub found : Option FaultKind
  pub is_kind : IsKindFor why found
  pub about : IfSome found (λ what. IsAbout what state fault)
  pub memory : found ≡ None → fault ≡ OutOfMemory

-- the fault of a pair of files that stands for the reason why no process was read from it
abbrev pub pair_fault_of : OpenFault → PairFault
pair_fault_of (opening.Pair fault) = fault
pair_fault_of (opening.Keeper (keeper.Files (text.Files error))) = fault_of error
pair_fault_of (opening.Keeper (keeper.Files text.NoText)) = pair.Damaged
pair_fault_of (opening.Keeper keeper.NoTitle) = pair.NotAFile
pair_fault_of (opening.Keeper keeper.OutOfMemory) = pair.OutOfMemory

-- The fault for bytes that are no process with these records, in the file `name`: they don't begin with STOREs and a note, or say another
-- number of bytes of records; or they hold no core that can be read with the disk's sealer.
abbrev pub IsNoProcessFor : List ℕ → List ℕ → List ℕ → Fault → Type 0
IsNoProcessFor process records name fault =
    ((¬ IsWholeWith process records) × IsAbout kind.DamagedState name fault)
    ⊎ ((IsWholeWith process records × IsAbout kind.NotADisk name fault) ⊎ (fault ≡ OutOfMemory))
