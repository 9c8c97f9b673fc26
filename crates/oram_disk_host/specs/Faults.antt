-- How the program ends if it can't go on: a line, and its exit status.
use Rattle.std.specs.Global.{Global}
use Rattle.std.specs.Prelude.{ℕ, List, ◌++◌, String, codes, string_bytes}
use Rattle.oram_cli.specs.declared.file_faults.FileFault.{FileFault}
use Rattle.oram_cli.specs.declared.file_faults.FileFault.TheVariants as file
use Rattle.oram_cli.specs.declared.file_faults.FileReason.TheVariants as reason
use Rattle.oram_store.specs.declared.faults.StoreFault.{StoreFault}
use Rattle.oram_store.specs.declared.faults.StoreFault.TheVariants as store
use Rattle.oram_disk_host.specs.Kinds as of_kind
use Rattle.oram_disk_host.specs.declared.kinds.FaultKind.TheVariants as kind
use Rattle.oram_disk_host.specs.declared.faults.Fault.{Fault}
use Rattle.oram_disk_host.specs.declared.faults.Fault.TheVariants.{About, OutOfMemory, Accept, Random}

-- what happened and to what, and what to do
abbrev pub line_of : Fault → List ℕ
line_of (About kind name) = of_kind.front kind ++ string_bytes name ++ of_kind.rest kind
line_of OutOfMemory = codes "oramdisk: " ++ codes "out of memory" ++ codes "\n"
line_of Accept = codes "oramdisk: " ++ codes "can't accept connections" ++ codes ": start it again\n"
line_of Random = codes "oramdisk: " ++ codes "the system gives no random bytes" ++ codes ": start it again\n"

-- 3: memory; 5: a socket; 15: no random bytes
abbrev pub status_of : Fault → ℕ
status_of (About kind name) = of_kind.status kind
status_of OutOfMemory = 3
status_of Accept = 5
status_of Random = 15

-- the fault of the program for the fault of a file: it keeps the name and the reason
abbrev pub file_fault : FileFault → Fault
file_fault (file.File name why) = About (kind.File why) name
file_fault file.OutOfMemory = OutOfMemory

-- the fault of the program if the store in the file `name` can't be opened, or has stopped
abbrev pub store_fault : StoreFault → String Global → Fault
store_fault store.Busy name = About kind.Busy name
store_fault store.Missing name = About kind.NoFile name
store_fault store.Exists name = About kind.FileExists name
store_fault store.NewFileTaken name = About kind.NewFileTaken name
store_fault store.NewLogTaken name = About kind.NewLogTaken name
store_fault store.NotABucketFile name = About kind.NotABucketFile name
store_fault store.OlderVersion name = About kind.OlderFile name
store_fault store.NewerKind name = About kind.NewerFile name
store_fault store.WithoutLog name = About kind.WithoutLog name
store_fault store.LogOfAnotherFile name = About kind.LogOfAnotherFile name
store_fault store.LogWithoutFile name = About kind.LogWithoutFile name
store_fault store.LogOlder name = About kind.LogOlder name
store_fault store.LogNewer name = About kind.LogNewer name
store_fault store.CutShort name = About kind.CutShort name
store_fault store.Damaged name = About kind.Damaged name
store_fault store.LogDamaged name = About kind.LogDamaged name
store_fault store.NoRoom name = About (kind.File reason.DiskFull) name
store_fault store.Io name = About (kind.File reason.Other) name
store_fault store.Closed name = About (kind.File reason.Other) name
store_fault store.OutOfMemory name = OutOfMemory
