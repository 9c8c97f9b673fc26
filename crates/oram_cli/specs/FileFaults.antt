-- The fault that a failed call on a file becomes.
use Rattle.std.specs.Global.{Global}
use Rattle.std.specs.Prelude.{◌≡◌, ◌⊎◌, ℕ, List, String, string_bytes}
use Rattle.std.specs.declared.io.ErrorKind.{ErrorKind}
use Rattle.std.specs.declared.io.ErrorKind.TheVariants as error
use Rattle.oram_cli.specs.declared.file_faults.FileFault.{FileFault}
use Rattle.oram_cli.specs.declared.file_faults.FileFault.TheVariants.{File, OutOfMemory}
use Rattle.oram_cli.specs.declared.file_faults.FileReason.{FileReason}
use Rattle.oram_cli.specs.declared.file_faults.FileReason.TheVariants as reason

-- the reason for the system's error
abbrev pub reason_of : ErrorKind → FileReason
reason_of error.NotFound = reason.Missing
reason_of error.AlreadyExists = reason.Exists
reason_of error.PermissionDenied = reason.NotPermitted
reason_of error.ReadOnlyFilesystem = reason.NotPermitted
reason_of error.StorageFull = reason.DiskFull
reason_of error.QuotaExceeded = reason.DiskFull
reason_of error.IsADirectory = reason.Folder
reason_of any_other = reason.Other

-- the fault for such an error of a call on the file or folder `name`
abbrev pub file_fault : ErrorKind → String Global → FileFault
file_fault error.OutOfMemory name = OutOfMemory
file_fault any_other name = File name (reason_of any_other)

-- it is this fault, of a name with these bytes, or there was no memory for the name
abbrev pub IsFaultOf : List ℕ → ErrorKind → FileFault → Type 0
IsFaultOf name kind fault = ((copy : String Global) × (string_bytes copy ≡ name) × (fault ≡ file_fault kind copy)) ⊎ (fault ≡ OutOfMemory)
