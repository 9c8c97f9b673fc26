-- What the system answered for the name of a file.
use Rattle.std.specs.Prelude.{◌≢◌, ℕ, List}
use Rattle.std.specs.declared.io.ErrorKind.{ErrorKind}
use Rattle.std.specs.declared.io.ErrorKind.TheVariants.{NotFound}
use Rattle.oram_cli.specs.FileFaults.{IsFaultOf}
use Rattle.oram_cli.specs.declared.file_faults.FileFault.{FileFault}

-- A call on this name failed, and not because there is no such file. The fault has the system's reason.
abbrev pub IsFailedCall : (List ℕ → ErrorKind → Type 0) → List ℕ → FileFault → Type 0
IsFailedCall fails name why = (kind : ErrorKind) × fails name kind × (kind ≢ NotFound) × IsFaultOf name kind why
