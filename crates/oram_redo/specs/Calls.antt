-- The calls that were made on the system's files.
use Rattle.std.specs.Prelude.{List}
use Rattle.oram_redo.specs.Note.{Call}
use Rattle.oram_redo.specs.declared.system_files.SystemFiles.{SystemFiles}

-- the newest first
abbrev pub calls_of : SystemFiles → List Call
calls_of files = files.history.calls
