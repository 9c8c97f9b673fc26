-- The line that is printed for a connection.
use Rattle.std.specs.Prelude.{ℕ, List, [], ◌++◌, Option, Some, None, codes, decimal, string_bytes}
use Rattle.oram_host.specs.declared.serve_fault.ServeFault.TheVariants as serve
use Rattle.oram_store.specs.declared.faults.StoreFault.{StoreFault}
use Rattle.oram_store.specs.declared.faults.StoreFault.TheVariants as store
use Rattle.oram_settings.specs.Amounts.{counted}
use Rattle.oram_disk_host.specs.declared.connection.EarlyEnd.{EarlyEnd}
use Rattle.oram_disk_host.specs.declared.connection.EarlyEnd.TheVariants as early
use Rattle.oram_disk_host.specs.declared.connection.ConnectionReport.{ConnectionReport}

-- what the line says of an early end
abbrev pub ending : Option EarlyEnd → List ℕ
ending None = []
ending (Some early.Displaced) = codes ", a newer connection took its place"
ending (Some early.Silent) = codes ", it was silent for a minute"
ending (Some (early.Fault serve.Read)) = codes ", reading failed"
ending (Some (early.Fault serve.Write)) = codes ", writing failed"
ending (Some (early.Fault serve.Frame)) = codes ", a frame was too long"
ending (Some (early.Fault serve.Truncated)) = codes ", a frame was cut short"
ending (Some (early.Fault serve.Stalled)) = codes ", it stalled"
ending (Some (early.Fault serve.OutOfMemory)) = codes ", out of memory"

-- what the line says of a file that had no room
abbrev pub failing : Option StoreFault → List ℕ
failing None = []
failing (Some store.NoRoom) = codes ", the disk was full"
failing (Some store.Io) = codes ", the disk failed"
failing (Some store.Closed) = codes ", the disk had failed"
failing (Some store.OutOfMemory) = codes ", there was no memory"
failing (Some _) = codes ", the file wasn't as it has to be"

-- who, from when until when, what was asked and answered, how it ended, and why the disk failed, if it did
abbrev pub line_of : ConnectionReport → List ℕ
line_of v = codes "oramdisk: " ++ string_bytes v.peer ++ codes " from " ++ string_bytes v.from ++ codes " until " ++ string_bytes v.until
    ++ codes ", " ++ counted v.tally.messages (codes "message") ++ codes ", " ++ decimal v.tally.received ++ codes " bytes in, "
    ++ decimal v.tally.sent ++ codes " bytes out" ++ ending v.ended ++ failing v.tally.failure ++ string_bytes v.reason ++ codes "\n"
