-- The protocol's numbers of errors, and the fault of a connection for a fault of reading.
use Rattle.std.specs.Prelude.{ℕ}
use Rattle.oram_wire.specs.declared.frame_io.FrameFault.{FrameFault}
use Rattle.oram_wire.specs.declared.frame_io.FrameFault.TheVariants as frames
use Rattle.oram_nbd.specs.declared.faults.NbdError.{NbdError}
use Rattle.oram_nbd.specs.declared.faults.NbdError.TheVariants.{Io, NoMemory, Invalid, NoSpace, Shutdown}
use Rattle.oram_nbd.specs.declared.faults.NbdFault.{NbdFault}
use Rattle.oram_nbd.specs.declared.faults.NbdFault.TheVariants as fault

-- the error's number on the wire, that of errno (NBD's proto.md, "Error values")
abbrev pub error_number : NbdError → ℕ
error_number Io = 5
error_number NoMemory = 12
error_number Invalid = 22
error_number NoSpace = 28
error_number Shutdown = 108

-- the fault of a connection, by why its next message can't be read
abbrev pub reading_fault : FrameFault → NbdFault
reading_fault frames.Read = fault.Read
reading_fault frames.Truncated = fault.Truncated
reading_fault frames.Frame = fault.Magic
reading_fault frames.OutOfMemory = fault.OutOfMemory
