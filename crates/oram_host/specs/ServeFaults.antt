-- The fault with which a connection ends, if a frame of it can't be read.
use Rattle.oram_wire.specs.declared.frame_io.FrameFault.{FrameFault}
use Rattle.oram_wire.specs.declared.frame_io.FrameFault.TheVariants as frames
use Rattle.oram_host.specs.declared.serve_fault.ServeFault.{ServeFault}
use Rattle.oram_host.specs.declared.serve_fault.ServeFault.TheVariants.{Read, Frame, Truncated, OutOfMemory}

-- that fault, by the fault of the frame
abbrev pub frame_fault : FrameFault → ServeFault
frame_fault frames.Read = Read
frame_fault frames.Frame = Frame
frame_fault frames.Truncated = Truncated
frame_fault frames.OutOfMemory = OutOfMemory
