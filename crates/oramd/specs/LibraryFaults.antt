-- The program's faults for the faults of its libraries.
use Rattle.std.specs.Prelude.{Result, Ok, Err}
use Rattle.std.specs.Option.{option_map_or}
use Rattle.oram_cli.specs.declared.file_faults.FileFault.{FileFault}
use Rattle.oram_cli.specs.declared.file_faults.FileFault.TheVariants as file
use Rattle.oram_cli.specs.declared.sockets.SocketFault.{SocketFault}
use Rattle.oram_cli.specs.declared.sockets.SocketFault.TheVariants as socket
use Rattle.oram_geometry.specs.declared.Sizes.{Sizes}
use Rattle.oram_geometry.specs.declared.ShapeFault.{ShapeFault}
use Rattle.oram_geometry.specs.Sizes as sizes
use Rattle.oram_wire.specs.declared.sinks.SinkFault.TheVariants as sink
use Rattle.oram_tree.specs.declared.faults.FormatFault.{FormatFault}
use Rattle.oram_tree.specs.declared.faults.FormatFault.TheVariants as format
use Rattle.oram_state.specs.Parser as state
use Rattle.oram_state.specs.declared.fault.StateFault.{StateFault}
use Rattle.oramd.specs.declared.faults.Fault.{Fault}
use Rattle.oramd.specs.declared.faults.Fault.TheVariants.{File, HostRefused, OutOfMemory, Shape, Socket, State}

-- The daemon's line names the file, and has no place for the reason.
abbrev pub file_fault : FileFault → Fault
file_fault (file.File name reason) = File name
file_fault file.OutOfMemory = OutOfMemory

abbrev pub socket_fault : SocketFault → Fault
socket_fault socket.Failed = Socket
socket_fault socket.OutOfMemory = OutOfMemory

-- The fault for numbers that make no device has the number of their fault.
abbrev pub shape_fault : ShapeFault → Fault
shape_fault why = Shape (sizes.fault_number why)

-- So has the fault for a state file that holds no core. Running out of memory has no number.
abbrev pub state_fault : StateFault → Fault
state_fault why = option_map_or State (state.fault_number why) OutOfMemory

-- oramd's fault if a formatting is broken off for this reason
abbrev pub format_fault : FormatFault → Fault
format_fault (format.Sink sink.Refused) = HostRefused
format_fault (format.Sink sink.Link) = Socket
format_fault (format.Sink sink.OutOfMemory) = OutOfMemory
format_fault format.OutOfMemory = OutOfMemory

-- the device with five numbers, or the program's fault for them
abbrev pub made_device : Result Sizes ShapeFault → Result Sizes Fault
made_device (Ok d) = Ok d
made_device (Err why) = Err (shape_fault why)
