-- The fault that a failed call on a socket becomes.
use Rattle.std.specs.declared.io.ErrorKind.{ErrorKind}
use Rattle.std.specs.declared.io.ErrorKind.TheVariants as error
use Rattle.oram_cli.specs.declared.sockets.SocketFault.{SocketFault}
use Rattle.oram_cli.specs.declared.sockets.SocketFault.TheVariants.{Failed, OutOfMemory}

-- the fault for the system's error
abbrev pub socket_fault : ErrorKind → SocketFault
socket_fault error.OutOfMemory = OutOfMemory
socket_fault any_other = Failed
