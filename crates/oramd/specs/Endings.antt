-- What the end of a connection means to the program, and how the program ends.
use Rattle.std.specs.Prelude.{ℕ, Option, Some, None, Result, Ok, Err}
use Rattle.oram_semantics.specs.declared.events.Reason.{Reason}
use Rattle.oram_host.specs.declared.serve_fault.ServeFault.{ServeFault}
use Rattle.oram_host.specs.declared.serve_fault.ServeFault.TheVariants as serve
use Rattle.oramd.specs.declared.faults.Fault.{Fault}
use Rattle.oramd.specs.declared.faults.Fault.TheVariants.{Failed, Stalled, OutOfMemory}

-- What a peer or the connection to it causes ends that connection alone, and the program goes on with the next
-- one.
abbrev pub after_serving : Result ℕ ServeFault → Result (Unit {0}) Fault
after_serving (Ok count) = Ok tt
after_serving (Err serve.Read) = Ok tt
after_serving (Err serve.Write) = Ok tt
after_serving (Err serve.Frame) = Ok tt
after_serving (Err serve.Truncated) = Ok tt
after_serving (Err serve.Stalled) = Err Stalled
after_serving (Err serve.OutOfMemory) = Err OutOfMemory

-- how the program ends after its sessions ended like this, and perhaps its device failed
abbrev pub ending : Result (Unit {0}) Fault → Option Reason → Result (Unit {0}) Fault
ending (Err why) failure = Err why
ending (Ok served) None = Ok tt
ending (Ok served) (Some reason) = Err Failed
