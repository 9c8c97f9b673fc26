-- The line and the exit status of a fault that ends the program.
use Rattle.std.specs.Prelude.{◌≡◌, ◌⊎◌, ℕ, List, ◌++◌, codes, decimal, string_bytes}
use Rattle.oramd.specs.declared.faults.Fault.{Fault}
use Rattle.oramd.specs.declared.faults.Fault.TheVariants.{CommandLine, Hex, Settings, OutOfMemory, File, Socket, Shape, State, Image, HostRefused, Stalled, Failed}

-- what oramd says of a fault
abbrev pub message_of : Fault → List ℕ
message_of CommandLine = codes "bad command line"
message_of Hex = codes "bad hex"
message_of Settings = codes "bad settings"
message_of OutOfMemory = codes "out of memory"
message_of (File name) = codes "file " ++ string_bytes name
message_of Socket = codes "socket"
message_of (Shape number) = codes "shape " ++ decimal number
message_of (State number) = codes "state " ++ decimal number
message_of (Image number) = codes "image " ++ decimal number
message_of HostRefused = codes "host refused"
message_of Stalled = codes "stalled"
message_of Failed = codes "failed"

abbrev pub line_of : Fault → List ℕ
line_of fault = codes "oramd: " ++ message_of fault ++ codes "\n"

-- 2: words, digits or settings; 3: memory; 4: a file or a socket; 5: a shape, a state or an image; 6: a device that
-- can't go on
abbrev pub status_of : Fault → ℕ
status_of CommandLine = 2
status_of Hex = 2
status_of Settings = 2
status_of OutOfMemory = 3
status_of (File name) = 4
status_of Socket = 4
status_of (Shape number) = 5
status_of (State number) = 5
status_of (Image number) = 5
status_of HostRefused = 6
status_of Stalled = 6
status_of Failed = 6

-- the fault of the file of this name, or that memory ran out
abbrev pub IsFileFault : List ℕ → Fault → Type 0
IsFileFault name fault = (message_of fault ≡ codes "file " ++ name) ⊎ (fault ≡ OutOfMemory)
