-- The streams of a connection, and what is read and written if a message is cut off.
use Rattle.std.specs.Prelude.{◌≡◌, ℕ, ◌<◌, ◌≤◌, List, length, take, Option}
use Rattle.std.specs.Io.KnownBytes.{Appends, Consumes, IsAtEnd}
use Rattle.oram_nbd.specs.declared.faults.NbdFault.{NbdFault}
use Rattle.oram_nbd.specs.declared.faults.NbdFault.TheVariants.{Read, Truncated, Magic, Write, UnknownFlags, UnknownExport, TooManyOptions, OutOfMemory, Stopped}

-- the two streams of a connection, if their bytes are known
pub record Streams : Type 0 where
  pub unread : Option (List ℕ)  -- what the client has sent and the server hasn't read yet
  pub written : Option (List ℕ)  -- what the server has written

abbrev pub streams : Option (List ℕ) → Option (List ℕ) → Streams
streams unread written = record { unread = unread; written = written }

-- n bytes were read, whatever they are
abbrev pub IsSkip : Option (List ℕ) → Option (List ℕ) → ℕ → Type 0
IsSkip old new n = (bytes : List ℕ) × (length bytes ≡ n) × Consumes old new bytes

-- Only a part of n bytes was read: the reader failed after it, or the input ended there, after at least `least` bytes.
abbrev pub ComesShort : ℕ → ℕ → NbdFault → Option (List ℕ) → Option (List ℕ) → Type 0
ComesShort least n Read old new = (part : List ℕ) × (length part < n) × Consumes old new part
ComesShort least n Truncated old new = (part : List ℕ) × (length part < n) × Consumes old new part × (least ≤ length part) × IsAtEnd new
ComesShort least n Magic old new = ⊥
ComesShort least n Write old new = ⊥
ComesShort least n UnknownFlags old new = ⊥
ComesShort least n UnknownExport old new = ⊥
ComesShort least n TooManyOptions old new = ⊥
ComesShort least n OutOfMemory old new = ⊥
ComesShort least n Stopped old new = ⊥

-- a beginning of the text was written, or all of it
abbrev pub IsBegunText : Option (List ℕ) → Option (List ℕ) → List ℕ → Type 0
IsBegunText old new text = (count : ℕ) × Appends old new (take count text)

-- A message with a head was due, but only a part of it came, or bytes that are no such message.
abbrev pub Misses : (List ℕ → Type 0) → (List ℕ → Type 0) → NbdFault → Option (List ℕ) → Option (List ℕ) → Type 0
Misses unfinished none Read old new = (part : List ℕ) × unfinished part × Consumes old new part
Misses unfinished none Truncated old new = (part : List ℕ) × unfinished part × Consumes old new part × (0 < length part) × IsAtEnd new
Misses unfinished none Magic old new = (part : List ℕ) × none part × Consumes old new part
Misses unfinished none Write old new = ⊥
Misses unfinished none UnknownFlags old new = ⊥
Misses unfinished none UnknownExport old new = ⊥
Misses unfinished none TooManyOptions old new = ⊥
Misses unfinished none OutOfMemory old new = ⊥
Misses unfinished none Stopped old new = ⊥
