-- The bytes that a reader gives when a frame is due, and those that a writer takes of a frame.
use Rattle.std.specs.Prelude.{◌≡◌, ℕ, ◌<◌, ◌≤◌, List, [], Option, length, take}
use Rattle.std.specs.Io.KnownBytes.{Appends, Consumes, IsAtEnd}
use Rattle.oram_wire.specs.declared.TheConstants.{LONGEST_BODY}
use Rattle.oram_wire.specs.FrameStream.{IsBody, IsBroken, IsUnfinished, frame, length_at}

-- the reader gave a frame with this body
abbrev pub GivesFrame : Option (List ℕ) → Option (List ℕ) → List ℕ → Type 0
GivesFrame old new body = IsBody body × Consumes old new (frame body)

-- the reader gave nothing, and the input ends there
abbrev pub GivesEnd : Option (List ℕ) → Option (List ℕ) → Type 0
GivesEnd old new = Consumes old new [] × IsAtEnd new

-- the reader gave less than a whole frame
abbrev pub GivesPart : Option (List ℕ) → Option (List ℕ) → Type 0
GivesPart old new = (part : List ℕ) × IsUnfinished part × Consumes old new part

-- the reader gave at least one byte but less than a whole frame, and the input ends there
abbrev pub GivesCutFrame : Option (List ℕ) → Option (List ℕ) → Type 0
GivesCutFrame old new = (part : List ℕ) × (0 < length part) × IsUnfinished part
    × Consumes old new part × IsAtEnd new

-- the reader gave a length that is too great for a frame
abbrev pub GivesBrokenHead : Option (List ℕ) → Option (List ℕ) → Type 0
GivesBrokenHead old new = (head : List ℕ) × (length head ≡ 4) × IsBroken head × Consumes old new head

-- the reader gave a length greater than this one
abbrev pub GivesLongHead : ℕ → Option (List ℕ) → Option (List ℕ) → Type 0
GivesLongHead longest old new = (head : List ℕ) × (length head ≡ 4) × (longest < length_at head) × Consumes old new head

-- the reader gave the length of a frame
abbrev pub GivesHead : Option (List ℕ) → Option (List ℕ) → Type 0
GivesHead old new = (head : List ℕ) × (length head ≡ 4) × (length_at head ≤ LONGEST_BODY)
    × Consumes old new head

-- the writer took a beginning of these bytes, but not all of them
abbrev pub TakesPart : Option (List ℕ) → Option (List ℕ) → List ℕ → Type 0
TakesPart old new bytes = (count : ℕ) × (count < length bytes) × Appends old new (take count bytes)
