-- What was written or read, if the bytes are known. A transfer may have been cut short.
use Rattle.std.specs.Prelude.{ℕ, List, Option, take}
use Rattle.std.specs.Io.KnownBytes.{Appends, Consumes}

-- a writer took a beginning of the text
abbrev pub Begins : Option (List ℕ) → Option (List ℕ) → List ℕ → Type 0
Begins old new text = (count : ℕ) × Appends old new (take count text)

-- a reader gave a beginning of its bytes
abbrev pub TakesFrom : Option (List ℕ) → Option (List ℕ) → Type 0
TakesFrom old new = (bytes : List ℕ) × Consumes old new bytes
