-- Reading an image from front to back, to its first fault.
use Rattle.std.specs.Prelude.{◌≡◌, ℕ, zero, suc, ◌+◌, ◌-◌, ◌*◌, ◌^◌, Bool, true, false, ◌&&◌, ◌==◌, nat_eq, nat_lt, nat_le, if◌then◌else◌, List, [], ◌∷◌, length, take, drop, codes, Option, Some, None, IfSome, Result, Ok, Err, ⊤}
use Rattle.std.specs.Int.{w32, from_be_bytes}
use Rattle.std.specs.List.{starts_with}
use Rattle.oram_wire.specs.declared.TheConstants.{LONGEST_BODY}
use Rattle.oram_host.specs.declared.images.ImageFault.{ImageFault}
use Rattle.oram_host.specs.declared.images.ImageFault.TheVariants.{Magic, Version, Length, Content, Io, OutOfMemory}
use Rattle.oram_host.specs.Host.{Host, Kept}

-- the number by which messages name a fault of an image; a fault of the reader or of memory has none
abbrev pub fault_number : ImageFault → Option ℕ
fault_number Magic = Some 1
fault_number Version = Some 2
fault_number Length = Some 3
fault_number Content = Some 4
fault_number Io = None
fault_number OutOfMemory = None

-- Reading what the reader held meets this fault first, if the bytes are known. Io and OutOfMemory say nothing about the
-- bytes.
abbrev pub IsFirstFault : {X : Type 0} → (List ℕ → Result X ImageFault) → ImageFault → Option (List ℕ) → Type 0
IsFirstFault reading Io held = ⊤
IsFirstFault reading OutOfMemory held = ⊤
IsFirstFault reading why held = IfSome held (λ text. reading text ≡ Err why)

-- what is read from the front of a text and the text after it, or a fault
abbrev pub Reading : Type 0 → Type 0
Reading X = Result (X × List ℕ) ImageFault

infixl 10 ◌>>=◌
abbrev pub ◌>>=◌ : {X Y : Type 0} → Result X ImageFault → (X → Result Y ImageFault) → Result Y ImageFault
(Ok x) >>= next = next x
(Err why) >>= next = Err why

-- a condition that every host fulfils
abbrev pub lawful : Bool → Result (Unit {0}) ImageFault
lawful true = Ok tt
lawful false = Err Content

unfoldable pub next_bytes : ℕ → List ℕ → Reading (List ℕ)
next_bytes n text = if nat_lt (length text) n then Err Length else Ok (take n text, drop n text)

unfoldable pub next_byte : List ℕ → Reading ℕ
next_byte [] = Err Length
next_byte (b ∷ text) = Ok (b, text)

unfoldable pub next_number : List ℕ → Reading ℕ
next_number text = do
  bytes ← next_bytes 4 text
  Ok (from_be_bytes w32 bytes.0, bytes.1)

-- `count` entries by rising number, from `least` on
unfoldable pub next_rising : {X : Type 0} → (ℕ → List ℕ → Reading (ℕ × X)) → ℕ → ℕ → List ℕ → Reading (List (ℕ × X))
next_rising next_entry zero least text = Ok ([], text)
next_rising next_entry (suc count) least text = do
  first ← next_entry least text
  others ← next_rising next_entry count (first.0.0 + 1) first.1
  Ok (first.0 ∷ others.0, others.1)

-- the number of the entries, which is at most `most`, and the entries
unfoldable pub next_entries : {X : Type 0} → ℕ → (ℕ → List ℕ → Reading (ℕ × X)) → List ℕ → Reading (List (ℕ × X))
next_entries most next_entry text = do
  count ← next_number text
  _ ← lawful (nat_le count.0 most)
  next_rising next_entry count.0 0 count.1

-- a node and its record
unfoldable pub next_record : ℕ → ℕ → ℕ → List ℕ → Reading (ℕ × List ℕ)
next_record nodes record_len least text = do
  node ← next_number text
  _ ← lawful (nat_le least node.0 && nat_lt node.0 nodes)
  bytes ← next_bytes record_len node.1
  Ok ((node.0, bytes.0), bytes.1)

abbrev pub is_shape : ℕ → ℕ → Bool
is_shape depth record_len = nat_le depth 24 && nat_lt 0 record_len && nat_le ((depth + 1) * record_len + 6) LONGEST_BODY

-- a shape, and at most one record for each node
unfoldable pub next_kept : List ℕ → Reading Kept
next_kept text = do
  depth ← next_byte text
  record_len ← next_number depth.1
  _ ← lawful (is_shape depth.0 record_len.0)
  let nodes = 2 ^ (depth.0 + 1) - 1
  records ← next_entries nodes (next_record nodes record_len.0) record_len.1
  Ok (record { depth = depth.0; record_len = record_len.0; records = records.0 }, records.1)

-- a tree's number and what is kept of it
unfoldable pub next_tree : ℕ → List ℕ → Reading (ℕ × Kept)
next_tree least text = do
  number ← next_byte text
  _ ← lawful (nat_le least number.0)
  kept ← next_kept number.1
  Ok ((number.0, kept.0), kept.1)

-- the text after the eight letters that it begins with
unfoldable pub after_letters : List ℕ → Result (List ℕ) ImageFault
after_letters text = if starts_with nat_eq text (codes "ORAMHOST") then Ok (drop 8 text) else Err Magic

unfoldable pub after_version : List ℕ → Result (List ℕ) ImageFault
after_version text = do
  version ← next_number text
  if version.0 == 1 then Ok version.1 else Err Version

-- the text must end here
unfoldable pub after_end : List ℕ → Result (Unit {0}) ImageFault
after_end [] = Ok tt
after_end (b ∷ text) = Err Length

-- the host whose image is the whole text
unfoldable pub host_in : List ℕ → Result Host ImageFault
host_in text = do
  letters ← after_letters text
  version ← after_version letters
  trees ← next_entries 256 next_tree version
  _ ← after_end trees.1
  Ok trees.0
