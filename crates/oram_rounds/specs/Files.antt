-- What is kept of a process: the STOREs that wait, the note and the records of its link, and the core.
use Rattle.std.specs.Prelude.{◌≡◌, ℕ, ◌<◌, ◌^◌, List, ◌++◌, length}
use Rattle.std.specs.Hash.DefaultHasher as sip
use Rattle.std.specs.Int.{w64, to_be_bytes}
use Rattle.std.specs.List.{AllByRecursion, flat_map}
use Rattle.oram_geometry.specs.declared.Sizes.{Sizes}
use Rattle.oram_semantics.specs.Scheme.{Scheme}
use Rattle.oram_semantics.specs.State.{State}
use Rattle.oram_state.specs.AroundTable.{after_table, before_table}
use Rattle.oram_state.specs.DecodedCore.{AreSavedFields}
use Rattle.oram_rounds.specs.LinkNotes.{LinkNote}

-- a STORE, or a note, after its length in eight bytes
abbrev pub sized_text : List ℕ → List ℕ
sized_text bytes = to_be_bytes w64 (length bytes) ++ bytes

-- the number of STOREs in eight bytes, and the STOREs
abbrev pub stores_text : List (List ℕ) → List ℕ
stores_text stores = to_be_bytes w64 (length stores) ++ flat_map sized_text stores

-- SipHash-1-3 with keys of zeros
unfoldable pub checksum : List ℕ → ℕ
checksum text = sip.finish (sip.write sip.initial text)

-- what stands before the core's fields: the STOREs, the text of the note, and the number of bytes of the records in eight bytes
abbrev pub front_text : List (List ℕ) → LinkNote → List ℕ
front_text stores note = stores_text stores ++ (sized_text note.text ++ to_be_bytes w64 (length note.records))

-- the front, the core's fields and the records
abbrev pub kept_text : List (List ℕ) → LinkNote → List ℕ → List ℕ
kept_text stores note fields = front_text stores note ++ (fields ++ note.records)

-- The check of a process, by which its keepings are told apart: the checksum of its text without the core's table and without the
-- records. To compute it takes no longer if these are larger.
abbrev pub check_of : Scheme → List (List ℕ) → LinkNote → State → ℕ
check_of v stores note core = checksum (front_text stores note ++ (before_table v.cipher.overhead v.device core ++ after_table v.device core))

-- the number of STOREs and their lengths fit into eight bytes
abbrev pub AreCounted : List (List ℕ) → Type 0
AreCounted stores = (length stores < 2 ^ 64) × AllByRecursion (λ store. length store < 2 ^ 64) stores

-- the length fits into eight bytes
abbrev pub IsShort : List ℕ → Type 0
IsShort text = length text < 2 ^ 64

-- the lengths of the note's text and of its records fit into eight bytes
pub record IsShortNote (note : LinkNote) : Type 0 where
  pub text : IsShort note.text
  pub records : IsShort note.records

-- the bytes are some STOREs, a note, some fields and some records; whether the fields are a core's isn't said
pub record IsWhole (bytes : List ℕ) : Type 0 where
  pub stores : List (List ℕ)
  pub note : LinkNote
  pub fields : List ℕ
  pub counted : AreCounted stores
  pub short : IsShortNote note
  pub all : bytes ≡ kept_text stores note fields

-- the same, of which the last bytes are the records
pub record IsWholeWith (text records : List ℕ) : Type 0 where
  pub whole : IsWhole (text ++ records)
  pub behind : whole.note.records ≡ records

-- the bytes have these STOREs and this core, of a device whose sealed buckets have this overhead, and what its link wants to have kept
pub record IsFileOf (overhead : ℕ) (device : Sizes) (bytes : List ℕ) (stores : List (List ℕ)) (core : State) : Type 0 where
  pub counted : AreCounted stores
  pub note : LinkNote
  pub short : IsShortNote note
  pub fields : List ℕ
  pub saved : AreSavedFields fields overhead device core
  pub all : bytes ≡ kept_text stores note fields

abbrev pub IsFile : Scheme → List ℕ → List (List ℕ) → State → Type 0
IsFile v bytes stores core = IsFileOf v.cipher.overhead v.device bytes stores core

-- such a file with this note
abbrev pub IsFileWith : Scheme → List ℕ → List (List ℕ) → LinkNote → State → Type 0
IsFileWith v bytes stores note core = (file : IsFile v bytes stores core) × (file.note ≡ note)

-- A file has one list of STOREs, one core and one note.
abbrev pub FilesTellOfOneProcess : Type 0
FilesTellOfOneProcess = (overhead : ℕ) (d d' : Sizes) (bytes : List ℕ) (stores stores' : List (List ℕ)) (core core' : State)
    → (file : IsFileOf overhead d bytes stores core) → (other : IsFileOf overhead d' bytes stores' core')
    → (stores ≡ stores') × (d ≡ d') × (core ≡ core') × (file.note ≡ other.note)
