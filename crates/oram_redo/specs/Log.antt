-- The log: the entries of patches, one after the other, and then a byte that is not 255.
use Rattle.std.specs.Prelude.{◌≡◌, ◌⊎◌, ◌<◌, ◌≤◌, ℕ, ◌+◌, ◌^◌, List, [], ◌∷◌, ◌++◌, length, All, ⊤}
use Rattle.std.specs.Hash.DefaultHasher as sip
use Rattle.std.specs.Int.{w32, w64, to_le_bytes}
use Rattle.oram_redo.specs.Content.{Content, Agrees, Has, put}
use Rattle.oram_redo.specs.FilePair.{Contents}
use Rattle.oram_redo.specs.declared.file_pair.FileKind.TheVariants.{Records, Log}
use Rattle.oram_redo.specs.declared.bounds.Bounds.{Bounds}

-- bytes for a place of the records' file
abbrev pub Patch : Type 0
Patch = ℕ × List ℕ

-- The patch ends within the records' file, and its place and its length have room in an entry.
pub record Fits (bounds : Bounds) (patch : Patch) : Type 0 where
  pub within : patch.0 + length patch.1 ≤ bounds.records_end
  pub place_fits : patch.0 < 2 ^ 64
  pub length_fits : length patch.1 < 2 ^ 32

-- a place in 8 bytes, and a length in 4, the low byte first
unfoldable pub place_bytes : ℕ → List ℕ
place_bytes place = to_le_bytes w64 place

unfoldable pub length_bytes : ℕ → List ℕ
length_bytes len = to_le_bytes w32 len

abbrev pub place_and_length : ℕ → ℕ → List ℕ
place_and_length place len = place_bytes place ++ length_bytes len

-- SipHash-1-3 with keys of zeros, in 8 bytes. It tells whether a text is still the one that was written.
unfoldable pub check_bytes : List ℕ → List ℕ
check_bytes text = to_le_bytes w64 (sip.finish (sip.write sip.initial text))

-- what an entry says: the place, the length, and the bytes
abbrev pub entry_text : Patch → List ℕ
entry_text patch = place_and_length patch.0 (length patch.1) ++ patch.1

-- An entry: its gate, which is 255, what it says, and the checksum of that.
abbrev pub entry : Patch → List ℕ
entry patch = 255 ∷ (entry_text patch ++ check_bytes (entry_text patch))

abbrev pub entries : List Patch → List ℕ
entries [] = []
entries (p ∷ ps) = entry p ++ entries ps

-- The log holds the entries of these patches and no others: the gate after them is not 255. The bytes after that gate
-- don't count.
pub record IsLog (bounds : Bounds) (patches : List Patch) (log : Content) : Type 0 where
  pub stands : Has (entries patches) bounds.log_start log
  pub shut : log (bounds.log_start + length (entries patches)) ≡ 255 → ⊥
  pub within : bounds.log_start + length (entries patches) < bounds.log_end
  pub each : All (Fits bounds) patches

-- The gate after the log's last entry is neither open (255) nor shut (15). A crash leaves that only if it tears the write of a
-- single byte; more likely, the byte has changed since, or the log was cut off there, where a read returns 0.
pub record HasOddGate (bounds : Bounds) (log : Content) : Type 0 where
  pub patches : List Patch
  pub is : IsLog bounds patches log
  pub odd : log (bounds.log_start + length (entries patches)) ≡ 15 → ⊥

abbrev pub put_all : List Patch → Content → Content
put_all [] c = c
put_all (p ∷ ps) c = put_all ps (put p.1 p.0 c)

-- no patch reaches the place
abbrev pub Spares : List Patch → ℕ → Type 0
Spares [] i = ⊤
Spares (p ∷ ps) i = (i < p.0 ⊎ p.0 + length p.1 ≤ i) × Spares ps i

-- contents that agree except where one of the patches reaches
abbrev pub AgreesBut : List Patch → Content → Content → Type 0
AgreesBut ps c d = (i : ℕ) → Spares ps i → c i ≡ d i

-- Files stand for these records: writing the log's patches into the records' file gives the records, except in the
-- places of `loose`. Loose patches are patches that the log doesn't have and that no sync has covered.
pub record StandsFor (bounds : Bounds) (loose : List Patch) (records : Content) (files : Contents) : Type 0 where
  pub patches : List Patch
  pub log : IsLog bounds patches (files Log)
  pub gives : AgreesBut loose (put_all patches (files Records)) records

-- the bytes before the log's entries are as they were
abbrev pub SameFront : Bounds → Contents → Contents → Type 0
SameFront bounds old new = (i : ℕ) → i < bounds.log_start → new Log i ≡ old Log i

-- Files stand for the records that were read before, except in loose places.
pub record Keeps (bounds : Bounds) (loose : List Patch) (before files : Contents) : Type 0 where
  pub front : SameFront bounds before files
  pub stands : StandsFor bounds loose (before Records) files

-- After a crash in the middle of a batch: files stand for what was read before, with all of the batch or with none of
-- it.
pub record AllOrNothing (bounds : Bounds) (loose : List Patch) (before : Contents) (batch : List Patch) (files : Contents) : Type 0 where
  pub front : SameFront bounds before files
  pub stands : StandsFor bounds loose (before Records) files ⊎ StandsFor bounds loose (put_all batch (before Records)) files

-- Files stand for the same records as the files before.
pub record StandsAlike (bounds : Bounds) (before files : Contents) : Type 0 where
  pub front : SameFront bounds before files
  pub records : Content
  pub was : StandsFor bounds [] records before
  pub is : StandsFor bounds [] records files

-- the places of the patches may have any bytes, and no other byte changed
pub record Smeared (patches : List Patch) (old new : Contents) : Type 0 where
  pub records : AgreesBut patches (new Records) (old Records)
  pub log : Agrees (new Log) (old Log)
