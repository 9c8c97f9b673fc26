-- A copy of a log takes its place, and the log that is found by the name keeps its entries.
use Rattle.std.specs.Prelude.{◌≡◌, ◌⊎◌, ◌<◌, ◌↔◌, ℕ, suc, ◌+◌, List, [], ◌∷◌, length, true}
use Rattle.oram_redo.specs.Content.{Content, Agrees}
use Rattle.oram_redo.specs.FilePair.{Contents}
use Rattle.oram_redo.specs.Log.{IsLog, Patch, StandsFor, entries}
use Rattle.oram_redo.specs.Memory.{byte_of}
use Rattle.oram_redo.specs.NamedLog.{HasRead, IsLeft, MayBeFound, copied}
use Rattle.oram_redo.specs.Note.{Call}
use Rattle.oram_redo.specs.Opened.{Opened}
use Rattle.oram_redo.specs.declared.bounds.Bounds.{Bounds}
use Rattle.oram_redo.specs.declared.file_pair.FileKind.TheVariants.{Log, Records}

-- A log has the front of another one, the entries of the same patches, and the same gate after them.
pub record HasEntriesOf (bounds : Bounds) (old new : Content) : Type 0 where
  pub front : (i : ℕ) → i < bounds.log_start → new i ≡ old i
  pub each : (patches : List Patch) → IsLog bounds patches old ↔ IsLog bounds patches new
  pub gate : (patches : List Patch) → IsLog bounds patches old → new (bounds.log_start + length (entries patches)) ≡ old (bounds.log_start + length (entries patches))

-- the first bytes of two logs are the same
abbrev pub AgreesBelow : ℕ → Content → Content → Type 0
AgreesBelow end log copy = (i : ℕ) → i < end → copy i ≡ log i

-- Nothing behind this place of the log counts: the place is where the room for a log ends, or it is right behind the first gate, and that
-- gate is shut.
abbrev pub IsEnough : Bounds → Content → ℕ → Type 0
IsEnough bounds log end = (end ≡ bounds.log_end) ⊎ ((end ≡ suc bounds.log_start) × (log bounds.log_start ≡ 15))

-- The copy has the bytes of the log that count.
abbrev pub IsCopy : Bounds → List Call → Type 0
IsCopy bounds calls = (log : Content) → HasRead log calls → (end : ℕ) × IsEnough bounds log end × AgreesBelow end log (copied calls)

-- P holds before the first of the calls, and after each of them.
abbrev pub AtEachMoment : (List Call → Type 0) → List Call → Type 0
AtEachMoment P [] = P []
AtEachMoment P (call ∷ calls) = P (call ∷ calls) × AtEachMoment P calls

-- A loss of power now leaves at the name what it might have left before the calls, or a log with the entries that were read.
abbrev pub KeepsEntries : Bounds → Opened → List Call → Type 0
KeepsEntries bounds held calls = (c : Content) → MayBeFound held calls c → IsLeft held c ⊎ HasEntriesOf bounds (byte_of held.log) c

-- So does a loss of power at each moment.
abbrev pub NeverLosesEntries : Bounds → List Call → Type 0
NeverLosesEntries bounds calls = (held : Opened) → HasRead (byte_of held.log) calls → AtEachMoment (KeepsEntries bounds held) calls

-- From now on, a loss of power leaves a log with the entries that were read, even where no sync had covered them.
abbrev pub IsRenewed : Bounds → List Call → Type 0
IsRenewed bounds calls = (held : Opened) → HasRead (byte_of held.log) calls → (c : Content) → MayBeFound held calls c → HasEntriesOf bounds (byte_of held.log) c

-- A loss of power leaves at the name what it might have left before the calls.
abbrev pub IsAsBefore : List Call → Type 0
IsAsBefore calls = (held : Opened) (c : Content) → MayBeFound held calls c → IsLeft held c

-- Files stand for the same records with another log that has the same entries.
abbrev pub RenewedFilesStand : Type 0
RenewedFilesStand = (bounds : Bounds) (loose : List Patch) (records : Content) (old new : Contents) → HasEntriesOf bounds (old Log) (new Log) → Agrees (new Records) (old Records)
    → StandsFor bounds loose records old → StandsFor bounds loose records new

-- An example: a log of one byte, which no sync has covered, and the calls that renew it.
abbrev pub short_log : Opened
short_log = record { records = []; log = 7 ∷ []; unsynced = record { file = Log; at = 0; len = 1 } ∷ [] }

abbrev pub call : ℕ → ℕ → List ℕ → Call
call kind at bytes = record { kind = kind; file = Log; at = at; is_ok = true; bytes = bytes }

abbrev pub is_copied : List Call
is_copied = call 2 1 [] ∷ call 1 0 (7 ∷ []) ∷ call 2 0 (7 ∷ []) ∷ call 2 4096 [] ∷ []

abbrev pub is_renamed : List Call
is_renamed = call 5 0 [] ∷ call 3 0 [] ∷ is_copied

abbrev pub is_renewed : List Call
is_renewed = call 6 0 [] ∷ is_renamed

-- Its reads have given what was there. Once it is renamed, a loss of power may leave a log of another byte, or the copy.
abbrev pub RenewalExample : Type 0
RenewalExample = HasRead (byte_of short_log.log) is_renewed
    × MayBeFound short_log is_renamed (byte_of (8 ∷ []))
    × MayBeFound short_log is_renamed (byte_of short_log.log)
    × MayBeFound short_log is_renewed (byte_of short_log.log)

-- Without a sync of the copy, a loss of power may take the entries. Without a sync of the folder, it may leave the old log.
abbrev pub BothSyncsAreNeeded : Type 0
BothSyncsAreNeeded = (bounds : Bounds) → 0 < bounds.log_start
    → (¬ NeverLosesEntries bounds (call 6 0 [] ∷ call 5 0 [] ∷ is_copied)) × (¬ IsRenewed bounds is_renamed)
