-- Nothing is lost while two files are opened: while the log is renewed, when a pair is made of the file of records and of the log that is
-- found then, and while that pair is recovered.
use Rattle.std.specs.Prelude.{◌≡◌, ◌⊎◌, ℕ, List, []}
use Rattle.oram_redo.specs.Content.{Content}
use Rattle.oram_redo.specs.FilePair.{Contents}
use Rattle.oram_redo.specs.Log.{Patch, StandsAlike, StandsFor}
use Rattle.oram_redo.specs.Memory.{IsOutside, LeavesBut, byte_of}
use Rattle.oram_redo.specs.NamedLog.{HasRead, MayBeFound}
use Rattle.oram_redo.specs.Note.{Call}
use Rattle.oram_redo.specs.Opened.{Opened, contents_in}
use Rattle.oram_redo.specs.Renewal.{AtEachMoment, IsRenewed, NeverLosesEntries, is_renewed, short_log}
use Rattle.oram_redo.specs.System.{ranges_of_other}
use Rattle.oram_redo.specs.declared.bounds.Bounds.{Bounds}
use Rattle.oram_redo.specs.declared.file_pair.FileKind.TheVariants.{Log, Records}

-- Whatever a loss of power leaves of these two files stands for the records, except in loose places.
abbrev pub AreDurable : Bounds → List Patch → Content → Opened → Type 0
AreDurable bounds loose records held = (c : Contents) → LeavesBut held.unsynced (contents_in held) c → StandsFor bounds loose records c

-- What is found of the two files after a loss of power: in the file of records any bytes in places that no sync has covered, and at the
-- log's name the log or its copy.
abbrev pub MayBothBeFound : Opened → List Call → Contents → Type 0
MayBothBeFound held calls c = ((i : ℕ) → IsOutside held.unsynced Records i → c Records i ≡ byte_of held.records i) × MayBeFound held calls (c Log)

-- Whatever a loss of power leaves now, in the middle of a renewal, stands for the records, except in loose places.
abbrev pub AreDurableNow : Bounds → List Patch → Content → Opened → List Call → Type 0
AreDurableNow bounds loose records held calls = (c : Contents) → MayBothBeFound held calls c → StandsFor bounds loose records c

-- The file of records, beside another log that syncs have covered.
abbrev pub with_log : Opened → List ℕ → Opened
with_log held log = record { records = held.records; log = log; unsynced = ranges_of_other Log held.unsynced }

-- Neither a renewal by these calls nor the making of a pair after it loses anything of the records.
pub record LosesNothing (bounds : Bounds) (loose : List Patch) (records : Content) (held : Opened) (calls : List Call) : Type 0 where
  pub any_moment : NeverLosesEntries bounds calls → AtEachMoment (AreDurableNow bounds loose records held) calls
  pub after : IsRenewed bounds calls → (log : List ℕ) → MayBeFound held calls (byte_of log) → AreDurable bounds loose records (with_log held log)

-- If two files are durable, a renewal of their log loses nothing: whenever the power fails during it, the files that are found stand for the
-- same records; and the pair that is made afterwards is durable, too.
abbrev pub RenewalsLoseNothing : Type 0
RenewalsLoseNothing = (bounds : Bounds) (loose : List Patch) (records : Content) (held : Opened) (calls : List Call) → AreDurable bounds loose records held → HasRead (byte_of held.log) calls
    → LosesNothing bounds loose records held calls

-- Nor does the recovery of a pair that is durable: what its `any_moment` allows stands for the same records.
abbrev pub RecoveriesLoseNothing : Type 0
RecoveriesLoseNothing = (bounds : Bounds) (loose : List Patch) (records : Content) (held : Opened) (c : Contents) → AreDurable bounds loose records held
    → LeavesBut held.unsynced (contents_in held) c ⊎ StandsAlike bounds (contents_in held) c → StandsFor bounds loose records c

-- An example: the short log of the renewals, if its byte is part of the front. It has no entries, so the two files stand for records of zeros.
-- The premises of the two laws hold of it, and its calls renew it.
pub record OpeningExample (bounds : Bounds) : Type 0 where
  pub durable : AreDurable bounds [] (λ i. 0) short_log
  pub read : HasRead (byte_of short_log.log) is_renewed
  pub never : NeverLosesEntries bounds is_renewed
  pub renewed : IsRenewed bounds is_renewed
  pub found : MayBeFound short_log is_renewed (byte_of short_log.log)
  -- so nothing of the zeros is lost
  pub loses : LosesNothing bounds [] (λ i. 0) short_log is_renewed
