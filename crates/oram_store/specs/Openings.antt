-- What a store's opening loses, from before its log is renewed until it is opened: nothing.
use Rattle.std.specs.Prelude.{◌≡◌, ◌⊎◌, ℕ, List}
use Rattle.oram_redo.specs.Content.{Content}
use Rattle.oram_redo.specs.FilePair.{Contents, FileModel, LeavesOnly}
use Rattle.oram_redo.specs.Log.{Patch, StandsFor}
use Rattle.oram_redo.specs.Memory.{LeavesBut, byte_of}
use Rattle.oram_redo.specs.NamedLog.{HasRead, MayBeFound}
use Rattle.oram_redo.specs.Note.{Call}
use Rattle.oram_redo.specs.Opened.{Opened, contents_in}
use Rattle.oram_redo.specs.Opening.{AreDurable, AreDurableNow, with_log}
use Rattle.oram_redo.specs.Renewal.{AtEachMoment, IsRenewed, NeverLosesEntries}
use Rattle.oram_store.specs.RecordFile.{bounds}

-- The two files that a store is opened over: the files as they were, if the log wasn't renewed, or else the file of records beside the log
-- that is found at the name since.
abbrev pub AreOpened : Opened → List Call → Opened → Type 0
AreOpened held calls opened = (opened ≡ held) ⊎ ((log : List ℕ) × IsRenewed bounds calls × MayBeFound held calls (byte_of log) × (opened ≡ with_log held log))

-- a pair is over these files
pub record IsOver {F : Type 0} (model : FileModel F) (opened : Opened) (files : F) : Type 0 where
  pub seen : model.seen files ≡ contents_in opened
  pub leaves : (c : Contents) → model.may_leave files c → LeavesBut opened.unsynced (contents_in opened) c

-- Whatever a loss of power leaves stands for the records, except in loose places: while these calls renew the log, and from when the pair
-- is made, as `first`, until it is `last`.
pub record StaysDurable {F : Type 0} (model : FileModel F) (loose : List Patch) (records : Content) (held : Opened) (calls : List Call) (first last : F) : Type 0 where
  pub renewal : AtEachMoment (AreDurableNow bounds loose records held) calls
  pub recovery : LeavesOnly model first last (StandsFor bounds loose records)

-- If the two files are durable before their opening, they stay so to its end.
abbrev pub LosesNothing : {F : Type 0} → FileModel F → F → F → Type 0
LosesNothing model first last = (loose : List Patch) (records : Content) (held opened : Opened) (calls : List Call) → AreDurable bounds loose records held
    → HasRead (byte_of held.log) calls → NeverLosesEntries bounds calls → AreOpened held calls opened → IsOver model opened first → StaysDurable model loose records held calls first last
