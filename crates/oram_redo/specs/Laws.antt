-- Laws of the definitions.
use Rattle.std.specs.Prelude.{◌≡◌, ℕ, List, [], ◌∷◌, true}
use Rattle.oram_redo.specs.Blank.{IsBlankFrom}
use Rattle.oram_redo.specs.Content.{Content, Agrees}
use Rattle.oram_redo.specs.FilePair.{Contents}
use Rattle.oram_redo.specs.Log.{Patch, IsLog, AgreesBut, StandsFor, put_all}
use Rattle.oram_redo.specs.Note.{Call}
use Rattle.oram_redo.specs.Opened.{Opened}
use Rattle.oram_redo.specs.System.{EndsAt, IsHonestHistory, seen_after}
use Rattle.oram_redo.specs.declared.file_pair.FileKind.{FileKind}
use Rattle.oram_redo.specs.declared.file_pair.FileKind.TheVariants.{Log}
use Rattle.oram_redo.specs.declared.bounds.Bounds.{Bounds}

-- A log holds only one list of patches.
abbrev pub LogsAreOne : Type 0
LogsAreOne = (bounds : Bounds) (ps qs : List Patch) (log : Content) → IsLog bounds ps log → IsLog bounds qs log → ps ≡ qs

-- Files stand for only one content of the records, except in loose places.
abbrev pub FilesStandForOne : Type 0
FilesStandForOne = (bounds : Bounds) (loose : List Patch) (r s : Content) (files : Contents) → StandsFor bounds [] r files → StandsFor bounds loose s files → AgreesBut loose r s

-- Writing patches again over whatever a crash left in their places gives the same content.
abbrev pub ReplayHeals : Type 0
ReplayHeals = (ps : List Patch) (c d : Content) → AgreesBut ps c d → Agrees (put_all ps c) (put_all ps d)

-- From a blank place on, an honest file holds zeros. So zeros that are written there, or cut off, change nothing that a read returns.
abbrev pub BlanksAreZeros : Type 0
BlanksAreZeros = (first : Opened) (file : FileKind) (at : ℕ) (calls : List Call) → IsBlankFrom file at calls → IsHonestHistory first calls → EndsAt (seen_after first calls file) at

-- An example: a log of one byte was asked for its length.
abbrev pub one_byte : Opened
one_byte = record { records = []; log = 7 ∷ []; unsynced = [] }

abbrev pub length_asked : List Call
length_asked = record { kind = 4; file = Log; at = 1; is_ok = true; bytes = [] } ∷ []

-- The premises of the law hold of it.
abbrev pub BlanksExample : Type 0
BlanksExample = IsBlankFrom Log 1 length_asked × IsHonestHistory one_byte length_asked
